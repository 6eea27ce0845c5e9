-- What a row may cover on the bench tree, by computation: its third plan's records, and ranges that are no such record (rule 100). Assumes nothing.
use Rattle.std.specs.Prelude.{◌≡◌, refl, Bool, true, ◌&&◌, not}
use Rattle.seq.specs.Search.{any}
use Rattle.layout.specs.declared.Shape.{Shape}
use Rattle.plan.specs.Fit.{covers_section, covers}

-- sections at 40, 264, 520, 584 and 592, and the end at 624
abbrev bench : Shape
bench = record { inodes = 7; entries = 8; texts = 1; handles = 1; width = 32 }

-- the journal record, two entries, four inodes; and the one text
abbrev taken : Bool
taken =
    covers bench 592 32 && covers bench 424 32 && covers bench 360 32 && covers bench 136 32 && covers bench 72 32 && covers bench 104 32 && covers bench 168 32
    && covers bench 520 64

-- the handle; a start between records; half a text; two entries; the table of contents; past the image
abbrev refused : Bool
refused =
    not (covers bench 584 8) && not (covers bench 56 32) && not (covers bench 520 32) && not (covers bench 264 64) && not (covers bench 8 32)
    && not (covers bench 624 32)

pub bench_covers : (taken && refused) ≡ true
unfolding covers covers_section any
bench_covers = refl
