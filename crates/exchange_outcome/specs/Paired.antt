-- What an exchange that is not refused knows when it plans its rows. Assumes nothing.
use Rattle.std.specs.Prelude.{◌≡◌, true, List, ℕ, ◌<◌}
use Rattle.seq.specs.Number.{span}
use Rattle.layout.specs.declared.Shape.{Shape}
use Rattle.layout.specs.Limits.{absent}
use Rattle.layout.specs.Facts.{Read}
use Rattle.layout.specs.View.{view_of}
use Rattle.consistency.specs.Sound.{journal_clear}
use Rattle.consistency.specs.RecordFacts.{Bodies}
use Rattle.edits.specs.Exchanged.{Exchangeable}
use Rattle.recounts.specs.declared.Move.{Move}

pub record Paired (h : Shape) (s : List ℕ) (m : Move) : Type 0 where
  -- a consistent image
  pub read : Read s h
  pub bodies : Bodies h s
  pub clear : journal_clear h s ≡ true
  -- both walks, and the refusals that did not come
  pub allowed : Exchangeable (view_of h s) m.old m.new m.moved m.from m.replaced m.into
  -- the rest of the move: no text is freed
  pub text : m.text ≡ absent
  pub time : m.now < span 8
