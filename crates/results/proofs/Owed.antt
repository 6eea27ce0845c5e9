-- What an operation owes for each of its rows, for the rows of the results and the one that clears the journal record (rule 84). Assumes nothing.
use Rattle.std.specs.Prelude.{◌≡◌, refl, ◌≢◌, Bool, true, false, not, List, ◌++◌, ℕ, ◌<◌, eqb, length}
use Rattle.std.proofs.Common.{◌∙◌, lit<, lit≤}
use Rattle.std.proofs.lemmas.List.{length-replicate}
use Rattle.std.proofs.lemmas.Bool.{eqb-false, not-true}
use Rattle.layout.specs.declared.Shape.{Shape}
use Rattle.layout.specs.Limits.{absent}
use Rattle.layout.specs.Facts.{Laid}
use Rattle.layout.proofs.RecordLaws.{record_length}
use Rattle.layout.specs.View.{inode_at}
use Rattle.plan.specs.Form.{result_group, clear_group}
use Rattle.plan.specs.FitFacts.{Writes}
use Rattle.plan.specs.Write.{Write, inode_key, entry_key, text_key, journal_key}
use Rattle.plan.specs.Filled.{AllWrites}
use Rattle.plan.proofs.WriteLaws.{writes_join}
use Rattle.recounts.specs.declared.Move.{Move}
use Rattle.results.specs.Results.{present, free_record, moved_after, holder_after, replaced_after, when, holder_row, replaced_row, text_row, into_rows, replaced_rows, text_rows, results}
use Rattle.results.specs.InImage.{InImage}
use Rattle.results.proofs.Again.{moved_length, holder_length, replaced_length}

-- an inode with bytes of its length
pub inode_writes : (h : Shape) (i : ℕ) (body : List ℕ) → i < h.inodes → length body ≡ 32 → Writes h result_group (inode_key i) body
inode_writes h i body l whole = record {
  first = lit≤ tt;
  last = lit≤ tt;
  valid = record { in_image = lit< tt; in_section = l };
  allowed = refl;
  whole = whole;
}

pub when_writes : (h : Shape) (b : Bool) (w : Write) → (b ≡ true → Writes h w.group w.key w.body) → AllWrites h (when b w)
when_writes h true w f = (f refl, tt)
when_writes h false w f = tt

module _ (h : Shape) (s : List ℕ) (m : Move) (laid : Laid h s) (range : InImage h m) where
  long : (i : ℕ) → i < h.inodes → length (inode_at h s i) ≡ 32
  long i l = record_length h s 0 i laid.long (lit< tt) l

  pub old_writes : Writes h result_group (entry_key m.old) (free_record h 1)
  old_writes = record {
    first = lit≤ tt;
    last = lit≤ tt;
    valid = record { in_image = lit< tt; in_section = range.old };
    allowed = refl;
    whole = length-replicate h.width 0;
  }

  pub moved_writes : Writes h result_group (inode_key m.moved) (moved_after h s m)
  moved_writes = inode_writes h m.moved _ range.moved (moved_length m.into m.now _ ∙ long m.moved range.moved)

  pub holder_writes : (i : ℕ) → i < h.inodes → Writes h result_group (inode_key i) (holder_after h s m i)
  holder_writes i l = inode_writes h i _ l (holder_length _ m.now _ ∙ long i l)

  pub replaced_writes : m.replaced ≢ absent → Writes h result_group (inode_key m.replaced) (replaced_after h s m)
  replaced_writes named =
      inode_writes h m.replaced _ (range.replaced named) (replaced_length h _ _ m.now _ (long m.replaced (range.replaced named)))

  pub text_writes : m.text ≢ absent → Writes h result_group (text_key m.text) (free_record h 2)
  text_writes named = record {
    first = lit≤ tt;
    last = lit≤ tt;
    valid = record { in_image = lit< tt; in_section = range.text named };
    allowed = refl;
    whole = refl;
  }

  -- all rows of the results
  pub results_write : AllWrites h (results h s m)
  unfolding results
  results_write =
      let into = when_writes h (not (eqb m.into m.from)) (holder_row h s m m.into) (λ _. holder_writes m.into range.into) in
      let replaced = when_writes h (present m.replaced) (replaced_row h s m) (λ e. replaced_writes (eqb-false _ _ (not-true _ e))) in
      let text = when_writes h (present m.text) (text_row h s m) (λ e. text_writes (eqb-false _ _ (not-true _ e))) in (
        old_writes,
        (
          moved_writes,
          (
            holder_writes m.from range.from,
            writes_join h (into_rows h s m ++ replaced_rows h s m) (text_rows h s m) (writes_join h (into_rows h s m) (replaced_rows h s m) into replaced) text,
          ),
        ),
      )

pub clear_writes : (h : Shape) → Writes h clear_group journal_key (free_record h 4)
clear_writes h = record {
  first = lit≤ tt;
  last = lit≤ tt;
  valid = record { in_image = lit< tt; in_section = lit< tt };
  allowed = refl;
  whole = refl;
}
