-- What a change that keeps or forms its records leaves of the rules on a record's own bytes. Assumes nothing.
use Rattle.std.specs.Prelude.{◌≡◌, List, ℕ, ◌<◌}
use Rattle.std.proofs.Math.Logic.{⊎_elim}
use Rattle.layout.specs.declared.Shape.{Shape}
use Rattle.layout.specs.View.{view_of, entry_at, text_at, handle_at}
use Rattle.edits.specs.Formed.{EntryForm, TextForm, HandleForm, Formed, InodeFormed, EntryFormed, TextFormed, HandleFormed}

-- a record that keeps its bytes keeps its form
module _ (h : Shape) (s t : List ℕ) where
  same_entry_form : (j : ℕ) → entry_at h t j ≡ entry_at h s j → EntryForm h s j → EntryForm h t j
  unfolding view_of
  same_entry_form j e o = record { short = rw e o.short; padded = rw e o.padded; filled = rw e o.filled; name = rw e o.name }

  same_text_form : (x : ℕ) → text_at h t x ≡ text_at h s x → TextForm h s x → TextForm h t x
  unfolding view_of
  same_text_form x e o = record { short = rw e o.short; filled = rw e o.filled; bytes = rw e o.bytes }

  same_handle_form : (n : ℕ) → handle_at h t n ≡ handle_at h s n → HandleForm h s n → HandleForm h t n
  unfolding view_of
  same_handle_form n e o = record { state = rw e o.state; second = rw e o.second; rest = rw e o.rest; closed = rw e o.closed }

  -- every record kept its bytes, or is well formed
  pub formed_changed : Formed h s
      → ((i : ℕ) → i < h.inodes → InodeFormed h s t i)
      → ((j : ℕ) → j < h.entries → EntryFormed h s t j)
      → ((x : ℕ) → x < h.texts → TextFormed h s t x)
      → ((n : ℕ) → n < h.handles → HandleFormed h s t n)
      → Formed h t
  unfolding view_of
  formed_changed f inode entry text handle = record {
    free_inode = λ i l. ⊎_elim (λ e. rw e (f.free_inode i l)) (λ r. r) (inode i l);
    free_entry = λ j l. ⊎_elim (λ e. rw e (f.free_entry j l)) (λ r. r.0) (entry j l);
    entry = λ j l. ⊎_elim (λ e u. same_entry_form j e (f.entry j l (rw e at u))) (λ r. r.1) (entry j l);
    text = λ x l. ⊎_elim (λ e. same_text_form x e (f.text x l)) (λ r. r) (text x l);
    handle = λ n l. ⊎_elim (λ e. same_handle_form n e (f.handle n l)) (λ r. r) (handle n l);
  }
