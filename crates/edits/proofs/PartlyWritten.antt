-- Records written in part, an inode behind its first twelve bytes or the target of an entry: what a view reads, and that they stay well formed. Assumes nothing.
use Rattle.std.specs.Prelude.{◌≡◌, true, List, ℕ, ◌+◌, ◌<◌, get_or}
use Rattle.std.proofs.Common.{sym, ap, ◌∙◌, inl, inr, zero-add, arith}
use Rattle.std.proofs.Math.Decide.{ℕ_discrete}
use Rattle.seq.specs.Bytes.{part}
use Rattle.seq.proofs.BytesLaws.{part_byte}
use Rattle.seq.proofs.NumberLaws.{number_same}
use Rattle.layout.specs.declared.Shape.{Shape}
use Rattle.layout.specs.Facts.{Laid}
use Rattle.layout.proofs.RecordLaws.{record_length}
use Rattle.layout.specs.View.{view_of, inode_at, entry_at}
use Rattle.encode.specs.Facts.{Names}
use Rattle.encode.specs.Entry.{retargeted}
use Rattle.encode.specs.EntryLaws.{names_itself, names_target}
use Rattle.names.specs.NameTests.{name_good}
use Rattle.edits.specs.Kinds.{EntryUsed}
use Rattle.edits.specs.Edit.{SameInode}
use Rattle.edits.specs.Formed.{EntryForm, Formed, InodeFormed}

-- inodes that have the first twelve bytes in common
head_byte : (r x : List ℕ) → part r 0 12 ≡ part x 0 12 → (k : ℕ) → k < 12 → get_or r k 0 ≡ get_or x k 0
head_byte r x e k l =
    let z : 0 + k ≡ k = zero-add k in
    sym (rw z at (part_byte r 0 12 k l)) ∙ ap (λ y. get_or y k 0) e ∙ (rw z at (part_byte x 0 12 k l))

module _ (h : Shape) (s t : List ℕ) (i : ℕ) (head : part (inode_at h t i) 0 12 ≡ part (inode_at h s i) 0 12) where
  pub same_head : SameInode (view_of h s) (view_of h t) i
  unfolding view_of
  same_head =
      let byte = head_byte _ _ head in
      record { kind = byte 0 (omega arith); system = byte 1 (omega arith); mode = number_same 2 _ _ 2 2 (λ k b. byte (2 + k) (omega arith)) }

  -- a free inode is zero, if free inodes are not written
  pub head_form : ((view_of h s).kind i ≡ 0 → inode_at h t i ≡ inode_at h s i) → InodeFormed h s t i
  head_form free = go (ℕ_discrete ((view_of h s).kind i) 0)
    where
      go : Dec ((view_of h s).kind i ≡ 0) → InodeFormed h s t i
      go (yes e) = inl (free e)
      go (no n) = inr (λ z. absurd (n (sym same_head.kind ∙ z)))

-- an entry in use as it stands, and with another target
module _ {h : Shape} {s : List ℕ} (laid : Laid h s) (form : Formed h s) (j : ℕ) (used : EntryUsed (view_of h s) j) where
  pub entry_itself : Names (entry_at h s j) h.width ((view_of h s).parent j) ((view_of h s).target j) ((view_of h s).name j)
  unfolding view_of
  entry_itself =
      let e = form.entry j used.0 used.1 in
      names_itself (entry_at h s j) h.width (record_length h s 1 j laid.long (omega arith) used.0) (omega (arith, e.short, laid.width_least))
      e.padded e.filled

  pub retargeted_names : (target : ℕ) → target < h.inodes
      → Names (retargeted target (entry_at h s j)) h.width ((view_of h s).parent j) target ((view_of h s).name j)
  retargeted_names target l = names_target entry_itself target (omega (arith, l, laid.inodes_most))

-- an entry with a good name is well formed
pub names_form : (h : Shape) (t : List ℕ) (j : ℕ) {parent target : ℕ} {name : List ℕ} → Names (entry_at h t j) h.width parent target name
    → name_good name ≡ true → EntryForm h t j
unfolding view_of
names_form h t j names good = record {
  short = rw names.name_length_lem (omega (arith, names.fits));
  padded = names.padded;
  filled = rw names.name_length_lem names.filled;
  name = rw names.name good;
}
