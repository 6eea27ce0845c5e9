-- What is read back from an inode with a field written anew. Assumes nothing.
use Rattle.std.specs.Prelude.{◌≡◌, refl, ◌⊎◌, List, ℕ, ◌+◌, ◌<◌, ◌≤◌, length}
use Rattle.std.proofs.Common.{◌∙◌, inl, inr, arith}
use Rattle.seq.specs.Bytes.{put}
use Rattle.seq.specs.Number.{number_at, span, bytes_of}
use Rattle.seq.proofs.BytesLaws.{put_length, put_before, put_part_other}
use Rattle.seq.proofs.NumberLaws.{bytes_of_length, number_put, number_put_other}
use Rattle.layout.specs.Fields.{inode_links, inode_field, inode_modified, inode_changed}
use Rattle.encode.specs.Inode.{with_changed, with_field, with_links, with_modified}
use Rattle.encode.specs.Facts.{Head, Says}

-- an inode as it stands
pub says_itself : (r : List ℕ) → length r ≡ 32 → Says r r (inode_links r) (inode_field r) (inode_modified r) (inode_changed r)
says_itself r long = record {
  head = record { long = long; front = refl; kind = refl; system = refl; mode = refl; owner = refl; group = refl };
  links = refl;
  field = refl;
  modified = refl;
  changed = refl;
}

-- bytes put behind the head
head_put : (r x : List ℕ) (at : ℕ) (ys : List ℕ) → 12 ≤ at → Head r x → Head r (put x at ys)
head_put r x at ys behind h = record {
  long = put_length x at ys ∙ h.long;
  front = put_part_other x at ys 0 12 (inl (omega arith)) ∙ h.front;
  kind = put_before ys x at 0 (omega arith) ∙ h.kind;
  system = put_before ys x at 1 (omega arith) ∙ h.system;
  mode = number_put_other 2 x at ys 2 (inl (omega arith)) ∙ h.mode;
  owner = number_put_other 4 x at ys 4 (inl (omega arith)) ∙ h.owner;
  group = number_put_other 4 x at ys 8 (inl (omega arith)) ∙ h.group;
}

-- a number of k bytes that is put leaves one of j bytes beside it
beside : (k : ℕ) (x : List ℕ) (at v j i : ℕ) → (i + j ≤ at) ⊎ (at + k ≤ i) → number_at j (put x at (bytes_of k v)) i ≡ number_at j x i
beside k x at v j i h = number_put_other j x at (bytes_of k v) i (rw (bytes_of_length k v) h)

-- each writer changes what it is named for, and one may follow another
module _ {r x : List ℕ} {n f m c : ℕ} (says : Says r x n f m c) where
  wide : length x ≡ 32
  wide = says.head.long

  pub says_links : (v : ℕ) → v < 65536 → Says r (with_links v x) v f m c
  says_links v small = record {
    head = head_put r x 12 (bytes_of 2 v) (omega arith) says.head;
    links = number_put 2 x 12 v (omega (arith, wide)) small;
    field = beside 2 x 12 v 2 14 (inr (omega arith)) ∙ says.field;
    modified = beside 2 x 12 v 8 16 (inr (omega arith)) ∙ says.modified;
    changed = beside 2 x 12 v 8 24 (inr (omega arith)) ∙ says.changed;
  }

  pub says_field : (v : ℕ) → v < 65536 → Says r (with_field v x) n v m c
  says_field v small = record {
    head = head_put r x 14 (bytes_of 2 v) (omega arith) says.head;
    links = beside 2 x 14 v 2 12 (inl (omega arith)) ∙ says.links;
    field = number_put 2 x 14 v (omega (arith, wide)) small;
    modified = beside 2 x 14 v 8 16 (inr (omega arith)) ∙ says.modified;
    changed = beside 2 x 14 v 8 24 (inr (omega arith)) ∙ says.changed;
  }

  pub says_modified : (t : ℕ) → t < span 8 → Says r (with_modified t x) n f t c
  says_modified t small = record {
    head = head_put r x 16 (bytes_of 8 t) (omega arith) says.head;
    links = beside 8 x 16 t 2 12 (inl (omega arith)) ∙ says.links;
    field = beside 8 x 16 t 2 14 (inl (omega arith)) ∙ says.field;
    modified = number_put 8 x 16 t (omega (arith, wide)) small;
    changed = beside 8 x 16 t 8 24 (inr (omega arith)) ∙ says.changed;
  }

  pub says_changed : (t : ℕ) → t < span 8 → Says r (with_changed t x) n f m t
  says_changed t small = record {
    head = head_put r x 24 (bytes_of 8 t) (omega arith) says.head;
    links = beside 8 x 24 t 2 12 (inl (omega arith)) ∙ says.links;
    field = beside 8 x 24 t 2 14 (inl (omega arith)) ∙ says.field;
    modified = beside 8 x 24 t 8 16 (inl (omega arith)) ∙ says.modified;
    changed = number_put 8 x 24 t (omega (arith, wide)) small;
  }
