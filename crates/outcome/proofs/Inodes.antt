-- What is read back from the inodes that a move writes: the moved one, and a parent. Assumes nothing.
use Rattle.std.specs.Prelude.{◌≡◌, List, ℕ, ◌<◌}
use Rattle.std.proofs.Common.{arith}
use Rattle.seq.specs.Bytes.{part}
use Rattle.seq.specs.Number.{span}
use Rattle.layout.specs.declared.Shape.{Shape}
use Rattle.layout.specs.Facts.{Laid}
use Rattle.layout.specs.View.{view_of, inode_at}
use Rattle.encode.specs.Facts.{Says}
use Rattle.edits.specs.Kinds.{IsDirectory}
use Rattle.edits.proofs.KindsLaws.{kind?}
use Rattle.recounts.specs.declared.Move.{Move}
use Rattle.results.specs.Results.{holder_bytes, moved_after}
use Rattle.results.proofs.RecordLaws.{moved_directory_says, moved_other_says, holder_says}
use Rattle.afresh.proofs.Inodes.{inode_long}

module _ {h : Shape} {s : List ℕ} (laid : Laid h s) (t : List ℕ) where
  -- the moved inode: a directory gets its new parent, and any inode keeps its link count
  module _ (m : Move) (time : m.now < span 8) (moved : m.moved < h.inodes) (written : inode_at h t m.moved ≡ moved_after h s m) where
    pub moved_says : m.into < h.inodes → IsDirectory (view_of h s) m.moved
        → Says (inode_at h s m.moved) (inode_at h t m.moved) ((view_of h s).links m.moved) m.into ((view_of h s).modified m.moved) m.now
    unfolding view_of
    moved_says into d =
        rw written (moved_directory_says _ (inode_long h s laid m.moved moved) m.now time m.into (omega (arith, into, laid.inodes_most)) d.1)

    pub moved_leaf_says : (IsDirectory (view_of h s) m.moved → ⊥)
        → Says (inode_at h s m.moved) (inode_at h t m.moved) ((view_of h s).links m.moved) ((view_of h s).field m.moved) ((view_of h s).modified m.moved) m.now
    unfolding view_of
    moved_leaf_says n = rw written (moved_other_says _ (inode_long h s laid m.moved moved) m.now time m.into (λ k. n (moved, k)))

    module _ (into : m.into < h.inodes) where
      -- either way
      moved_either : (P : Type 0) → ((field : ℕ)
          → Says (inode_at h s m.moved) (inode_at h t m.moved) ((view_of h s).links m.moved) field ((view_of h s).modified m.moved) m.now → P) → P
      moved_either P f = go (kind? (view_of h s) m.moved 2)
        where
          go : Dec (IsDirectory (view_of h s) m.moved) → P
          go (yes d) = f _ (moved_says into d)
          go (no n) = f _ (moved_leaf_says n)

      pub moved_links : (view_of h t).links m.moved ≡ (view_of h s).links m.moved
      unfolding view_of
      moved_links = moved_either _ (λ _ x. x.links)

      pub moved_head : part (inode_at h t m.moved) 0 12 ≡ part (inode_at h s m.moved) 0 12
      moved_head = moved_either _ (λ _ x. x.head.front)

  -- a parent: it gets this link count
  pub parent_says : (i links time : ℕ) → time < span 8 → i < h.inodes → links < 65536 → inode_at h t i ≡ holder_bytes links time (inode_at h s i)
      → Says (inode_at h s i) (inode_at h t i) links ((view_of h s).field i) time time
  unfolding view_of
  parent_says i links time small l few written = rw written (holder_says _ (inode_long h s laid i l) time small links few)
