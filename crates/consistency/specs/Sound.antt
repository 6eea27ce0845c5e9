-- A consistent image (the papers' word is sound): one test for each of rules 6 to 40, in the order of the rules; rules 1 to 5, the layout, are in
-- layout/specs/Contents.antt. A reader has to believe this file. Assumes nothing.
use Rattle.std.specs.Prelude.{Bool, ◌&&◌, ◌||◌, not, List, [], ◌∷◌, ℕ, ◌+◌, ◌-◌, eqb, ltb, leb}
use Rattle.seq.specs.Search.{implies, all_pass, any, all}
use Rattle.seq.specs.Bytes.{zeros, no_zero}
use Rattle.layout.specs.declared.Shape.{Shape}
use Rattle.layout.specs.Limits.{journal_size, inode_size, text_size, handle_size, name_offset, mode_limit, link_limit, text_room}
use Rattle.layout.specs.Contents.{shape_of, layout_good}
use Rattle.layout.specs.View.{View, view_of, inode_at, entry_at, text_at, handle_at, journal_at, name_room, is_kind, is_directory, is_used, entry_used, text_used}
use Rattle.names.specs.Name.{plain_name, is_dots, clash}
use Rattle.tree.specs.Tree.{entries_of, child_directories, reaches, text_shared, has_text}

-- ---- the records

-- What a record is, by its type or its state. One of an unknown type is none of these, and rule 6 alone is told of it.
module _ (v : View) where
  abbrev pub free : ℕ → Bool
  free i = eqb (v.kind i) 0

  abbrev pub file : ℕ → Bool
  file i = eqb (v.kind i) 1

  abbrev pub directory : ℕ → Bool
  directory i = eqb (v.kind i) 2

  abbrev pub symlink : ℕ → Bool
  symlink i = eqb (v.kind i) 3

  -- a file or a symlink; and any inode in use
  abbrev pub leaf : ℕ → Bool
  leaf i = file i || symlink i

  abbrev pub known : ℕ → Bool
  known i = leaf i || directory i

  -- an open handle
  abbrev pub opened : ℕ → Bool
  opened n = leb 1 (v.state n) && leb (v.state n) 2

-- some symlink has text t
unfoldable pub text_linked : View → ℕ → Bool
text_linked v t = any (has_text v t) v.inodes

-- rule 14: the journal record is all zero
unfoldable pub journal_clear : Shape → List ℕ → Bool
journal_clear h s = zeros (journal_at h s) 0 journal_size

module _ (h : Shape) (s : List ℕ) where
  abbrev v : View
  v = view_of h s

  -- rule 6, of an inode; rule 7, of a handle
  abbrev pub type_known : ℕ → Bool
  type_known i = leb (v.kind i) 3

  abbrev pub state_known : ℕ → Bool
  state_known n = leb (v.state n) 2

  -- rule 8; rule 9, of inode 0
  abbrev pub file_field : ℕ → Bool
  file_field i = implies (file v i) (eqb (v.field i) 0)

  abbrev pub root_field : Bool
  root_field = implies (directory v 0) (eqb (v.field 0) 0)

  -- rule 10, of an entry: the three bytes behind the length, and those behind the name
  abbrev pub entry_zeros : ℕ → Bool
  entry_zeros j =
      implies (entry_used v j) (zeros (entry_at h s j) 5 3 && zeros (entry_at h s j) (name_offset + v.name_length j) (name_room h - v.name_length j))

  -- rules 11 and 12, of a text
  abbrev pub text_short : ℕ → Bool
  text_short t = leb (v.text_length t) text_room

  abbrev pub text_zeros : ℕ → Bool
  text_zeros t = implies (text_used v t) (zeros (text_at h s t) (1 + v.text_length t) (text_room - v.text_length t))

  -- rule 13, of a handle
  abbrev pub handle_zeros : ℕ → Bool
  handle_zeros n = implies (opened v n) (zeros (handle_at h s n) 1 1 && zeros (handle_at h s n) 4 4)

  -- rules 15 to 18: what is free is all zero (rule 14, of the journal record, is above)
  abbrev pub inode_free : ℕ → Bool
  inode_free i = implies (free v i) (zeros (inode_at h s i) 0 inode_size)

  abbrev pub is_free_entry : ℕ → Bool
  is_free_entry j = implies (not (entry_used v j)) (zeros (entry_at h s j) 0 h.width)

  abbrev pub text_free : ℕ → Bool
  text_free t = implies (not (text_used v t)) (zeros (text_at h s t) 0 text_size)

  abbrev pub handle_closed : ℕ → Bool
  handle_closed n = implies (eqb (v.state n) 0) (zeros (handle_at h s n) 0 handle_size)

  -- rules 19 and 20; of a root of an unknown type rule 6 alone is told
  abbrev pub mode_small : ℕ → Bool
  mode_small i = implies (known v i) (ltb (v.mode i) mode_limit)

  abbrev pub root_directory : Bool
  root_directory = implies (not (ltb 0 v.inodes && ltb 3 (v.kind 0))) (is_directory v 0)

  -- rules 21 to 26, of an entry
  abbrev pub target_below_root : ℕ → Bool
  target_below_root j = implies (entry_used v j) (not (eqb (v.target j) 0))

  abbrev pub parent_directory : ℕ → Bool
  parent_directory j = implies (entry_used v j) (is_directory v (v.parent j))

  abbrev pub target_used : ℕ → Bool
  target_used j = implies (entry_used v j) (is_used v (v.target j))

  abbrev pub name_short : ℕ → Bool
  name_short j = implies (entry_used v j) (leb (v.name_length j) (name_room h))

  -- of a name that is longer than its room rules 25 to 27 ask nothing
  abbrev pub name_read : ℕ → Bool
  name_read j = entry_used v j && leb (v.name_length j) (name_room h)

  abbrev pub name_plain : ℕ → Bool
  name_plain j = implies (name_read j) (plain_name (v.name j))

  abbrev pub name_no_dots : ℕ → Bool
  name_no_dots j = implies (name_read j) (not (is_dots (v.name j)))

  -- rule 27: no entry before it has its parent and its name
  abbrev pub name_once : ℕ → Bool
  name_once j = implies (name_read j) (not (any (λ i. name_read i && clash v i j) j))

  -- rule 28, of a directory; rule 29, of its entry; rule 30
  abbrev pub one_entry_only : ℕ → Bool
  one_entry_only i = implies (directory v i && not (eqb i 0)) (eqb (entries_of v i) 1)

  abbrev pub field_parent : ℕ → Bool
  field_parent j =
      implies (entry_used v j && is_directory v (v.target j) && not (eqb (v.target j) 0)) (eqb (v.field (v.target j)) (v.parent j))

  abbrev pub leads_to_root : ℕ → Bool
  leads_to_root i = implies (directory v i) (reaches v 0 v.inodes i)

  -- rules 31 to 34, of an inode
  abbrev pub directory_count : ℕ → Bool
  directory_count i = implies (directory v i) (eqb (v.links i) (2 + child_directories v i))

  abbrev pub leaf_count : ℕ → Bool
  leaf_count i = implies (leaf v i) (eqb (v.links i) (entries_of v i))

  abbrev pub leaf_linked : ℕ → Bool
  leaf_linked i = implies (leaf v i) (leb 1 (v.links i))

  abbrev pub links_within : ℕ → Bool
  links_within i = implies (known v i) (leb (v.links i) link_limit)

  -- rule 35, of the entry that holds a file or a symlink
  abbrev pub system_shared : ℕ → Bool
  system_shared j =
      implies (entry_used v j && is_directory v (v.parent j) && (is_kind v (v.target j) 1 || is_kind v (v.target j) 3))
      (eqb (v.system (v.target j)) (v.system (v.parent j)))

  -- rules 36 and 37, of a symlink
  abbrev pub has_text_in_use : ℕ → Bool
  has_text_in_use i = ltb (v.field i) v.texts && text_used v (v.field i)

  abbrev pub symlink_text : ℕ → Bool
  symlink_text i = implies (symlink v i) (has_text_in_use i)

  abbrev pub text_own : ℕ → Bool
  text_own i = implies (symlink v i && has_text_in_use i) (not (text_shared v i))

  -- rules 38 and 39, of a text; rule 40, of a handle. Of a text that is longer than its room rule 38 asks nothing
  abbrev pub text_plain : ℕ → Bool
  text_plain t = implies (text_used v t && text_short t) (no_zero (v.text t))

  abbrev pub text_held : ℕ → Bool
  text_held t = implies (text_used v t) (text_linked v t)

  abbrev pub handle_names : ℕ → Bool
  handle_names n = implies (opened v n) (is_used v (v.opened n))

  -- rules 6 to 13 and 15 to 40, each of all records that it is about
  abbrev pub body_rules : List Bool
  body_rules =
      all type_known h.inodes ∷ all state_known h.handles ∷ all file_field h.inodes ∷ root_field ∷ all entry_zeros h.entries
      ∷ all text_short h.texts ∷ all text_zeros h.texts ∷ all handle_zeros h.handles
      ∷ all inode_free h.inodes ∷ all is_free_entry h.entries ∷ all text_free h.texts ∷ all handle_closed h.handles
      ∷ all mode_small h.inodes ∷ root_directory ∷ all target_below_root h.entries ∷ all parent_directory h.entries ∷ all target_used h.entries
      ∷ all name_short h.entries ∷ all name_plain h.entries ∷ all name_no_dots h.entries ∷ all name_once h.entries
      ∷ all one_entry_only h.inodes ∷ all field_parent h.entries ∷ all leads_to_root h.inodes
      ∷ all directory_count h.inodes ∷ all leaf_count h.inodes ∷ all leaf_linked h.inodes ∷ all links_within h.inodes
      ∷ all system_shared h.entries ∷ all symlink_text h.inodes ∷ all text_own h.inodes
      ∷ all text_plain h.texts ∷ all text_held h.texts ∷ all handle_names h.handles ∷ []

  -- the records in front of the journal record
  unfoldable pub bodies_good : Bool
  bodies_good = all_pass body_rules

-- rules 1 to 40: a consistent image (rule 14 ahead of the other records, as check asks)
abbrev pub sound_rules : List ℕ → List Bool
sound_rules s = layout_good s ∷ journal_clear (shape_of s) s ∷ bodies_good (shape_of s) s ∷ []
