-- What a good layout gives to who reads or stores records, as facts. Assumes nothing.
use Rattle.std.specs.Prelude.{◌≡◌, true, List, ◌<◌, ℕ, ◌≤◌, length}
use Rattle.seq.specs.Bytes.{no_zero}
use Rattle.seq.specs.Number.{span}
use Rattle.layout.specs.declared.Shape.{Shape}
use Rattle.layout.specs.Limits.{widest_entry, entry_size, inode_limit, entry_limit, text_limit, handle_limit, text_room}
use Rattle.layout.specs.Place.{Key, records, image_bytes}
use Rattle.layout.specs.Contents.{layout_good, shape_of}
use Rattle.layout.specs.View.{entry_used, handle_open, is_directory, is_symlink, is_used, name_room, view_of}

-- a record that exists
pub record Valid (h : Shape) (k : Key) : Type 0 where
  pub in_image : k.section < 5
  pub in_section : k.index < records h k.section

-- A shape within the limits that the image s has: what every reader of records may rely on. It leaves the entry width open between this edition's and
-- the next's, and holds that every place fits the two bytes of an offset.
pub record Laid (h : Shape) (s : List ℕ) : Type 0 where
  pub inodes_least : 1 ≤ h.inodes
  pub inodes_most : h.inodes ≤ inode_limit
  pub entries_most : h.entries ≤ entry_limit
  pub texts_most : h.texts ≤ text_limit
  pub handles_most : h.handles ≤ handle_limit
  pub width_least : entry_size ≤ h.width
  pub width_most : h.width ≤ widest_entry
  pub small : image_bytes h ≤ span 2
  pub long : length s ≡ image_bytes h

-- a count of two bytes, of any image
pub record CountsFit (h : Shape) : Type 0 where
  pub inodes : h.inodes < 65536
  pub entries : h.entries < 65536
  pub texts : h.texts < 65536
  pub handles : h.handles < 65536
  pub width : h.width ≤ widest_entry

-- what a reader of the table of contents may conclude from its answer
pub record Read (s : List ℕ) (h : Shape) : Type 0 where
  pub good : layout_good s ≡ true
  pub shape : h ≡ shape_of s
  pub laid : Laid h s

-- A record as a reader is handed it: its bytes, and how many they are.
pub record Reads (r x : List ℕ) (n : ℕ) : Type 0 where
  pub is : r ≡ x
  pub long : length r ≡ n

-- Every number in a record leads somewhere: what a reader that follows them relies on. A consistent image is readable.
pub record Readable (h : Shape) (s : List ℕ) : Type 0 where
  pub laid : Laid h s
  pub root : (view_of h s).kind 0 ≡ 2
  pub kinds : (i : ℕ) → i < h.inodes → (view_of h s).kind i ≤ 3
  pub parents : (j : ℕ) → j < h.entries → entry_used (view_of h s) j ≡ true → is_directory (view_of h s) ((view_of h s).parent j) ≡ true
  pub targets : (j : ℕ) → j < h.entries → entry_used (view_of h s) j ≡ true → is_used (view_of h s) ((view_of h s).target j) ≡ true
  pub names : (j : ℕ) → j < h.entries → (view_of h s).name_length j ≤ name_room h
  pub above : (i : ℕ) → is_directory (view_of h s) i ≡ true → (view_of h s).field i < h.inodes
  pub symlinks : (i : ℕ) → is_symlink (view_of h s) i ≡ true → (view_of h s).field i < h.texts
  pub texts : (t : ℕ) → t < h.texts → (view_of h s).text_length t ≤ text_room
  pub plain : (t : ℕ) → t < h.texts → no_zero ((view_of h s).text t) ≡ true
  pub handles : (n : ℕ) → n < h.handles → handle_open (view_of h s) n ≡ true → is_used (view_of h s) ((view_of h s).opened n) ≡ true
