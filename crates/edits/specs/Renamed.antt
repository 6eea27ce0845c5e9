-- The finished view of a rename as a definition: the entries as edited, the inodes by recount of them. Assumes nothing.
use Rattle.std.specs.Prelude.{Bool, ◌&&◌, ◌||◌, List, [], ℕ, ◌+◌, eqb, length}
use Rattle.std.proofs.Math.Bool.{cond}
use Rattle.layout.specs.View.{View, entry_used, is_directory, is_symlink}
use Rattle.tree.specs.Tree.{entries_of, child_directories}

module _ (v : View) (old new moved from into : ℕ) (called : List ℕ) where
  -- one value at the new slot, another at the old slot, and elsewhere as before
  abbrev at_slots : {A : Type 0} → A → A → (ℕ → A) → ℕ → A
  at_slots x y f j = cond (eqb j new) x (cond (eqb j old) y (f j))

  -- the entries as edited, the inodes as before
  unfoldable pub edited_view : View
  edited_view = record {
    inodes = v.inodes;
    entries = v.entries;
    texts = v.texts;
    handles = v.handles;
    room = v.room;
    kind = v.kind;
    system = v.system;
    mode = v.mode;
    owner = v.owner;
    group = v.group;
    links = v.links;
    field = v.field;
    modified = v.modified;
    changed = v.changed;
    parent = at_slots into 0 v.parent;
    target = at_slots moved 0 v.target;
    name_length = at_slots (length called) 0 v.name_length;
    name = at_slots called [] v.name;
    text_length = v.text_length;
    text = v.text;
    state = v.state;
    opened = v.opened;
  }

  -- inode i is replaced, and has no entry left
  abbrev pub is_replaced : ℕ → Bool
  is_replaced i = entry_used v new && eqb (v.target new) i

  abbrev pub is_gone : ℕ → Bool
  is_gone i = is_replaced i && eqb (entries_of edited_view i) 0

  -- link counts, fields and texts
  abbrev pub links_of : ℕ → ℕ
  links_of i = cond (eqb i from || eqb i into) (2 + child_directories edited_view i) (cond (is_replaced i) (entries_of edited_view i) (v.links i))

  abbrev pub field_of : ℕ → ℕ
  field_of i = cond (eqb i moved && is_directory v moved) into (v.field i)

  abbrev pub text_gone : ℕ → Bool
  text_gone t = is_gone (v.target new) && is_symlink v (v.target new) && eqb (v.field (v.target new)) t

  -- the finished view, but for the times: no rule of a consistent image speaks of them
  unfoldable pub moved_view : View
  unfolding edited_view
  moved_view = record {
    inodes = v.inodes;
    entries = v.entries;
    texts = v.texts;
    handles = v.handles;
    room = v.room;
    kind = λ i. cond (is_gone i) 0 (v.kind i);
    system = λ i. cond (is_gone i) 0 (v.system i);
    mode = λ i. cond (is_gone i) 0 (v.mode i);
    owner = λ i. cond (is_gone i) 0 (v.owner i);
    group = λ i. cond (is_gone i) 0 (v.group i);
    links = λ i. cond (is_gone i) 0 (links_of i);
    field = λ i. cond (is_gone i) 0 (field_of i);
    modified = v.modified;
    changed = v.changed;
    parent = edited_view.parent;
    target = edited_view.target;
    name_length = edited_view.name_length;
    name = edited_view.name;
    text_length = λ t. cond (text_gone t) 0 (v.text_length t);
    text = v.text;
    state = v.state;
    opened = v.opened;
  }
