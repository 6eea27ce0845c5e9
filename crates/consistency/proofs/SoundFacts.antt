-- The rules one by one and the facts of consistent bodies: each from the other. Assumes nothing.
use Rattle.std.specs.Prelude.{◌≡◌, ◌⊎◌, Bool, ◌&&◌, ◌||◌, List, ℕ, zero, suc, ◌+◌, ◌-◌, ◌≤◌, ◌<◌, eqb, leb, get_or}
use Rattle.std.proofs.Math.Path.{refl}
use Rattle.std.proofs.Common.{sym, ap, ◌∙◌, inl, inr, ⊎_elim, zero-add, arith}
use Rattle.std.proofs.Math.Bool.{true, false, not, and-false}
use Rattle.std.proofs.Math.Decide.{ℕ_discrete}
use Rattle.std.proofs.Math.Dec.{ltb}
use borrow.Author.Tests.{le-ltb, eqb-true, eqb-false, eq-eqb, ne_eqb, ltb-true, lt-ltb, leb-true, le-leb, not-true, not-false}
use Rattle.seq.specs.Search.{any, all}
use Rattle.seq.specs.Bytes.{zeros, no_zero, part}
use Rattle.seq.specs.Truth.{refuted, implies_at, implies_of, and_left, and_right, and_both, or_left, or_right, not_both}
use Rattle.seq.specs.AllPass.{no_more, ◌&◌, is_every, every_at}
use Rattle.seq.proofs.SearchLaws.{any_not, any_false, all_none, all_at, all_of}
use Rattle.layout.specs.declared.Shape.{Shape}
use Rattle.layout.specs.Limits.{text_room, text_size}
use Rattle.layout.specs.View.{View, view_of, entry_at, text_at, handle_at, name_room, is_kind, is_directory, is_used, entry_used, text_used}
use Rattle.layout.proofs.ViewLaws.{is_kind_below}
use Rattle.names.specs.Name.{plain_name, clash}
use Rattle.names.specs.NameTests.{name_good}
use Rattle.tree.specs.Tree.{reaches, text_shared}
use Rattle.tree.proofs.TreeLaws.{reaches_goal}
use Rattle.tree.specs.InodeFacts.{Leaf, File, Directory, Symlink, Inode}
use Rattle.consistency.specs.Sound.{free, file, directory, symlink, leaf, known, opened, type_known, state_known, file_field, root_field, entry_zeros, text_short, text_zeros, handle_zeros, inode_free, is_free_entry, text_free, handle_closed, mode_small, target_below_root, parent_directory, target_used, name_short, name_read, name_plain, name_no_dots, name_once, one_entry_only, field_parent, leads_to_root, directory_count, leaf_count, leaf_linked, links_within, system_shared, has_text_in_use, symlink_text, text_own, text_plain, text_held, handle_names, body_rules, bodies_good}
use Rattle.consistency.specs.RecordFacts.{Used, Entry, Text, Open, Handle, Bodies}

-- ---- lists of tests

or_is : (a b : Bool) → (a || b) ≡ true → (a ≡ true) ⊎ (b ≡ true)
or_is true b e = inl refl
or_is false b e = inr e

-- a list of bytes whose first is zero, and the rest
zeros_rest : (xs : List ℕ) (n : ℕ) → zeros xs 0 (1 + n) ≡ true → zeros xs 1 n ≡ true
unfolding zeros
zeros_rest xs n e =
    all_of (λ k. eqb (get_or xs (1 + k) 0) 0) n (λ k l.
    ap (λ (m : ℕ). eqb (get_or xs m 0) 0) (sym (zero-add (1 + k))) ∙ all_at (λ j. eqb (get_or xs (0 + j) 0) 0) (1 + n) e (1 + k) (omega arith))

zeros_whole : (xs : List ℕ) (n : ℕ) → get_or xs 0 0 ≡ 0 → zeros xs 1 n ≡ true → zeros xs 0 (1 + n) ≡ true
unfolding zeros
zeros_whole xs n first e = all_of (λ j. eqb (get_or xs (0 + j) 0) 0) (1 + n) go
  where
    go : (k : ℕ) → k < 1 + n → eqb (get_or xs (0 + k) 0) 0 ≡ true
    go zero l = eq-eqb _ _ first
    go (suc k) l =
        let same : 0 + suc k ≡ 1 + k = omega arith in
        ap (λ (m : ℕ). eqb (get_or xs m 0) 0) same ∙ all_at (λ j. eqb (get_or xs (1 + j) 0) 0) n e k (omega arith)

-- ---- from the rules to the facts

module _ (h : Shape) (s : List ℕ) where
  abbrev v : View
  v = view_of h s

  module _ (i : ℕ) (type : type_known h s i ≡ true) (field : file_field h s i ≡ true) (root : root_field h s ≡ true) (freed : inode_free h s i ≡ true)
      (mode : mode_small h s i ≡ true) (one : one_entry_only h s i ≡ true) (up : leads_to_root h s i ≡ true) (children : directory_count h s i ≡ true)
      (entries : leaf_count h s i ≡ true) (linked : leaf_linked h s i ≡ true) (within : links_within h s i ≡ true) (text : symlink_text h s i ≡ true)
      (own : text_own h s i ≡ true) where
    leaf_of : leaf v i ≡ true → Leaf v i
    leaf_of l =
        let k = or_left (leaf v i) (directory v i) l in
        record {
          mode = ltb-true _ _ (implies_at (known v i) _ mode k);
          within = leb-true _ _ (implies_at (known v i) _ within k);
          linked = leb-true _ _ (implies_at (leaf v i) _ linked l);
          counted = eqb-true _ _ (implies_at (leaf v i) _ entries l);
        }

    file_of : v.kind i ≡ 1 → File v i
    file_of z = let f = eq-eqb _ _ z in record { leaf = leaf_of (or_left (file v i) (symlink v i) f); plain = eqb-true _ _ (implies_at (file v i) _ field f) }

    directory_of_lem : v.kind i ≡ 2 → Directory v i
    directory_of_lem z =
        let d = eq-eqb _ _ z in
        let k = or_right (leaf v i) (directory v i) d in
        record {
          mode = ltb-true _ _ (implies_at (known v i) _ mode k);
          within = leb-true _ _ (implies_at (known v i) _ within k);
          counted = eqb-true _ _ (implies_at (directory v i) _ children d);
          own_parent = λ e. ap v.field e ∙ eqb-true _ _ (implies_at (directory v 0) _ root (ap (λ (j : ℕ). eqb (v.kind j) 2) (sym e) ∙ d));
          one_entry = λ n. eqb-true _ _ (implies_at (directory v i && not (eqb i 0)) _ one (rw (d, ne_eqb i 0 n)));
          leads_up_lem = λ _. implies_at (directory v i) _ up d;
        }

    symlink_of : v.kind i ≡ 3 → Symlink v i
    symlink_of z =
        let l = eq-eqb _ _ z in
        let has = implies_at (symlink v i) (has_text_in_use h s i) text l in
        record {
          leaf = leaf_of (or_right (file v i) (symlink v i) l);
          text = ltb-true _ _ (and_left (ltb (v.field i) v.texts) _ has);
          used = and_right (ltb (v.field i) v.texts) _ has;
          own = not-true _ (implies_at (symlink v i && has_text_in_use h s i) _ own (and_both (symlink v i) _ l has));
        }

    inode_of_lem : Inode h s i
    inode_of_lem = record {
      kind = leb-true _ _ type;
      free = λ z. implies_at (free v i) _ freed (eq-eqb _ _ z);
      file = file_of;
      directory = directory_of_lem;
      symlink = symlink_of;
    }

  module _ (j : ℕ) (kinds : (i : ℕ) → i < h.inodes → v.kind i ≤ 3) (padded : entry_zeros h s j ≡ true) (freed : is_free_entry h s j ≡ true)
      (below : target_below_root h s j ≡ true) (parent : parent_directory h s j ≡ true) (target : target_used h s j ≡ true) (short : name_short h s j ≡ true)
      (plain : name_plain h s j ≡ true) (dots : name_no_dots h s j ≡ true) (up : field_parent h s j ≡ true) (system : system_shared h s j ≡ true) where
    -- an inode in use that is no directory is a file or a symlink
    leaf_target : is_used v (v.target j) ≡ true → is_directory v (v.target j) ≡ false → (is_kind v (v.target j) 1 || is_kind v (v.target j) 3) ≡ true
    unfolding view_of
    leaf_target u d =
        let t = v.target j in
        let l : t < h.inodes = ltb-true _ _ (and_left (ltb t h.inodes) _ u) in
        let some = eqb-false (v.kind t) 0 (not-true _ (and_right (ltb t h.inodes) _ u)) in
        let other : v.kind t ≡ 2 → ⊥ = λ e. not_both _ (and_both (ltb t h.inodes) _ (lt-ltb _ _ l) (eq-eqb _ _ e)) d in
        go t l some other (kinds t l) (ℕ_discrete (v.kind t) 1)
      where
        go : (t : ℕ) → t < h.inodes → (v.kind t ≡ 0 → ⊥) → (v.kind t ≡ 2 → ⊥) → v.kind t ≤ 3 → Dec (v.kind t ≡ 1) → (is_kind v t 1 || is_kind v t 3) ≡ true
        go t l some other k (yes e) = or_left (is_kind v t 1) _ (and_both (ltb t h.inodes) _ (lt-ltb _ _ l) (eq-eqb _ _ e))
        go t l some other k (no n) =
            let e : v.kind t ≡ 3 = omega (arith, some, other, n) in
            or_right (is_kind v t 1) _ (and_both (ltb t h.inodes) _ (lt-ltb _ _ l) (eq-eqb _ _ e))

    used_of : entry_used v j ≡ true → Used h s j
    unfolding name_good
    used_of u =
        let zs = implies_at (entry_used v j) (zeros (entry_at h s j) 5 3 && zeros (entry_at h s j) (8 + v.name_length j) (name_room h - v.name_length j)) padded u in
        let root = eqb-false _ _ (not-true _ (implies_at (entry_used v j) (not (eqb (v.target j) 0)) below u)) in
        let p = implies_at (entry_used v j) (is_directory v (v.parent j)) parent u in
        let t = implies_at (entry_used v j) (is_used v (v.target j)) target u in
        let fits = and_both (entry_used v j) _ u (implies_at (entry_used v j) (leb (v.name_length j) (name_room h)) short u) in
        record {
          short = leb-true _ _ (implies_at (entry_used v j) _ short u);
          padded = and_left (zeros (entry_at h s j) 5 3) _ zs;
          filled = and_right (zeros (entry_at h s j) 5 3) _ zs;
          name = and_both (plain_name (v.name j)) _ (implies_at (name_read h s j) _ plain fits) (implies_at (name_read h s j) _ dots fits);
          linked = record {
            parent = p;
            target = t;
            below_root = root;
            up = λ d. eqb-true _ _ (implies_at (entry_used v j && is_directory v (v.target j) && not (eqb (v.target j) 0)) _ up (rw (u, d, ne_eqb _ _ root)));
            system = λ d. eqb-true _ _ (implies_at (entry_used v j && is_directory v (v.parent j) && (is_kind v (v.target j) 1 || is_kind v (v.target j) 3)) _ system
                (rw (u, p, leaf_target t d)));
          };
        }

    entry_of : Entry h s j
    entry_of = record { free = λ u. implies_at (not (entry_used v j)) _ freed (rw u); used = used_of }

  module _ (t : ℕ) (short : text_short h s t ≡ true) (padded : text_zeros h s t ≡ true) (freed : text_free h s t ≡ true) (plain : text_plain h s t ≡ true)
      (held : text_held h s t ≡ true) where
    -- a free text is zero behind its length of 0, and has no byte
    filled_of : zeros (text_at h s t) (1 + v.text_length t) (text_room - v.text_length t) ≡ true
    filled_of = go (text_used v t) refl
      where
        go : (b : Bool) → text_used v t ≡ b → zeros (text_at h s t) (1 + v.text_length t) (text_room - v.text_length t) ≡ true
        go true u = implies_at (text_used v t) _ padded u
        go false u =
            let z : v.text_length t ≡ 0 = eqb-true _ _ (not-false _ u) in
            rw z (zeros_rest (text_at h s t) text_room (implies_at (not (text_used v t)) (zeros (text_at h s t) 0 text_size) freed (rw u)))

    bytes_of : no_zero (v.text t) ≡ true
    unfolding view_of no_zero part
    bytes_of = go (text_used v t) refl
      where
        go : (b : Bool) → text_used v t ≡ b → no_zero (v.text t) ≡ true
        go true u = implies_at (text_used v t && text_short h s t) _ plain (and_both (text_used v t) _ u short)
        go false u = let z : v.text_length t ≡ 0 = eqb-true _ _ (not-false _ u) in rw z (all_none _)

    text_of : Text h s t
    text_of = record {
      short = leb-true _ _ short;
      filled = filled_of;
      bytes = bytes_of;
      linked = λ u. implies_at (text_used v t) _ held u;
    }

  module _ (n : ℕ) (state : state_known h s n ≡ true) (padded : handle_zeros h s n ≡ true) (closed : handle_closed h s n ≡ true)
      (inode : handle_names h s n ≡ true) where
    handle_of : Handle h s n
    handle_of =
        let within : v.state n ≤ 2 = leb-true _ _ state in
        let open_is : (v.state n ≡ 0 → ⊥) → opened v n ≡ true = λ m. and_both (leb 1 (v.state n)) _ (le-leb 1 (v.state n) (omega (arith, m))) state in
        record {
          state = within;
          closed = λ z. implies_at (eqb (v.state n) 0) _ closed (eq-eqb _ _ z);
          opened = λ m.
              let zs = implies_at (opened v n) (zeros (handle_at h s n) 1 1 && zeros (handle_at h s n) 4 4) padded (open_is m) in
              record {
                second = and_left (zeros (handle_at h s n) 1 1) _ zs;
                rest = and_right (zeros (handle_at h s n) 1 1) _ zs;
                used = implies_at (opened v n) _ inode (open_is m);
              };
        }

  -- a root that exists is of a known type
  root_known : all (type_known h s) h.inodes ≡ true → not (ltb 0 v.inodes && ltb 3 (v.kind 0)) ≡ true
  unfolding view_of
  root_known types = go (ltb 0 h.inodes) refl
    where
      go : (b : Bool) → ltb 0 h.inodes ≡ b → not (b && ltb 3 (v.kind 0)) ≡ true
      go true e = rw (le-ltb 3 (v.kind 0) (leb-true _ _ (all_at _ _ types 0 (ltb-true _ _ e))))
      go false e = refl

  -- all records
  pub bodies_is : bodies_good h s ≡ true → Bodies h s
  unfolding bodies_good clash
  bodies_is e =
      let rule = every_at (body_rules h s) e in
      record {
        root = implies_at (not (ltb 0 v.inodes && ltb 3 (v.kind 0))) (is_directory v 0) (rule 13) (root_known (rule 0));
        inode = λ i l. inode_of_lem i (all_at _ _ (rule 0) i l) (all_at _ _ (rule 2) i l) (rule 3) (all_at _ _ (rule 8) i l) (all_at _ _ (rule 12) i l) (all_at _ _ (rule 21) i l) (all_at _ _ (rule 23) i l)
            (all_at _ _ (rule 24) i l) (all_at _ _ (rule 25) i l) (all_at _ _ (rule 26) i l) (all_at _ _ (rule 27) i l) (all_at _ _ (rule 29) i l) (all_at _ _ (rule 30) i l);
        entry = λ j l. entry_of j (λ i m. leb-true _ _ (all_at _ _ (rule 0) i m)) (all_at _ _ (rule 4) j l) (all_at _ _ (rule 9) j l) (all_at _ _ (rule 14) j l) (all_at _ _ (rule 15) j l)
            (all_at _ _ (rule 16) j l) (all_at _ _ (rule 17) j l) (all_at _ _ (rule 18) j l) (all_at _ _ (rule 19) j l) (all_at _ _ (rule 22) j l) (all_at _ _ (rule 28) j l);
        distinct = λ i j l m. once i j l (all_at _ _ (rule 17) i (omega arith)) (all_at _ _ (rule 17) j m) (all_at _ _ (rule 20) j m);
        text = λ t l. text_of t (all_at _ _ (rule 5) t l) (all_at _ _ (rule 6) t l) (all_at _ _ (rule 10) t l) (all_at _ _ (rule 31) t l) (all_at _ _ (rule 32) t l);
        handle = λ n l. handle_of n (all_at _ _ (rule 1) n l) (all_at _ _ (rule 7) n l) (all_at _ _ (rule 11) n l) (all_at _ _ (rule 33) n l);
      }
    where
      -- an entry that is not in use clashes with none, and the names of the others fit
      once : (i j : ℕ) → i < j → name_short h s i ≡ true → name_short h s j ≡ true → name_once h s j ≡ true → clash v i j ≡ false
      once i j l short-i short-j r = go (entry_used v i) (entry_used v j) refl refl
        where
          fits : (k : ℕ) → name_short h s k ≡ true → entry_used v k ≡ true → name_read h s k ≡ true
          fits k short u = and_both (entry_used v k) _ u (implies_at (entry_used v k) (leb (v.name_length k) (name_room h)) short u)

          go : (a b : Bool) → entry_used v i ≡ a → entry_used v j ≡ b → clash v i j ≡ false
          go true true ui uj =
              let none = not-true _ (implies_at (name_read h s j) (not (any (λ k. name_read h s k && clash v k j) j)) r (fits j short-j uj)) in
              rw (fits i short-i ui) at (any_not (λ k. name_read h s k && clash v k j) j none i l)
          go true false ui uj = rw (uj, and-false (entry_used v i))
          go false b ui uj = rw ui

  -- ---- from the facts to the rules

  module _ (f : Bodies h s) where
    -- an inode by its type
    leaf_has : (i : ℕ) → i < h.inodes → leaf v i ≡ true → Leaf v i
    leaf_has i l e = ⊎_elim (λ a. ((f.inode i l).file (eqb-true _ _ a)).leaf) (λ a. ((f.inode i l).symlink (eqb-true _ _ a)).leaf) (or_is (file v i) (symlink v i) e)

    known_has : (P : Type 0) (i : ℕ) → i < h.inodes → known v i ≡ true → (Leaf v i → P) → (Directory v i → P) → P
    known_has P i l e a b = ⊎_elim (λ k. a (leaf_has i l k)) (λ k. b ((f.inode i l).directory (eqb-true _ _ k))) (or_is (leaf v i) (directory v i) e)

    root_has : directory v 0 ≡ true
    unfolding view_of
    root_has = and_right (ltb 0 h.inodes) _ f.root

    root_below : 0 < h.inodes
    root_below = is_kind_below h s 0 2 f.root

    -- a file or a symlink is no directory
    not_directory : (t : ℕ) → (is_kind v t 1 || is_kind v t 3) ≡ true → is_directory v t ≡ false
    not_directory t e = refuted _ (λ d.
        let k = eqb-true (v.kind t) 2 (and_right (ltb t v.inodes) _ d) in
        ⊎_elim (λ a. absurd (omega (arith, eqb-true (v.kind t) 1 (and_right (ltb t v.inodes) _ a), k)))
        (λ a. absurd (omega (arith, eqb-true (v.kind t) 3 (and_right (ltb t v.inodes) _ a), k))) (or_is (is_kind v t 1) (is_kind v t 3) e))

    used : (j : ℕ) → j < h.entries → entry_used v j ≡ true → Used h s j
    used j l u = (f.entry j l).used u

    -- a name that is read is one of an entry in use
    named : (j : ℕ) → j < h.entries → name_read h s j ≡ true → name_good (v.name j) ≡ true
    named j l r = (used j l (and_left (entry_used v j) _ r)).name

    once_has : (j : ℕ) → j < h.entries → name_once h s j ≡ true
    once_has j l = implies_of (name_read h s j) (not (any (λ i. name_read h s i && clash v i j) j)) (λ _.
        rw (any_false (λ i. name_read h s i && clash v i j) j (λ i m. rw (f.distinct i j m l, and-false (name_read h s i)))))

    up_has : (j : ℕ) → j < h.entries → field_parent h s j ≡ true
    up_has j l = implies_of (entry_used v j && is_directory v (v.target j) && not (eqb (v.target j) 0)) _ (λ g.
        let g' = and_left (entry_used v j && is_directory v (v.target j)) _ g in
        eq-eqb _ _ ((used j l (and_left (entry_used v j) _ g')).linked.up (and_right (entry_used v j) _ g')))

    system_has : (j : ℕ) → j < h.entries → system_shared h s j ≡ true
    system_has j l = implies_of (entry_used v j && is_directory v (v.parent j) && (is_kind v (v.target j) 1 || is_kind v (v.target j) 3)) _ (λ g.
        let g' = and_left (entry_used v j && is_directory v (v.parent j)) _ g in
        eq-eqb _ _ ((used j l (and_left (entry_used v j) _ g')).linked.system
        (not_directory (v.target j) (and_right (entry_used v j && is_directory v (v.parent j)) _ g))))

    leads_has : (i : ℕ) → i < h.inodes → leads_to_root h s i ≡ true
    leads_has i l = implies_of (directory v i) _ (λ d. go (ℕ_discrete i 0) ((f.inode i l).directory (eqb-true _ _ d)))
      where
        go : Dec (i ≡ 0) → Directory v i → reaches v 0 v.inodes i ≡ true
        go (yes z) d = reaches_goal v 0 v.inodes i z
        go (no n) d = d.leads_up_lem n

    text_free_lem : (t : ℕ) → t < h.texts → text_free h s t ≡ true
    unfolding view_of
    text_free_lem t l = implies_of (not (text_used v t)) _ (λ u.
        let z : v.text_length t ≡ 0 = eqb-true _ _ (not-false _ (not-true _ u)) in
        zeros_whole (text_at h s t) text_room z (rw z at (f.text t l).filled))

    open_has : (n : ℕ) → n < h.handles → opened v n ≡ true → Open h s n
    open_has n l o = (f.handle n l).opened (λ z. omega (arith, leb-true 1 (v.state n) (and_left (leb 1 (v.state n)) _ o)))

    pub is_bodies : bodies_good h s ≡ true
    unfolding bodies_good name_good
    is_bodies = is_every (
        all_of _ _ (λ i l. le-leb _ _ (f.inode i l).kind)
        & all_of _ _ (λ n l. le-leb _ _ (f.handle n l).state)
        & all_of _ _ (λ i l. implies_of (file v i) _ (λ e. eq-eqb _ _ ((f.inode i l).file (eqb-true _ _ e)).plain))
        & implies_of (directory v 0) _ (λ d. eq-eqb _ _ (((f.inode 0 root_below).directory (eqb-true _ _ d)).own_parent refl))
        & all_of _ _ (λ j l. implies_of (entry_used v j) _ (λ u. and_both (zeros (entry_at h s j) 5 3) _ (used j l u).padded (used j l u).filled))
        & all_of _ _ (λ t l. le-leb _ _ (f.text t l).short)
        & all_of _ _ (λ t l. implies_of (text_used v t) _ (λ _. (f.text t l).filled))
        & all_of _ _ (λ n l. implies_of (opened v n) _ (λ o. and_both (zeros (handle_at h s n) 1 1) _ (open_has n l o).second (open_has n l o).rest))
        & all_of _ _ (λ i l. implies_of (free v i) _ (λ e. (f.inode i l).free (eqb-true _ _ e)))
        & all_of _ _ (λ j l. implies_of (not (entry_used v j)) _ (λ u. (f.entry j l).free (not-true _ u)))
        & all_of _ _ text_free_lem
        & all_of _ _ (λ n l. implies_of (eqb (v.state n) 0) _ (λ e. (f.handle n l).closed (eqb-true _ _ e)))
        & all_of _ _ (λ i l. implies_of (known v i) _ (λ k. known_has _ i l k (λ a. lt-ltb _ _ a.mode) (λ d. lt-ltb _ _ d.mode)))
        & implies_of (not (ltb 0 v.inodes && ltb 3 (v.kind 0))) (is_directory v 0) (λ _. f.root)
        & all_of _ _ (λ j l. implies_of (entry_used v j) (not (eqb (v.target j) 0)) (λ u. rw (ne_eqb _ _ (used j l u).linked.below_root)))
        & all_of _ _ (λ j l. implies_of (entry_used v j) _ (λ u. (used j l u).linked.parent))
        & all_of _ _ (λ j l. implies_of (entry_used v j) _ (λ u. (used j l u).linked.target))
        & all_of _ _ (λ j l. implies_of (entry_used v j) _ (λ u. le-leb _ _ (used j l u).short))
        & all_of _ _ (λ j l. implies_of (name_read h s j) _ (λ r. and_left (plain_name (v.name j)) _ (named j l r)))
        & all_of _ _ (λ j l. implies_of (name_read h s j) _ (λ r. and_right (plain_name (v.name j)) _ (named j l r)))
        & all_of _ _ once_has
        & all_of _ _ (λ i l. implies_of (directory v i && not (eqb i 0)) _ (λ g.
        eq-eqb _ _ (((f.inode i l).directory (eqb-true _ _ (and_left (directory v i) _ g))).one_entry (eqb-false _ _ (not-true _ (and_right (directory v i) _ g))))))
        & all_of _ _ up_has
        & all_of _ _ leads_has
        & all_of _ _ (λ i l. implies_of (directory v i) _ (λ d. eq-eqb _ _ ((f.inode i l).directory (eqb-true _ _ d)).counted))
        & all_of _ _ (λ i l. implies_of (leaf v i) _ (λ e. eq-eqb _ _ (leaf_has i l e).counted))
        & all_of _ _ (λ i l. implies_of (leaf v i) _ (λ e. le-leb _ _ (leaf_has i l e).linked))
        & all_of _ _ (λ i l. implies_of (known v i) _ (λ k. known_has _ i l k (λ a. le-leb _ _ a.within) (λ d. le-leb _ _ d.within)))
        & all_of _ _ system_has
        & all_of _ _ (λ i l. implies_of (symlink v i) _ (λ e.
        let k = (f.inode i l).symlink (eqb-true _ _ e) in
        and_both (ltb (v.field i) v.texts) _ (lt-ltb _ _ k.text) k.used))
        & all_of _ _ (λ i l. implies_of (symlink v i && has_text_in_use h s i) (not (text_shared v i)) (λ g. rw ((f.inode i l).symlink (eqb-true _ _ (and_left (symlink v i) _ g))).own))
        & all_of _ _ (λ t l. implies_of (text_used v t && text_short h s t) _ (λ _. (f.text t l).bytes))
        & all_of _ _ (λ t l. implies_of (text_used v t) _ (λ u. (f.text t l).linked u))
        & all_of _ _ (λ n l. implies_of (opened v n) _ (λ o. (open_has n l o).used))
        & no_more)
