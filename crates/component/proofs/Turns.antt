-- The ways out of each decision about a component: from the answer of the part that decides to that of the whole. Assumes nothing.
use Rattle.std.specs.Prelude.{◌≡◌, Bool, true, false, ◌||◌, not, List, ℕ, ◌+◌, ◌-◌, ◌≤◌, ◌<◌, length, take, drop}
use Rattle.std.proofs.Common.{sym, ap, ◌∙◌, subst, arith, lt-ltb, le-ltb, le-leb}
use Rattle.std.proofs.lemmas.Bool.{lt-leb}
use Rattle.seq.specs.Bytes.{part}
use Rattle.seq.proofs.BytesLaws.{part_take, part_drop}
use Rattle.layout.specs.Limits.{symlink_limit, path_limit}
use Rattle.layout.specs.declared.errno.Errno.{Errno}
use Rattle.layout.specs.Errno.{EPERM, EACCES, EINVAL, ELOOP, ENAMETOOLONG, ENOENT, ENOTDIR}
use Rattle.layout.specs.View.{View, is_symlink, is_directory}
use Rattle.paths.specs.declared.request.Credentials.{Credentials}
use Rattle.paths.specs.Path.{slashes, until_slash, skip, component, behind, empty, bare, is_dot, is_dot_dot}
use Rattle.paths.specs.Permission.{search_bit, allows}
use Rattle.paths.specs.Lookup.{lookup}
use Rattle.component.specs.declared.state.Final.{Final}
use Rattle.component.specs.declared.state.Turn.{Turn}
use Rattle.component.specs.Step.{Position, existing, missing, refused_by, names, go_to, splice, walk_step}
use Rattle.component.specs.Decisions.{follow, lack, miss, enter, arrive, hit, seek, barred, named, dots, read, inside, decision}
use Rattle.component.proofs.DecisionLaws.{step_decides}
use Rattle.component.specs.State.{Turned}

-- a symlink ahead of others
module _ (r : Turn Errno) (w : Position) (text rest : List ℕ) where
  pub follows_many : symlink_limit ≤ w.links → Turned r (refused_by ELOOP w) → Turned r (follow w text rest)
  follows_many many turned = rw (le-leb _ _ many) turned

  module _ (few : w.links < symlink_limit) (n : ℕ) (is : n ≡ length text + length rest) where
    pub follows_long : path_limit < n → Turned r (refused_by ENAMETOOLONG w) → Turned r (follow w text rest)
    follows_long long turned = rw (lt-leb _ _ few, ← is, lt-ltb _ _ long) turned

    pub follows_short : n ≤ path_limit → Turned r (splice w text rest) → Turned r (follow w text rest)
    follows_short short turned = rw (lt-leb _ _ few, ← is, le-ltb _ _ short) turned

module _ (r : Turn Errno) (w : Position) (last : Final) (name rest : List ℕ) where
  pub lacks_refused : last.present ≡ true → Turned r (refused_by ENOENT w) → Turned r (lack last w name rest)
  lacks_refused e turned = rw e turned

  pub lacks_found : (slash : Bool) → last.present ≡ false → slash ≡ not (empty rest) → Turned r (names w (missing w.directory name slash))
      → Turned r (lack last w name rest)
  lacks_found slash e is turned = rw (e, ← is) turned

  pub misses_last : bare rest ≡ true → Turned r (lack last w name rest) → Turned r (miss last w name rest)
  misses_last b turned = rw b turned

  pub misses_more : bare rest ≡ false → Turned r (refused_by ENOENT w) → Turned r (miss last w name rest)
  misses_more b turned = rw b turned

module _ (v : View) (r : Turn Errno) (w : Position) (rest : List ℕ) where
  pub enters_link : (text : List ℕ) (i : ℕ) → is_symlink v i ≡ true → text ≡ v.text (v.field i) → Turned r (follow w text rest) → Turned r (enter v w rest i)
  enters_link text i k e turned = rw (k, ← e) turned

  pub enters_other : (i : ℕ) → is_symlink v i ≡ false → Turned r (go_to w rest i) → Turned r (enter v w rest i)
  enters_other i k turned = rw k turned

  pub arrives_plain : (j i : ℕ) → i ≡ v.target j → empty rest ≡ true → Turned r (names w (existing w.directory j i false)) → Turned r (arrive v w rest j)
  arrives_plain j i e z turned = rw (z, ← e) turned

  pub arrives_directory : (j i : ℕ) → i ≡ v.target j → empty rest ≡ false → is_directory v i ≡ true → Turned r (names w (existing w.directory j i true))
      → Turned r (arrive v w rest j)
  arrives_directory j i e z d turned = rw (← e, z, d) turned

  pub arrives_other : (j i : ℕ) → i ≡ v.target j → empty rest ≡ false → is_directory v i ≡ false → Turned r (refused_by ENOTDIR w) → Turned r (arrive v w rest j)
  arrives_other j i e z d turned = rw (← e, z, d) turned

  pub hits_last : (j : ℕ) → bare rest ≡ true → Turned r (arrive v w rest j) → Turned r (hit v w rest j)
  hits_last j b turned = rw b turned

  pub hits_more : (j i : ℕ) → i ≡ v.target j → bare rest ≡ false → Turned r (enter v w rest i) → Turned r (hit v w rest j)
  hits_more j i e b turned = rw (b, ← e) turned

module _ (v : View) (r : Turn Errno) (w : Position) (name rest : List ℕ) where
  pub dots_last : bare rest ≡ true → Turned r (refused_by EINVAL w) → Turned r (dots v w name rest)
  dots_last b turned = rw b turned

  pub dots_stay : bare rest ≡ false → is_dot name ≡ true → Turned r (go_to w rest w.directory) → Turned r (dots v w name rest)
  dots_stay b d turned = rw (b, d) turned

  pub dots_up : (up : ℕ) → bare rest ≡ false → is_dot name ≡ false → up ≡ v.field w.directory → Turned r (go_to w rest up) → Turned r (dots v w name rest)
  dots_up up b d e turned = rw (b, d, ← e) turned

module _ (v : View) (r : Turn Errno) (w : Position) (last : Final) (name rest : List ℕ) where
  pub seeks_hit : (j : ℕ) → j ≡ lookup v w.directory name → j < v.entries → Turned r (hit v w rest j) → Turned r (seek v last w name rest)
  seeks_hit j e below turned = rw (← e, lt-ltb _ _ below) turned

  pub seeks_miss : (j : ℕ) → j ≡ lookup v w.directory name → v.entries ≤ j → Turned r (miss last w name rest) → Turned r (seek v last w name rest)
  seeks_miss j e above turned = rw (← e, le-ltb _ _ above) turned

  pub named_refused : barred last name rest ≡ true → Turned r (refused_by EPERM w) → Turned r (named v last w name rest)
  named_refused b turned = rw b turned

  pub named_sought : barred last name rest ≡ false → Turned r (seek v last w name rest) → Turned r (named v last w name rest)
  named_sought b turned = rw b turned

  pub reads_long : v.room < length name → Turned r (refused_by ENAMETOOLONG w) → Turned r (read v last w name rest)
  reads_long l turned = rw (lt-ltb _ _ l) turned

  module _ (short : length name ≤ v.room) where
    pub reads_dots : (is_dot name || is_dot_dot name) ≡ true → Turned r (dots v w name rest) → Turned r (read v last w name rest)
    reads_dots d turned = rw (le-ltb _ _ short, d) turned

    pub reads_name : is_dot name ≡ false → is_dot_dot name ≡ false → Turned r (named v last w name rest) → Turned r (read v last w name rest)
    reads_name d e turned = rw (le-ltb _ _ short, d, e) turned

module _ (v : View) (who : Credentials) (last : Final) (r : Turn Errno) (w : Position) where
  pub inside_denied : (w.waived || allows v who w.directory search_bit) ≡ false → Turned r (refused_by EACCES w) → Turned r (inside v who last w)
  inside_denied a turned = rw a turned

  pub inside_reads : (name rest : List ℕ) → (w.waived || allows v who w.directory search_bit) ≡ true → name ≡ component w.rest → rest ≡ behind w.rest
      → Turned r (read v last w name rest) → Turned r (inside v who last w)
  inside_reads name rest a e f turned = rw (a, ← e, ← f) turned

  -- what answers the decisions answers the list of tests
  decided : Turned r (decision v who last w) → Turned r (walk_step v who last w)
  decided turned = subst (Turned r) (sym (step_decides v who last w)) turned

  pub steps_nowhere : is_directory v w.directory ≡ false → Turned r (refused_by ENOTDIR w) → Turned r (walk_step v who last w)
  steps_nowhere d turned = decided (rw d turned)

  pub steps_inside : is_directory v w.directory ≡ true → Turned r (inside v who last w) → Turned r (walk_step v who last w)
  steps_inside d turned = decided (rw d turned)

-- a component and what stands behind it, as ranges of a working path
module _ (path : List ℕ) (at len a e : ℕ) (within : at ≤ len) (start : a ≡ at + slashes (part path at (len - at))) (end : e ≡ a + until_slash (part path a (len - a))) where
  skipped : skip (part path at (len - at)) ≡ part path a (len - a)
  skipped =
      let k = slashes (part path at (len - at)) in
      let m : len - at - k ≡ len - a = omega arith in
      part_drop path at (len - at) k ∙ ap (λ i. part path i (len - at - k)) (sym start) ∙ ap (λ i. part path a i) m

  pub component_range : e ≤ len → part path a (e - a) ≡ component (part path at (len - at))
  component_range l =
      let k : e - a ≡ until_slash (part path a (len - a)) = omega arith in
      sym (ap (λ x. take (until_slash x) x) skipped ∙ part_take path a (len - a) (until_slash (part path a (len - a))) (omega arith) ∙ ap (λ i. part path a i) (sym k))

  pub behind_range : part path e (len - e) ≡ behind (part path at (len - at))
  behind_range =
      let m : len - a - until_slash (part path a (len - a)) ≡ len - e = omega arith in
      sym (ap (λ x. drop (until_slash x) x) skipped ∙ part_drop path a (len - a) (until_slash (part path a (len - a)))
      ∙ ap (λ i. part path i (len - a - until_slash (part path a (len - a)))) (sym end) ∙ ap (λ i. part path e i) m)
