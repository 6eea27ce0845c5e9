-- The further groups as the code searches and copies them, and a caller without any. Assumes nothing.
use Rattle.std.specs.Prelude.{◌≡◌, Bool, true, List, ℕ, ◌≤◌, ◌<◌, eqb, ltb, min, length, get_or, take, replicate}
use Rattle.std.proofs.Math.Path.{sym, ap}
use Rattle.std.proofs.Common.{◌∙◌, arith, eq-eqb, ne_eqb, lt-ltb, le-ltb, le-leb, eqb-true, ltb-true, length-take, get_or-take}
use Rattle.std.proofs.Math.Bool.{false, cond, or-false, and-false}
use Rattle.std.proofs.Math.Decide.{dec_lt}
use Rattle.std.proofs.lemmas.Bool.{lt-leb}
use Rattle.seq.specs.Search.{any}
use Rattle.seq.specs.Bytes.{put}
use Rattle.seq.proofs.SearchLaws.{any_none, any_not, any_false, any_same, any_at, any_hit}
use Rattle.seq.proofs.ChainLaws.{any_list}
use Rattle.seq.specs.Truth.{one_truth, and_left, and_right}
use Rattle.std.specs.List.{list_any}
use Rattle.layout.specs.Limits.{group_limit}
use Rattle.paths.specs.declared.request.Credentials.{Credentials}
use Rattle.paths.specs.Groups.{is_further, in_further, in_group, credentials_of}

module _ (who : Credentials) (g : ℕ) where
  -- what a place says
  pub further_is : (k : ℕ) → k < who.count → get_or who.groups k 0 ≡ g → is_further who g k ≡ true
  further_is k l e = rw (lt-ltb _ _ l, eq-eqb _ _ e)

  pub further_other : (k : ℕ) → (get_or who.groups k 0 ≡ g → ⊥) → is_further who g k ≡ false
  further_other k n = rw (ne_eqb _ _ n, and-false)

  past : (k : ℕ) → who.count ≤ k → is_further who g k ≡ false
  past k l = rw (le-ltb _ _ l)

  -- the search may end where the list does
  pub further_none : (k : ℕ) → any (is_further who g) k ≡ false → who.count ≤ k → false ≡ in_further who g
  unfolding in_further
  further_none k none l = rw (any_false (is_further who g) group_limit (λ j _. at j (dec_lt j k)))
    where
      at : (j : ℕ) → Dec (j < k) → is_further who g j ≡ false
      at j (yes below) = any_not _ k none j below
      at j (no above) = past j (omega arith)

  -- those that count, searched as a list
  pub further_list : (n : ℕ) → n ≡ min who.count group_limit → length who.groups ≡ group_limit → list_any (λ y. eqb y g) (take n who.groups) ≡ in_further who g
  unfolding in_further
  further_list n e long = any_list (λ y. eqb y g) 0 (take n who.groups) ∙ one_truth _ _ to from
    where
      is_it : ℕ → Bool
      is_it k = eqb (get_or (take n who.groups) k 0) g

      size : length (take n who.groups) ≡ n
      size = omega (arith, length-take n who.groups)

      to : any is_it (length (take n who.groups)) ≡ true → any (is_further who g) group_limit ≡ true
      to some =
          let (k, l, hit) = any_at is_it _ some in
          let here = eqb-true _ _ hit in
          any_hit _ _ k (omega (arith, size)) (further_is k (omega (arith, size)) (sym (get_or-take n who.groups k 0 (omega (arith, size))) ∙ here))

      from : any (is_further who g) group_limit ≡ true → any is_it (length (take n who.groups)) ≡ true
      from some =
          let (k, l, hit) = any_at (is_further who g) _ some in
          let counts = ltb-true k who.count (and_left (ltb k who.count) _ hit) in
          let below : k < n = omega arith in
          any_hit is_it _ k (omega (arith, size)) (rw (get_or-take n who.groups k 0 below) (and_right (ltb k who.count) _ hit))

  -- without further groups there is the effective one alone
  pub alone : who.count ≡ 0 → in_group who g ≡ eqb who.group g
  unfolding in_group
  alone none = let e = further_none 0 (any_none _) (omega arith) in rw (← e, or-false)

-- places past the count are not looked at: lists that agree below it are searched alike
pub further_same : (a b : Credentials) → a.count ≡ b.count → ((k : ℕ) → k < a.count → get_or a.groups k 0 ≡ get_or b.groups k 0) → (g : ℕ) → in_further a g ≡ in_further b g
unfolding in_further
further_same a b count same g = any_same _ _ group_limit (λ k _. at k (dec_lt k a.count))
  where
    at : (k : ℕ) → Dec (k < a.count) → is_further a g k ≡ is_further b g k
    at k (yes below) = rw (count, same k below)
    at k (no above) = past a g k (omega arith) ∙ sym (past b g k (omega (arith, count)))

-- the credentials made of a list, by whether it is short enough
abbrev made : ℕ → ℕ → List ℕ → List ℕ → Credentials
made user group list groups = record { user = user; group = group; groups = groups; count = length list }

module _ (user group : ℕ) (list : List ℕ) where
  pub credentials_read : {groups : List ℕ} → length list ≤ group_limit → groups ≡ put (replicate group_limit 0) 0 list → made user group list groups ≡ credentials_of user group list
  unfolding credentials_of
  credentials_read short e =
      ap (made user group list) (e ∙ sym (ap (λ (b : Bool). cond b (put (replicate group_limit 0) 0 list) (replicate group_limit 0)) (le-leb _ _ short)))

  pub credentials_unread : group_limit < length list → made user group list (replicate group_limit 0) ≡ credentials_of user group list
  unfolding credentials_of
  credentials_unread long =
      ap (made user group list) (sym (ap (λ (b : Bool). cond b (put (replicate group_limit 0) 0 list) (replicate group_limit 0)) (lt-leb _ _ long)))
