-- What a chain of iterators returns, in the words of searches over the numbers below a bound and over a list. Assumes nothing.
-- The answers for functions over such chains, where the closure calls a q whose contract says `result ≡ p n j` (and may require `j < n`):
--
--     (0..n).all(|j| q(n, j))
--         returns c = range_all _ _ c.all.ensures.ran (search rules) (search (rules, tests))
--     (0..n).any(|j| q(n, j))
--         returns c = range_any _ _ c.any.ensures.ran (search rules) (search (rules, tests))
--     (0..n).position(|j| q(n, j)).unwrap_or(n)
--         returns c =
--             c.unwrap_or.ensures ∙ range_position _ _ c.position.ensures.ran (search rules) (search (rules, tests))
--     (0..n).find(|j| q(n, *j)).unwrap_or(n)
--         returns c = c.unwrap_or.ensures ∙ range_find _ _ _ _ c.find.ensures.ran (search rules) (search (rules, tests))
--     (0..n).filter(|j| q(n, *j)).count()
--         returns c =
--             range_count _ _ c.count.ensures.ran c.filter.ensures.source c.filter.ensures.closure (search (rules, tests))
--     s.iter().position(|b| *b < 5).unwrap_or(s.len())
--         returns c =
--             c.unwrap_or.ensures
--             ∙ slice_position (λ b. nat_lt b 5) 0 c.args.s.now c.position.ensures.ran (search rules) (search (rules, tests))
--     s.iter().all(|b| *b < 5)
--         returns c = slice_all (λ b. nat_lt b 5) 0 c.args.s.now c.all.ensures.ran (search rules) (search (rules, tests))
--
-- Where q's contract only says `result ≡ true → P n j`, as a function with `result ≡ true → (j : ℕ) → j < n → P n j`:
--
--     (0..n).all(|j| q(n, j))
--         returns c = range_each _ _ c.all.ensures.ran (search rules) (search (rules, tests))
--
-- They take `rules` and `◌∙◌` of Rattle.std.proofs.Common, and `tests` of borrow.Author.Tests.
use Rattle.std.specs.Prelude.{◌≡◌, refl, Bool, true, false, ◌&&◌, ◌||◌, cond, List, [], ◌∷◌, ℕ, zero, suc, ◌+◌, ◌<◌, length, get_or}
use Rattle.std.specs.Prelude.{count_by, Option, Some, None}
use Rattle.std.specs.List.{list_all, list_any, range_with_len, find, position_or_len}
use Rattle.std.specs.Option.{unwrap_or}
use Rattle.std.proofs.Common.{⊎_elim, sym, ap, ◌∙◌, arith, ltb, Iter}
use Rattle.std.proofs.Math.Bool.{and_assoc, or_assoc}
use Rattle.std.proofs.Math.Decide.{dec_lt}
use Rattle.std.proofs.lemmas.List.{get_or_past}
use Rattle.std.proofs.lemmas.Bool.{lt-ltb, le-ltb}
use Rattle.std.proofs.lemmas.List.FromFn.{length-range_with_len, get_or-range_with_len}
use Rattle.std.proofs.lemmas.List.Recursion.{is_count_by, is_position_or_len}
use Rattle.std.proofs.lemmas.List.Folds.{find_at}
use Rattle.std.proofs.lemmas.Option.{unwrap_or-slice_get}
use Rattle.std.proofs.iter.Yields.{fronts, nat_range_steps}
use Rattle.std.specs.declared.ops.Range.{Range}
use Rattle.std.specs.declared.iter.Filter.{Filter}
use Rattle.std.specs.Fn.{Called, CalledAt}
use Rattle.std.specs.Iterator.{YieldsThen, Drains}
use Rattle.std.specs.List.{FoldsTo}
use Rattle.std.specs.Iterator.Adapters.{filter_source, filter_callee, filter_steps}
use Rattle.std.specs.Slice.Iter.{iter_rest}
use denote.Ref.{Bor}
use Rattle.std.proofs.lemmas.List.Sums.{length-filter}
use Rattle.std.proofs.lemmas.Iterator.Consumers.{YieldsList-from_filter, count_from_yields_List}
use Rattle.std.specs.Option.{MatchOption, option_map}
use denote.Param.Members.{Mut}
use Rattle.std.proofs.lemmas.Iterator.{YieldsList-from_range, YieldsList-from_slice, cases_from_all}
use Rattle.std.proofs.lemmas.Iterator.Search.{all_from_yields_List, any_from_yields_List, position_from_yields_List, find_from_yields_List}
use Rattle.seq.specs.Search.{all, any, count, first}
use Rattle.seq.proofs.SearchLaws.{first_cases, all_same, any_same, count_same, first_same, first_le, count_none, first_none, any_none}

-- a search taken from the front
module _ (p : ℕ → Bool) where
  all_front : (n : ℕ) → all p (suc n) ≡ (p 0 && all (λ k. p (suc k)) n)
  unfolding all
  all_front zero = go (p 0)
    where
      go : (a : Bool) → (true && a) ≡ (a && true)
      go true = refl
      go false = refl
  all_front (suc n) = ap (λ b. b && p (suc n)) (all_front n) ∙ and_assoc (p 0) (all (λ k. p (suc k)) n) (p (suc n))

  any_front : (n : ℕ) → any p (suc n) ≡ (p 0 || any (λ k. p (suc k)) n)
  unfolding any
  any_front zero = go (p 0)
    where
      go : (a : Bool) → (false || a) ≡ (a || false)
      go true = refl
      go false = refl
  any_front (suc n) = ap (λ b. b || p (suc n)) (any_front n) ∙ or_assoc (p 0) (any (λ k. p (suc k)) n) (p (suc n))

  count_front : (n : ℕ) → count p (suc n) ≡ cond (p 0) 1 0 + count (λ k. p (suc k)) n
  unfolding count
  count_front zero = go (p 0)
    where
      go : (b : Bool) → cond b (0 + 1) 0 ≡ cond b 1 0 + 0
      go true = refl
      go false = refl
  count_front (suc n) = go (p (suc n)) (count_front n)
    where
      go : (b : Bool) → count p (suc n) ≡ cond (p 0) 1 0 + count (λ k. p (suc k)) n
          → cond b (count p (suc n) + 1) (count p (suc n)) ≡ cond (p 0) 1 0 + cond b (count (λ k. p (suc k)) n + 1) (count (λ k. p (suc k)) n)
      go true e = omega arith
      go false e = e

  first_front : (n : ℕ) → first p (suc n) ≡ cond (p 0) 0 (suc (first (λ k. p (suc k)) n))
  unfolding first any
  first_front zero = refl
  first_front (suc n) = go (p 0) (any (λ k. p (suc k)) n) (p (suc n)) (any_front n) (first_front n)
    where
      go : (a b c : Bool) → any p (suc n) ≡ (a || b) → first p (suc n) ≡ cond a 0 (suc (first (λ k. p (suc k)) n))
          → cond (any p (suc n)) (first p (suc n)) (cond c (suc n) (suc (suc n)))
          ≡ cond a 0 (suc (cond b (first (λ k. p (suc k)) n) (cond c n (suc n))))
      go true b c e f = rw (e, f)
      go false true c e f = rw (e, f)
      go false false true e f = rw e
      go false false false e f = rw e

-- a search over the numbers below a list's length, of its elements
module _ {X : Type 0} (p : X → Bool) (d : X) where
  pub all_list : (xs : List X) → list_all p xs ≡ all (λ k. p (get_or xs k d)) (length xs)
  unfolding all
  all_list [] = refl
  all_list (x ∷ xs) = ap (λ b. p x && b) (all_list xs) ∙ sym (all_front (λ k. p (get_or (x ∷ xs) k d)) (length xs))

  pub any_list : (xs : List X) → list_any p xs ≡ any (λ k. p (get_or xs k d)) (length xs)
  unfolding any
  any_list [] = refl
  any_list (x ∷ xs) = ap (λ b. p x || b) (any_list xs) ∙ sym (any_front (λ k. p (get_or (x ∷ xs) k d)) (length xs))

  counted : List X → ℕ
  counted xs = count (λ k. p (get_or xs k d)) (length xs)

  pub count_list : (xs : List X) → count_by p xs ≡ count (λ k. p (get_or xs k d)) (length xs)
  unfolding counted
  count_list xs =
      sym (is_count_by counted p (count_none _) (λ x ys. count_front (λ k. p (get_or (x ∷ ys) k d)) (length ys) ∙ or_one (p x) (counted ys)) xs)
    where
      or_one : (b : Bool) (m : ℕ) → cond b 1 0 + m ≡ cond b (1 + m) m
      or_one true m = refl
      or_one false m = omega arith

  found : List X → ℕ
  found xs = first (λ k. p (get_or xs k d)) (length xs)

  pub first_list : (xs : List X) → position_or_len p xs ≡ first (λ k. p (get_or xs k d)) (length xs)
  unfolding found
  first_list xs =
      sym (is_position_or_len found p (first_none _ 0 (any_none _)) (λ x ys. first_front (λ k. p (get_or (x ∷ ys) k d)) (length ys) ∙ one_more (p x) (found ys)) xs)
    where
      one_more : (b : Bool) (m : ℕ) → cond b 0 (suc m) ≡ cond b 0 (1 + m)
      one_more b m = ap (cond b 0) (omega arith)

-- a search over the numbers below n
module _ (p : ℕ → Bool) (n : ℕ) where
  one : (k : ℕ) → k < n → p (get_or (range_with_len 0 n) k 0) ≡ p k
  one k l = ap p (get_or-range_with_len 0 n k 0 l ∙ omega arith)

  pub all_range : list_all p (range_with_len 0 n) ≡ all p n
  all_range = all_list p 0 (range_with_len 0 n) ∙ rw (length-range_with_len 0 n) (all_same _ p n one)

  pub any_range : list_any p (range_with_len 0 n) ≡ any p n
  any_range = any_list p 0 (range_with_len 0 n) ∙ rw (length-range_with_len 0 n) (any_same _ p n one)

  pub count_range : count_by p (range_with_len 0 n) ≡ count p n
  count_range = count_list p 0 (range_with_len 0 n) ∙ rw (length-range_with_len 0 n) (count_same _ p n one)

  or_len : position_or_len p (range_with_len 0 n) ≡ first p n
  or_len = first_list p 0 (range_with_len 0 n) ∙ rw (length-range_with_len 0 n) (first_same _ p n one)

  -- what `position` answers
  abbrev pub first_place : Option ℕ
  first_place = cond (ltb (first p n) n) (Some (first p n)) None

  position_range : cond (ltb (position_or_len p (range_with_len 0 n)) (length (range_with_len 0 n))) (Some (position_or_len p (range_with_len 0 n))) None ≡ first_place
  position_range = rw (or_len, length-range_with_len 0 n)

  first_or_n : unwrap_or first_place n ≡ first p n
  first_or_n = go (dec_lt (first p n) n)
    where
      go : Dec (first p n < n) → unwrap_or first_place n ≡ first p n
      go (yes l) = rw (lt-ltb (first p n) n l)
      go (no m) = rw (le-ltb (first p n) n (omega (arith, first_le p n))) (omega (arith, first_le p n))

  -- where it found one, and where none
  pub place_found : {r : Option ℕ} (k : ℕ) → r ≡ first_place → r ≡ Some k → (k < n) × (any p k ≡ false) × (p k ≡ true)
  place_found k e f = ⊎_elim (λ z. absurd (none z)) some (first_cases p n)
    where
      none : (any p n ≡ false) × (first p n ≡ n) → ⊥
      none z = let g : first_place ≡ Some k = sym e ∙ f in
          let h : None ≡ Some k = rw (le-ltb (first p n) n (omega (arith, z.1))) at g in cc

      some : (first p n < n) × (any p (first p n) ≡ false) × (p (first p n) ≡ true) → (k < n) × (any p k ≡ false) × (p k ≡ true)
      some z = let g : first_place ≡ Some k = sym e ∙ f in
          let h : Some (first p n) ≡ Some k = rw (lt-ltb (first p n) n z.0) at g in
          let i : first p n ≡ k = cc in rw i at z

  pub place_none : {r : Option ℕ} → r ≡ first_place → r ≡ None → any p n ≡ false
  place_none e f = ⊎_elim (λ z. z.0) some (first_cases p n)
    where
      some : (first p n < n) × (any p (first p n) ≡ false) × (p (first p n) ≡ true) → any p n ≡ false
      some z = let g : first_place ≡ None = sym e ∙ f in
          let h : Some (first p n) ≡ None = rw (lt-ltb (first p n) n z.0) at g in cc

  pub find_range : unwrap_or (find p (range_with_len 0 n)) n ≡ first p n
  find_range = rw (find_at p (range_with_len 0 n), or_len, unwrap_or-slice_get) (go (dec_lt (first p n) n))
    where
      go : Dec (first p n < n) → get_or (range_with_len 0 n) (first p n) n ≡ first p n
      go (yes l) = get_or-range_with_len 0 n (first p n) n l ∙ omega arith
      go (no m) = get_or_past (range_with_len 0 n) (first p n) n (omega (arith, length-range_with_len 0 n)) ∙ omega (arith, first_le p n)

-- the calls of a closure that answers p of its argument, of what its argument refers to, or of the value behind the argument itself
abbrev pub Answers : {A F : Type 0} → Mut F (A × Unit {0}) Bool → F → (A → Bool) → Type 0
Answers {A} {F} g f p = (x : A) (b : Bool) (q : F) → Called g f (x, tt) b q → (q ≡ f) × (b ≡ p x)

abbrev pub AnswersAt : {A F : Type 0} → Mut F (Bor A × Unit {0}) Bool → F → (A → Bool) → Type 0
AnswersAt {A} {F} g f p = (x : A) (b : Bool) (q : F) → CalledAt g f x b q → (q ≡ f) × (b ≡ p x)

-- What the consumers answer over `0..n`, in the words of searches over the numbers below n.
module _ {F : Type 0} {f : F} (p : ℕ → Bool) (n : ℕ) where
  module _ {s u : Range ℕ} {g : Mut F (ℕ × Unit {0}) Bool} where
    pub range_all : {r : Bool}
        → (xs : List ℕ) × (o : Option ℕ) × (j : F) × YieldsThen nat_range_steps s xs o u × FoldsTo (λ h x q. Called g h (x, tt) true q) f xs j
        × MatchOption o (r ≡ true) (λ x. (r ≡ false) × ((h : F) × Called g j (x, tt) false h))
        → s ≡ record { start = 0; end = n } → Answers g f p → r ≡ all p n
    range_all {r} ran is each = all_from_yields_List p u f r ran (YieldsList-from_range 0 n n is (omega arith)) each ∙ all_range p n

    pub range_any : {r : Bool}
        → (xs : List ℕ) × (o : Option ℕ) × (j : F) × YieldsThen nat_range_steps s xs o u × FoldsTo (λ h x q. Called g h (x, tt) false q) f xs j
        × MatchOption o (r ≡ false) (λ x. (r ≡ true) × ((h : F) × Called g j (x, tt) true h))
        → s ≡ record { start = 0; end = n } → Answers g f p → r ≡ any p n
    range_any {r} ran is each = any_from_yields_List p u f r ran (YieldsList-from_range 0 n n is (omega arith)) each ∙ any_range p n

    pub range_place : {r : Option ℕ}
        → (xs : List ℕ) × (o : Option ℕ) × (j : F) × YieldsThen nat_range_steps s xs o u × FoldsTo (λ h x q. Called g h (x, tt) false q) f xs j
        × MatchOption o (r ≡ None) (λ x. (r ≡ Some (length xs)) × ((h : F) × Called g j (x, tt) true h))
        → s ≡ record { start = 0; end = n } → Answers g f p → r ≡ first_place p n
    range_place {r} ran is each = position_from_yields_List p u f r ran (YieldsList-from_range 0 n n is (omega arith)) each ∙ position_range p n

    pub range_position : {r : Option ℕ}
        → (xs : List ℕ) × (o : Option ℕ) × (j : F) × YieldsThen nat_range_steps s xs o u × FoldsTo (λ h x q. Called g h (x, tt) false q) f xs j
        × MatchOption o (r ≡ None) (λ x. (r ≡ Some (length xs)) × ((h : F) × Called g j (x, tt) true h))
        → s ≡ record { start = 0; end = n } → Answers g f p → unwrap_or r n ≡ first p n
    range_position ran is each = ap (λ o. unwrap_or o n) (range_place ran is each) ∙ first_or_n p n

  module _ {g : Mut F (Bor ℕ × Unit {0}) Bool} where
    pub range_find : {s : Range ℕ} (u : Range ℕ) (r : Option ℕ)
        → (xs : List ℕ) × (j : F) × YieldsThen nat_range_steps s xs r u × FoldsTo (λ h x q. CalledAt g h x false q) f xs j
        × MatchOption r (Unit {0}) (λ x. (h : F) × CalledAt g j x true h)
        → s ≡ record { start = 0; end = n } → AnswersAt g f p → unwrap_or r n ≡ first p n
    range_find {s} u r ran is each =
        ap (λ o. unwrap_or o n) (sym (same r) ∙ find_from_yields_List p u f r ran (YieldsList-from_range 0 n n is (omega arith)) each) ∙ find_range p n
      where
        same : (o : Option ℕ) → option_map (λ x. x) o ≡ o
        same None = refl
        same (Some x) = refl

    -- of `(0..n).filter(..).count()`: t is what `filter` returned
    pub range_count : {t : Filter (Range ℕ) F} {r : ℕ} → (xs : List ℕ) × Drains (filter_steps nat_range_steps g) t xs × (r ≡ length xs)
        → filter_source t ≡ record { start = 0; end = n } → filter_callee t ≡ f → AnswersAt g f p → r ≡ count p n
    range_count {t} {r} ran is by each =
        count_from_yields_List t r ran (YieldsList-from_filter g p (YieldsList-from_range 0 n n is (omega arith)) by each)
        ∙ length-filter p (range_with_len 0 n) ∙ count_range p n

-- What they answer over a list, in the words of searches over the numbers below its length.
module _ {X F : Type 0} {s u : Iter X} {f : F} {g : Mut F (Bor X × Unit {0}) Bool} (p : X → Bool) (d : X) (ys : List X) where
  pub slice_all : {r : Bool}
      → (xs : List (Bor X)) × (o : Option (Bor X)) × (j : F) × YieldsThen fronts s xs o u × FoldsTo (λ h x q. Called g h (x, tt) true q) f xs j
      × MatchOption o (r ≡ true) (λ x. (r ≡ false) × ((h : F) × Called g j (x, tt) false h))
      → iter_rest s ≡ ys → Answers g f (λ x. p x.now) → r ≡ all (λ k. p (get_or ys k d)) (length ys)
  slice_all {r} ran is each = all_from_yields_List p u f r ran (YieldsList-from_slice ys is) each ∙ all_list p d ys

  pub slice_any : {r : Bool}
      → (xs : List (Bor X)) × (o : Option (Bor X)) × (j : F) × YieldsThen fronts s xs o u × FoldsTo (λ h x q. Called g h (x, tt) false q) f xs j
      × MatchOption o (r ≡ false) (λ x. (r ≡ true) × ((h : F) × Called g j (x, tt) true h))
      → iter_rest s ≡ ys → Answers g f (λ x. p x.now) → r ≡ any (λ k. p (get_or ys k d)) (length ys)
  slice_any {r} ran is each = any_from_yields_List p u f r ran (YieldsList-from_slice ys is) each ∙ any_list p d ys

  -- of `s.iter().position(..).unwrap_or(s.len())`
  pub slice_position : {r : Option ℕ}
      → (xs : List (Bor X)) × (o : Option (Bor X)) × (j : F) × YieldsThen fronts s xs o u × FoldsTo (λ h x q. Called g h (x, tt) false q) f xs j
      × MatchOption o (r ≡ None) (λ x. (r ≡ Some (length xs)) × ((h : F) × Called g j (x, tt) true h))
      → iter_rest s ≡ ys → Answers g f (λ x. p x.now) → unwrap_or r (length ys) ≡ first (λ k. p (get_or ys k d)) (length ys)
  slice_position {r} ran is each =
      ap (λ o. unwrap_or o (length ys)) (position_from_yields_List p u f r ran (YieldsList-from_slice ys is) each) ∙ rw (first_list p d ys) (first_or_n _ (length ys))

-- Where the closure tells P of each number that it passes, and no more of the others, `all` tells it of every number below n.
module _ {F : Type 0} {f : F} (P : ℕ → Type 0) (n : ℕ) {s u : Range ℕ} {g : Mut F (ℕ × Unit {0}) Bool} where
  pub range_each : {r : Bool}
      → (xs : List ℕ) × (o : Option ℕ) × (j : F) × YieldsThen nat_range_steps s xs o u × FoldsTo (λ h x q. Called g h (x, tt) true q) f xs j
      × MatchOption o (r ≡ true) (λ x. (r ≡ false) × ((h : F) × Called g j (x, tt) false h))
      → s ≡ record { start = 0; end = n } → ((x : ℕ) (q : F) → Called g f (x, tt) true q → (q ≡ f) × P x) → r ≡ true → (k : ℕ) → k < n → P k
  range_each {r} ran is each e k l =
      let every = cases_from_all u f r P (λ x. Unit {0}) ran (YieldsList-from_range 0 n n is (omega arith)) each (λ x q c. tt) in
      let at : k ≡ get_or (range_with_len 0 n) k 0 = sym (get_or-range_with_len 0 n k 0 l ∙ omega arith) in
      rw at ((rw e at every) k 0 (omega arith) (rw (length-range_with_len 0 n) l))
