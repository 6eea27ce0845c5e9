-- A second form of rows: each with the number of its call, and taken only if that is 7, the call in hand. Assumes nothing.
use Rattle.std.specs.Prelude.{◌≡◌, refl, Bool, true, false, ◌&&◌, List, [], ◌∷◌, map, ℕ, T, eqb}
use Rattle.std.proofs.Common.{ap, subst}
use Rattle.std.proofs.Math.Option
use Rattle.crash_theorem.specs.Pick.{All}
use Rattle.crash_theorem.specs.Change.{Change, plan}
use Rattle.crash_theorem.specs.Obligations.{Obligations}
use Rattle.crash_theorem.specs.Form.{Form, store_of}
use Rattle.crash_theorem.proofs.FormRows.{Do, in_form}
use Rattle.crash_theorem.proofs.FormLaws.{carries_of, owed_in}
use Rattle.crash_theorem.specs.Plan.{change}
use Rattle.crash_theorem.proofs.Example.{Write, inside, written, refused, toy, first, recover, first_owed}

abbrev pub mine : ℕ × Write → Bool
mine r = eqb r.0 7 && inside r.1

pub mine_inside : (b c : Bool) → T (b && c) → (b && c) ≡ c
mine_inside true c t = refl
mine_inside false c t = absurd t

abbrev pub numbered : Form toy
numbered = record {
  Row = ℕ × Write;
  Lent = ℕ;
  says = λ r. r.1;
  lends = λ room. room;
  enough = toy.enough;
  put = λ X r. written (mine r) X r.1;
  accepts = λ X r. mine r;
  Takes = λ r. T (mine r);
  fits = λ {X} {r} o t. subst T (mine_inside (eqb r.0 7) _ t) t;
  takes = λ {X} {r} o t. t;
  puts = λ {X} {r} o t. ap (λ (b : Bool). written b X r.1) (mine_inside (eqb r.0 7) _ t);
  refuses = λ X r t. refused (mine r) X r.1 t;
  suffices = λ room X t. t;
}

abbrev pub tagged : List Write → List (ℕ × Write)
tagged ws = map (λ w. (7, w)) ws

tags_do : (ws : List Write) → All toy.Fits ws → Do numbered (tagged ws) ws
tags_do [] f = tt
tags_do (w ∷ ws) f = (record { takes = f.0; row = refl }, tags_do ws f.1)

-- the example's first call by such rows
abbrev pub call : Change (store_of numbered)
call =
    let 𝓒 = change toy first recover in
    in_form numbered 𝓒 (tagged 𝓒.ahead) (7, 𝓒.decide) (tagged 𝓒.behind) (λ room X. Option.map tagged (𝓒.recover room X))

-- it meets every demand, since it does by its own
pub call_owed : Obligations call
call_owed = owed_in (carries_of numbered (change toy first recover) call refl refl
    (tags_do (plan (change toy first recover)) (tt, (tt, (tt, (tt, (tt, tt))))))) (record {
      answers = λ room X o t ws f e. (tagged ws, ap (Option.map tagged) e, tags_do ws f);
      refuses = λ room X o t. ap (Option.map tagged) (first_owed.refuses X o room t);
    }) first_owed
