-- What the rows of every move have in common: rows where they are asked for, the row that sets the journal record, and keys that differ. Assumes nothing.
use Rattle.std.specs.Prelude.{◌≡◌, refl, ◌≢◌, Bool, true, false, not, List, [], ◌∷◌, ◌++◌, ℕ, eqb}
use Rattle.std.proofs.Common.{sym, subst, inl, lit<, lit≤, ne_eqb}
use Rattle.std.proofs.Math.Decide.{ℕ_discrete}
use Rattle.std.proofs.lemmas.Bool.{eqb-false, not-true}
use Rattle.layout.specs.declared.Shape.{Shape}
use Rattle.layout.specs.Place.{Key}
use Rattle.encode.specs.JournalLaws.{journal_length}
use Rattle.plan.specs.Write.{Write}
use Rattle.plan.specs.Filled.{AllWrites}
use Rattle.plan.proofs.WriteLaws.{other_section, other_index}
use Rattle.recounts.specs.declared.Move.{Move}
use Rattle.results.specs.Results.{when}
use Rattle.results.specs.Start.{journal_for, start_row}
use Rattle.crash_theorem.specs.Pick.{All, Has}
use Rattle.crash_theorem.specs.Store.{Distinct, Spares}
use Rattle.image_store.specs.Image.{Fits}
use Rattle.image_store.proofs.ImageLaws.{images}

-- ---- each replaces a record whole

-- rows that an operation may write fit
pub writes_fit : (h : Shape) (ws : List Write) → AllWrites h ws → All (Fits h) ws
writes_fit h [] a = tt
writes_fit h (w ∷ ws) a = (record { writes = a.0 }, writes_fit h ws a.1)

pub start_fits : (h : Shape) (kind : ℕ) (m : Move) → Fits h (start_row kind m)
start_fits h kind m = record {
  writes = record {
    first = lit≤ tt;
    last = lit≤ tt;
    valid = record { in_image = lit< tt; in_section = lit< tt };
    allowed = refl;
    whole = journal_length (journal_for kind m);
  };
}

-- ---- a row where it is asked for

pub all_when : (P : Write → Type 0) (b : Bool) (w : Write) → (b ≡ true → P w) → All P (when b w)
all_when P true w f = (f refl, tt)
all_when P false w f = tt

-- where two numbers differ
pub all_apart : (P : Write → Type 0) (a b : ℕ) (w : Write) → (a ≢ b → P w) → All P (when (not (eqb a b)) w)
all_apart P a b w f = all_when P (not (eqb a b)) w (λ e. f (eqb-false _ _ (not-true _ e)))

pub has_apart : (a b : ℕ) (w : Write) → a ≢ b → Has (when (not (eqb a b)) w) w
has_apart a b w n = rw (ne_eqb a b n) (inl refl)

-- a row for each of two numbers is there if one is, and the other where they differ
pub has_either : (ws : List Write) (row : ℕ → Write) (a b : ℕ) → Has ws (row b) → (a ≢ b → Has ws (row a)) → Has ws (row a)
has_either ws row a b one other = go (ℕ_discrete a b)
  where
    go : Dec (a ≡ b) → Has ws (row a)
    go (yes e) = subst (λ (i : ℕ). Has ws (row i)) (sym e) one
    go (no n) = other n

module _ (h : Shape) (s : List ℕ) (b : Bool) (w : Write) where
  pub distinct_when : (ws : List Write) → (b ≡ true → Spares (images h s) ws w.key) → Distinct (images h s) ws → Distinct (images h s) (when b w ++ ws)
  distinct_when ws f d = go b f
    where
      go : (b : Bool) → (b ≡ true → Spares (images h s) ws w.key) → Distinct (images h s) (when b w ++ ws)
      go true f = (f refl, d)
      go false f = d

  pub one_when : Distinct (images h s) (when b w)
  one_when = go b
    where
      go : (b : Bool) → Distinct (images h s) (when b w)
      go true = (tt, tt)
      go false = tt

-- ---- records of different sections, and of one section

pub section : {j k a b : ℕ} → eqb j k ≡ false → ◌≢◌ {A = Key} (record { section = j; index = a }) (record { section = k; index = b })
section {j} {k} e = other_section _ _ (eqb-false j k e)

pub index : {k a b : ℕ} → a ≢ b → ◌≢◌ {A = Key} (record { section = k; index = a }) (record { section = k; index = b })
index n = other_index _ _ n
