-- The store: images made of records, and applying a row, which replaces one record. Assumes nothing.
use Rattle.std.specs.Prelude.{◌≡◌, ◌≢◌, Bool, not, List, [], ◌∷◌, ℕ, T}
use Rattle.crash_theorem.specs.Pick.{All, Any}

-- What the crash theorem knows of images. The byte image is one such store.
pub record Store : Type 1 where
  -- an image as a whole
  pub Img : Type 0
  -- what names a record of an image
  pub Key : Type 0
  -- what a record holds
  pub Body : Type 0
  -- one write of a plan
  pub Row : Type 0
  -- what recovery (the papers' repair) is lent besides the image: its buffers
  pub Lent : Type 0
  -- whether they are long enough for recovery of an image
  pub enough : Lent → Img → Bool
  -- a row's ordering group: it waits for the rows of lower groups
  pub group : Row → ℕ
  -- the record that a row replaces
  pub key : Row → Key
  -- what the row puts there
  pub body : Row → Body
  -- a record's body in an image
  pub get : Img → Key → Body
  -- the image once a row is applied (the papers' landing)
  pub put : Img → Row → Img
  -- whether applying a row is answered with success
  pub accepts : Img → Row → Bool
  -- the image has the one layout that the change is about
  pub Ok : Img → Type 0
  -- the row covers exactly one record of that layout
  pub Fits : Row → Type 0
  -- keys can be compared
  pub same : (j k : Key) → Dec (j ≡ k)
  -- a fitting row is accepted by any image of the layout
  pub takes : {X : Img} {r : Row} → Ok X → Fits r → T (accepts X r)
  -- a row that is not accepted changes nothing
  pub refuses : (X : Img) (r : Row) → T (not (accepts X r)) → put X r ≡ X
  -- applying keeps the layout
  pub put_ok : {X : Img} {r : Row} → Ok X → Fits r → Ok (put X r)
  -- the row's record holds the row's body afterwards
  pub get_same : {X : Img} {r : Row} → Ok X → Fits r → get (put X r) (key r) ≡ body r
  -- and every other record what it held
  pub get_other : {X : Img} {r : Row} → Ok X → Fits r → (j : Key) → j ≢ key r → get (put X r) j ≡ get X j
  -- images of the layout with the same records are the same
  pub ext : {X Y : Img} → Ok X → Ok Y → ((k : Key) → get X k ≡ get Y k) → X ≡ Y

module _ (𝓢 : Store) where
  abbrev pub Rows : Type 0
  Rows = List 𝓢.Row

  -- the rows applied one after another
  abbrev pub put_all : 𝓢.Img → Rows → 𝓢.Img
  put_all X [] = X
  put_all X (r ∷ rs) = put_all (𝓢.put X r) rs

  -- some row of the list replaces the record
  abbrev pub Covers : Rows → 𝓢.Key → Type 0
  Covers rs k = Any (λ r. 𝓢.key r ≡ k) rs

  -- no row of the list does
  abbrev pub Spares : Rows → 𝓢.Key → Type 0
  Spares rs k = All (λ r. 𝓢.key r ≢ k) rs

  -- no two rows of the list replace the same record
  abbrev pub Distinct : Rows → Type 0
  Distinct [] = Unit {0}
  Distinct (r ∷ rs) = Spares rs (𝓢.key r) × Distinct rs
