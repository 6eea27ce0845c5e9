-- Rows given in another form, as a plan's bytes and a number: the store of that form, and what it is for a change to be given in it. Assumes
-- nothing.
use Rattle.std.specs.Prelude.{◌≡◌, Bool, not, T}
use Rattle.std.proofs.Common.{sym, ap, ◌∙◌, subst}
use Rattle.crash_theorem.specs.Store.{Store}

-- Another form of a store's rows, over the same images and records.
pub record Form (𝓢 : Store) : Type 1 where
  -- a row in this form
  pub Row : Type 0
  -- what recovery (the papers' repair) is lent besides the image
  pub Lent : Type 0
  -- the store's row that a row stands for
  pub says : Row → 𝓢.Row
  -- what the store's own recovery is lent for it
  pub lends : Lent → 𝓢.Lent
  -- whether it is long enough for recovery of an image
  pub enough : Lent → 𝓢.Img → Bool
  -- the image once a row is applied (the papers' landing)
  pub put : 𝓢.Img → Row → 𝓢.Img
  -- whether applying a row is answered with success
  pub accepts : 𝓢.Img → Row → Bool
  -- the row is one that images of the layout take
  pub Takes : Row → Type 0
  -- it then stands for one that covers exactly one record
  pub fits : {X : 𝓢.Img} {r : Row} → 𝓢.Ok X → Takes r → 𝓢.Fits (says r)
  -- it is accepted
  pub takes : {X : 𝓢.Img} {r : Row} → 𝓢.Ok X → Takes r → T (accepts X r)
  -- and leaves the image that the store's row leaves
  pub puts : {X : 𝓢.Img} {r : Row} → 𝓢.Ok X → Takes r → put X r ≡ 𝓢.put X (says r)
  -- a row that is not accepted changes nothing
  pub refuses : (X : 𝓢.Img) (r : Row) → T (not (accepts X r)) → put X r ≡ X
  -- what is long enough in this form is so for the store's own recovery
  pub suffices : (b : Lent) (X : 𝓢.Img) → T (enough b X) → T (𝓢.enough (lends b) X)

module _ {𝓢 : Store} (F : Form 𝓢) where
  -- the same images, written by rows of this form
  abbrev pub store_of : Store
  store_of = record {
    Img = 𝓢.Img;
    Key = 𝓢.Key;
    Body = 𝓢.Body;
    Row = F.Row;
    Lent = F.Lent;
    enough = F.enough;
    group = λ r. 𝓢.group (F.says r);
    key = λ r. 𝓢.key (F.says r);
    body = λ r. 𝓢.body (F.says r);
    get = 𝓢.get;
    put = F.put;
    accepts = F.accepts;
    Ok = 𝓢.Ok;
    Fits = F.Takes;
    same = 𝓢.same;
    takes = λ {X} {r} o t. F.takes o t;
    refuses = F.refuses;
    put_ok = λ {X} {r} o t. subst 𝓢.Ok (sym (F.puts o t)) (𝓢.put_ok o (F.fits o t));
    get_same = λ {X} {r} o t. ap (λ (Y : 𝓢.Img). 𝓢.get Y (𝓢.key (F.says r))) (F.puts o t) ∙ 𝓢.get_same o (F.fits o t);
    get_other = λ {X} {r} o t k n. ap (λ (Y : 𝓢.Img). 𝓢.get Y k) (F.puts o t) ∙ 𝓢.get_other o (F.fits o t) k n;
    ext = λ {X} {Y} o p e. 𝓢.ext o p e;
  }

  -- ---- rows of this form that do what the store's rows say

  -- Images of the layout take the row, and it stands for w.
  pub record Does (r : F.Row) (w : 𝓢.Row) : Type 0 where
    pub takes : F.Takes r
    pub row : F.says r ≡ w
