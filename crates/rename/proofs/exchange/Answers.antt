-- `rename::exchange` meets its contract. Assumes nothing.
use mathlib.Core.Path.{◌≡◌, sym, subst}
use lib.ListN.{length}
use borrow.Author.Rules.{rules}
use Rattle.recounts.specs.declared.Move.{Move}
use Rattle.exchanges.specs.Exchange.{exchange_rows, exchange_planned}
use Rattle.exchanges.specs.InImage.{BothInImage}
use Rattle.rename.proofs.exchange.Goals as goal

pub fill-requires : goal.fill-requires
fill-requires c =
    (search rules, subst (BothInImage c.args.image.now.shape) (sym c.exchange_of.ensures) c.requires.1)

pub returns : goal.returns
returns c =
    let args = c.args in
    subst (λ (m : Move). (c.fill.new.plan ≡ exchange_planned args.image.now.shape args.image.now.bytes.now m args.plan.now)
    × (c.fill.result ≡ length (exchange_rows args.image.now.shape args.image.now.bytes.now m)))
    c.exchange_of.ensures c.fill.ensures
