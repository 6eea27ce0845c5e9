-- The records that a planned exchange writes are in the image, and different ones. Assumes nothing.
-- An exchange looks the same from both sides: what is shown of the first side holds of the second, for the exchange mirrored.
use Rattle.std.specs.Prelude.{List, ℕ}
use Rattle.layout.specs.declared.Shape.{Shape}
use Rattle.layout.specs.View.{view_of}
use Rattle.edits.specs.ConsistentView.{ConsistentView}
use Rattle.edits.proofs.ExchangedLaws.{mirrored, slots_apart, side_directory, side_used}
use Rattle.edits.proofs.Bodies.{bodies_consistent}
use Rattle.recounts.specs.declared.Move.{Move}
use Rattle.exchanges.specs.Exchange.{back}
use Rattle.exchanges.specs.InImage.{BothInImage}
use Rattle.exchange_outcome.specs.Paired.{Paired}

module _ {h : Shape} {s : List ℕ} {m : Move} (c : Paired h s m) where
  pub before_good : ConsistentView (view_of h s)
  before_good = bodies_consistent c.bodies

  pub in_image : BothInImage h m
  unfolding view_of
  in_image =
      let first = c.allowed.first in
      let second = c.allowed.second in
      record {
        slots = record { old = first.used.0; new = second.used.0; apart = slots_apart c.allowed };
        moved = (side_used before_good first).0;
        from = (side_directory before_good first).0;
        into = (side_directory before_good second).0;
        replaced = (side_used before_good second).0;
      }

  -- the exchange, as the replaced inode sees it
  pub turned : Paired h s (back m)
  turned = record { read = c.read; bodies = c.bodies; clear = c.clear; allowed = mirrored c.allowed; text = c.text; time = c.time }
