-- The crash theorem: a call that meets its obligations is safe after every list of events. Assumes nothing.
use Rattle.std.specs.Prelude.{List, T}
use Rattle.crash_theorem.proofs.PickLaws.{all_map}
use Rattle.crash_theorem.proofs.TurnLaws.{has_turn}
use Rattle.crash_theorem.specs.Store.{Store}
use Rattle.crash_theorem.specs.Change.{Change}
use Rattle.crash_theorem.specs.Events.{EventOf, St, decided, start, run}
use Rattle.crash_theorem.specs.Obligations.{Obligations}
use Rattle.crash_theorem.specs.Invariant.{Inv}
use Rattle.crash_theorem.proofs.InvariantLaws.{whole, inside_of, ended_of, logged_of, decision_of, fits_of, start_inv, run_inv}
use Rattle.crash_theorem.proofs.FinishLaws.{finish_of}
use Rattle.crash_theorem.specs.Crash.{Safe}

module _ {𝓢 : Store} (𝓒 : Change 𝓢) where
  module _ (𝓞 : Obligations 𝓒) where
    pub safe_of : (s : St 𝓒) → Inv 𝓒 s → Safe 𝓒 s
    safe_of s h =
        let i = inside_of 𝓒 s h in
        record {
          on_the_way = i;
          recoverable = λ b t. let w = 𝓞.recovers (decided 𝓒 s) s.img i b t in (w.rows, w.answer);
          refused = λ b t. 𝓞.refuses s.img i.ok b t;
          can_finish = finish_of 𝓒 𝓞 s h;
          accepted = all_map 𝓢.Fits (λ r. T (𝓢.accepts s.img r)) (λ r f. 𝓢.takes i.ok f) s.waiting
              (fits_of 𝓒 𝓞.orderly s h);
          progress = has_turn 𝓢.group s.waiting;
          outcome = ended_of 𝓒 s h;
          whole = λ t. (whole 𝓒 𝓞.orderly s.phase s.waiting t h).1;
          decision = decision_of 𝓒 s.applied (logged_of 𝓒 s h);
        }

    -- It holds after every list of events.
    pub crash_safe : (es : List (EventOf 𝓢)) → Safe 𝓒 (run 𝓒 (start 𝓒) es)
    crash_safe es = safe_of (run 𝓒 (start 𝓒) es) (run_inv 𝓒 𝓞 (start 𝓒) es (start_inv 𝓒 𝓞.orderly))
