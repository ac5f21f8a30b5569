-- The functions of a network's signals.
use Rattle.std.specs.Prelude.{◌≡◌, ℕ, Bool, false, Option, List, length}
use Rattle.ae_base.specs.Mask.{Set, has, where_below}
use Rattle.ae_net.specs.declared.net.Fault.{Fault}
use Rattle.ae_net.specs.Evaluation.{Domain, IsEvaluation}
use Rattle.ae_net.specs.Network.{Network}
use Rattle.ae_net.specs.Run as run
use Rattle.fn_store.specs.Functions.{Functions}
use Rattle.fn_store.specs.declared.store.FnRef.{FnRef}
use Rattle.net_fn.specs.Refs.{AreLive, ShowEach}

-- truth functions as a kind of values, with a fault or without: at each point they are truth values
abbrev pub truth_functions : Option Fault → Domain (Set → Bool)
truth_functions fault = record {
  nothing = λ x. false;
  input = λ j x. has x j;
  table = λ gate sees x. run.table gate (where_below (length gate.pins) (λ k. sees k x));
  seen = λ at f x. run.seen fault at (f x);
}

-- References for the first signals, as many as k: what they show is the evaluation of the network over truth functions.
pub record ShowSignals (s : Functions) (n : Network) (fault : Option Fault) (k : ℕ) (refs : List FnRef) : Type 0 where
  pub count : length refs ≡ k
  pub live : AreLive s refs
  pub shows : (fs : ℕ → Set → Bool) → IsEvaluation (truth_functions fault) n fs → ShowEach s refs fs
