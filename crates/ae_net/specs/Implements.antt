-- What it is that a network implements a source.
use Rattle.std.specs.Prelude.{◌≡◌, ◌⊎◌, ℕ, ◌<◌, ◌-◌, Bool, true, false, None, List, [], ◌∷◌, ◌++◌, length, map}
use Rattle.ae_base.specs.Mask.{Set, has}
use Rattle.ae_base.specs.Terms.{IsPoint}
use Rattle.ae_base.specs.Source.{Source, Specified}
use Rattle.ae_base.specs.Source.Specified.{On, Off, Free}
use Rattle.ae_net.specs.Network.{Network, gate_at}
use Rattle.ae_net.specs.Run.{Shows}

-- the names of the output ports: each has the name of the gate whose signal it shows
abbrev pub port_names : Network → List (List ℕ)
port_names n = map (λ s. (gate_at n (s - length n.inputs)).out) n.outputs

-- a value is one that is specified
abbrev pub Meets : Specified → Bool → Type 0
Meets On v = v ≡ true
Meets Off v = v ≡ false
Meets Free v = Unit {0}

-- at the point each output of the source has a value that is specified
abbrev pub AreSpecified : Source → Set → Set → Type 0
AreSpecified s x ys = (o : ℕ) → o < length s.outputs → Meets (s.specified o x) (has ys o)

-- The ports have the names of the source's outputs in order. The inputs have the names of the source's inputs in order, with at most
-- one more input at the end, the control. At each point of the source the network shows values that are specified, the control being
-- at 0: a point of the source holds none but its inputs.
pub record Implements (n : Network) (s : Source) : Type 0 where
  pub ports : port_names n ≡ s.outputs
  pub inputs : (n.inputs ≡ s.inputs) ⊎ ((control : List ℕ) × (n.inputs ≡ s.inputs ++ control ∷ []))
  pub values : (x : Set) → IsPoint (length s.inputs) x → (ys : Set) × Shows n None x ys × AreSpecified s x ys
