-- The Reddy network of names and expansions, and what it shows. For private contracts alone.
use Rattle.std.specs.Prelude.{◌≡◌, ℕ, ◌≤◌, true, false, not, Some, None, List, [], ◌∷◌, ◌++◌, length, slice_get}
use Rattle.ae_base.specs.Mask.{Set, has}
use Rattle.ae_base.specs.Terms.{value}
use Rattle.ae_net.specs.Implements.{port_names}
use Rattle.ae_net.specs.Lead.{lead}
use Rattle.ae_net.specs.Names.{Names, IsNames}
use Rattle.ae_net.specs.Network.{Network}
use Rattle.ae_net.specs.Out.{out}
use Rattle.expansion.specs.Terms.{Terms, cost}
use Rattle.expansion.specs.Kept.{IsTerms}
use Rattle.ae_base.specs.declared.limits.TheConstants.{REDDY_TERMS}
use Rattle.cascade.specs.Reddy.{reddy_over}

-- the network whose inner names have the least free number of underscores
unfoldable pub reddy_net : Names → Terms → Network
reddy_net names e = reddy_over (lead names) names e

-- one expansion for each output name, over as many inputs as there are input names
pub record Fits (names : Names) (e : Terms) : Type 0 where
  pub inputs : e.polarity.n ≡ length names.inputs
  pub outputs : length e.outs ≡ length names.outputs

-- with the control at 0 each output is its function
abbrev pub ShowsFunctions : Network → Terms → Type 0
ShowsFunctions n e = (x : Set) → has x e.polarity.n ≡ false → (o : ℕ) (ts : List Set) → slice_get e.outs o ≡ Some ts → has (out n None x) o ≡ value e.polarity ts x

-- with the control at 1 each output is the complement of its function
abbrev pub ShowsComplements : Network → Terms → Type 0
ShowsComplements n e = (x : Set) → has x e.polarity.n ≡ true → (o : ℕ) (ts : List Set) → slice_get e.outs o ≡ Some ts → has (out n None x) o ≡ not (value e.polarity ts x)

-- the inputs have these names in order, and then one more input stands, the control
abbrev pub HasInputNames : Network → List (List ℕ) → Type 0
HasInputNames n inputs = (control : List ℕ) × (n.inputs ≡ inputs ++ control ∷ [])

-- the output ports have these names in order
abbrev pub HasPortNames : Network → List (List ℕ) → Type 0
HasPortNames n outputs = port_names n ≡ outputs

-- what is to be known of a source and its expansions to build their Reddy network
pub record CanBuild (names : Names) (e : Terms) : Type 0 where
  pub named : IsNames names
  pub terms : IsTerms e
  pub fits : Fits names e
  pub cheap : cost e ≤ REDDY_TERMS
