-- The headline: what is promised of a source's network and of its vectors.
use Rattle.std.specs.Prelude.{◌≡◌, ℕ, ◌≤◌, None, Ok, List, length, map, All}
use Rattle.ae_base.specs.Mask.{Set}
use Rattle.ae_base.specs.Source.{Source}
use Rattle.ae_net.specs.Detects.{DetectsEveryFault}
use Rattle.ae_net.specs.Implements.{Implements, port_names}
use Rattle.ae_net.specs.Network.{Network}
use Rattle.ae_net.specs.Run.{Shows}
use Rattle.ae_net.specs.Valid.{IsValid}
use Rattle.blif_read.specs.declared.fault.NetLimits.TheVariants.{Written}
use Rattle.blif_read.specs.Says.{blif_says}
use Rattle.expansion.specs.Even.{AreEven}
use Rattle.input_tests.specs.Whole.{vector_bound}
use Rattle.test_gen.specs.Undetectable.{IsComplete}
use Rattle.ae_base.specs.declared.form.Form.{Form}
use Rattle.ae_base.specs.declared.form.Form.TheVariants.{Reddy, Factored}
use Rattle.vec_text.specs.Says.{vec_says}
use Rattle.vec_text.specs.VectorFile.{VectorFile}

-- ---- in every form

-- The bytes of a network as BLIF and the bytes of its vectors.
pub record IsWritten (net_bytes vec_bytes : List ℕ) : Type 0 where
  -- The written BLIF reads back as a network.
  pub net : Network
  pub reads_back : blif_says Written net_bytes ≡ Ok net
  pub valid : IsValid net
  -- The other bytes say a vector file with the names of the network,
  pub file : VectorFile
  pub says : vec_says vec_bytes ≡ Ok file
  pub inputs : file.inputs ≡ net.inputs
  pub outputs : file.outputs ≡ port_names net
  -- each of whose responses is that network's.
  pub responses : All (λ v. Shows net None v.point v.outs) file.vectors

-- ---- in each form

-- In Reddy form there are at most n + 4 vectors and two for each even input, n being the number of the source's inputs, and they detect
-- every single stuck-at fault of the network.
pub record IsReddyTested (s : Source) (net : Network) (file : VectorFile) : Type 0 where
  pub evens : Set
  pub are_even : AreEven s file.polarity evens
  pub few : length file.vectors ≤ vector_bound (length s.inputs) evens
  pub detected : DetectsEveryFault net (map (λ v. v.point) file.vectors)

-- What a form promises of its network: with the control low it gives every output value that the source specifies. In factored form it
-- has no control.
abbrev pub IsNetOf : Form → Source → Network → Type 0
IsNetOf Reddy s net = Implements net s
IsNetOf Factored s net = Implements net s × (net.inputs ≡ s.inputs)

-- what a form promises of its vectors; in factored form each stuck-at fault that no vector detects changes no output at any point
abbrev pub IsTested : Form → Source → Network → VectorFile → Type 0
IsTested Reddy s net file = IsReddyTested s net file
IsTested Factored s net file = IsComplete net (map (λ v. v.point) file.vectors)

-- ---- the headline

-- The texts of a source's network and of its vectors, in a form.
pub record Headline (form : Form) (s : Source) (net_bytes vec_bytes : List ℕ) : Type 0 where
  pub written : IsWritten net_bytes vec_bytes
  pub has_form : written.file.form ≡ form
  pub is_net : IsNetOf form s written.net
  pub tested : IsTested form s written.net written.file
