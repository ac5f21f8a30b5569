-- The expansions of a source's outputs.
use Rattle.std.specs.Prelude.{◌≡◌, ℕ, Some, List, length, slice_get}
use Rattle.ae_base.specs.Mask.{Set}
use Rattle.ae_base.specs.Cube.{Signs}
use Rattle.ae_base.specs.Source.{Source, on_set}
use Rattle.fn_store.specs.Davio.{IsExpansion}
use Rattle.expansion.specs.Terms.{Terms}

-- at a polarity of the source's inputs, for each output in order the expansion of the function that is 1 exactly where it is specified On
pub record AreExpansions (s : Source) (p : Signs) (e : Terms) : Type 0 where
  pub inputs : p.n ≡ length s.inputs
  pub polarity : e.polarity ≡ p
  pub outputs : length e.outs ≡ length s.outputs
  pub each : (o : ℕ) (ts : List Set) → slice_get e.outs o ≡ Some ts → IsExpansion p (on_set s o) ts
