-- What the steps of a synthesis work on. For private contracts alone.
use Rattle.std.specs.Prelude.{◌≡◌, ◌⊎◌, ℕ, ◌+◌, ◌≤◌, None, List, [], length, map, All}
use Rattle.std.specs.List.{AllZip}
use Rattle.ae_base.specs.Mask.{Set}
use Rattle.ae_base.specs.Cube.{Signs}
use Rattle.ae_base.specs.Source.{Source}
use Rattle.ae_base.specs.Terms.{IsPoint}
use Rattle.ae_net.specs.Names.{IsNames, Names}
use Rattle.ae_net.specs.Network.{Network}
use Rattle.ae_net.specs.Out.{out}
use Rattle.cascade.specs.Shows.{CanBuild, reddy_net}
use Rattle.ae_net.specs.Valid.{IsValid}
use Rattle.esop.specs.Esop.{Cubes, HasValueOf, esop_of}
use Rattle.esop.specs.Kept.{IsCubes}
use Rattle.esop.specs.Rewriting.{rewritten_lists}
use Rattle.esop.specs.Settled.{AreSettled}
use Rattle.factor.specs.Factored.{HasFactoredForm}
use Rattle.factor.specs.Shows.{Fits, HasNames, ShowsEsop, cube_count, exor_count}
use Rattle.expansion.specs.Functions.{AreExpansions}
use Rattle.expansion.specs.Terms.{Terms, cost, PassesAt}
use Rattle.input_tests.specs.Whole.{cascade_tests}
use Rattle.polarity.specs.Search.{Advised, Stands}
use Rattle.synth_core.specs.Asked.{terms_limit}
use Rattle.synth_core.specs.declared.made.Summary.{Summary}
use Rattle.synth_core.specs.declared.settings.Settings.{Settings}
use Rattle.synth_core.specs.declared.settings.Choice.{Choice}
use Rattle.synth_core.specs.declared.settings.Choice.TheVariants.{Positive, Search, Given}
use Rattle.named_faults.specs.Lines.{AreUndetectable}
use Rattle.synth_core.specs.Made.{IsSynthesised, Texts, lines_from}
use Rattle.synth_core.specs.Searched.{IsSearched}
use Rattle.synth_core.specs.Sourced.{IsSourced, Parts}
use Rattle.test_gen.specs.Tests.{tests_of}
use Rattle.test_gen.specs.Undetectable.{IsComplete}
use Rattle.vec_text.specs.declared.file.EsopLine.{EsopLine}
use Rattle.vec_text.specs.declared.file.Idle.{Idle}
use Rattle.ae_base.specs.declared.form.Form.{Form}
use Rattle.ae_base.specs.declared.form.Form.TheVariants.{Reddy, Factored}
use Rattle.vec_text.specs.declared.file.Vector.{Vector}
use Rattle.vec_text.specs.VectorFile.{VectorFile, IsIdle}

-- the expansions of a source pass the limit first at an output
pub record TooMany (form : Form) (s : Source) (p : Signs) (output : ℕ) : Type 0 where
  pub expansions : Terms
  pub are : AreExpansions s p expansions
  pub passes : PassesAt (terms_limit form) expansions.outs output

-- each point with the network's fault-free outputs there
abbrev pub vectors_of : Network → List Set → List Vector
vectors_of n points = map (λ x. record { point = x; outs = out n None x }) points

-- the vector file of a network over these points, with these cubes and these undetectable faults
abbrev pub file_over : Form → Network → List (List ℕ) → Signs → List EsopLine → List Set → List Idle → VectorFile
file_over form n outputs p esop points unchanged = record {
  form = form;
  inputs = n.inputs;
  outputs = outputs;
  polarity = p;
  esop = esop;
  vectors = vectors_of n points;
  unchanged = unchanged;
}

-- that of the Reddy network of expansions over the vectors of the cascade
abbrev pub reddy_file : Names → Terms → VectorFile
reddy_file names e = file_over Reddy (reddy_net names e) names.outputs e.polarity [] (cascade_tests e) []

-- that of a factored network of cubes, over these points
abbrev pub factored_file : Names → Signs → Cubes → Network → List Set → List Idle → VectorFile
factored_file names p cubes n points unchanged = file_over Factored n names.outputs p (lines_from 0 cubes.outs) points unchanged

-- the tests of a network: its points, and the lines of its undetectable faults, by their names
pub record AreTests (n : Network) (p : Signs) (points : List Set) (unchanged : List Idle) : Type 0 where
  pub points_are : points ≡ tests_of n p
  pub over : All (IsPoint (length n.inputs)) points
  pub complete : IsComplete n points
  pub undetectable : AreUndetectable n unchanged
  pub valid : All IsIdle unchanged

-- the cubes of expansions, rewritten
pub record AreRewritten (e : Terms) (cubes : Cubes) : Type 0 where
  pub are : cubes ≡ rewritten_lists (esop_of e)
  pub settled : AreSettled cubes
  pub values : AllZip (HasValueOf e.polarity) e.outs cubes.outs
  pub few : cube_count cubes ≤ cost e
  pub inputs : cubes.n ≡ e.polarity.n

-- the vectors of the cascade are points of the network's inputs
abbrev pub AreCascadePoints : Terms → Type 0
AreCascadePoints e = All (IsPoint (e.polarity.n + 1)) (cascade_tests e)

-- the factored network of cubes, valid and with the names
pub record IsFactoredNet (names : Names) (cubes : Cubes) (n : Network) : Type 0 where
  pub named : IsNames names
  pub cubes_valid : IsCubes cubes
  pub fits : Fits names cubes
  pub valid : IsValid n
  pub form : HasFactoredForm names cubes n
  pub names_are : HasNames names n
  pub values : ShowsEsop n cubes
  pub few_exors : exor_count n ≤ cube_count cubes

-- the file is that of a factored network of cubes over its tests
pub record IsTestedFile (names : Names) (p : Signs) (cubes : Cubes) (n : Network) (file : VectorFile) : Type 0 where
  pub points : List Set
  pub unchanged : List Idle
  pub tests : AreTests n p points unchanged
  pub is : file ≡ factored_file names p cubes n points unchanged

-- what the law of a synthesis asks for of names and expansions
pub record AreReady (names : Names) (e : Terms) : Type 0 where
  pub built : CanBuild names e
  pub points : AreCascadePoints e

-- the source's expansions at a polarity are few enough
pub record HasFewTerms (form : Form) (s : Source) (p : Signs) : Type 0 where
  pub expansions : Terms
  pub are : AreExpansions s p expansions
  pub within : cost expansions ≤ terms_limit form

-- the polarity that comes of the start
abbrev pub ComesOf : Choice → ℕ → Source → Signs → (before after : List Advised) → Signs → Type 0
ComesOf Positive limit s start before after p = p ≡ start
ComesOf Search limit s start before after p = IsSearched s limit start before after p
ComesOf (Given q) limit s start before after p = p ≡ start

-- the advisors are as before, or no more is left of each and its log begins with the old one
abbrev pub OnlyAsked : Choice → (before after : List Advised) → Type 0
OnlyAsked choice before after = (after ≡ before) ⊎ ((choice ≡ Search) × AllZip Stands before after)

-- that, where they are not as before for a source whose expansions are few enough
abbrev pub OnlySearched : Settings → Parts → (before after : List Advised) → Type 0
OnlySearched settings r before after = (after ≡ before)
    ⊎ ((settings.polarity ≡ Search) × AllZip Stands before after × ((s : Source) (p : Signs) → IsSourced s p r → HasFewTerms settings.form s p))

-- These texts were made of the source, whose expansions at the start are few enough.
pub record IsMadeOf (settings : Settings) (s : Source) (start : Signs) (before after : List Advised) (texts : Texts) : Type 0 where
  pub few : HasFewTerms settings.form s start
  pub polarity : Signs
  pub comes : ComesOf settings.polarity (terms_limit settings.form) s start before after polarity
  pub expansions : Terms
  pub are : AreExpansions s polarity expansions
  pub is_synthesised : IsSynthesised settings.form polarity s expansions texts
