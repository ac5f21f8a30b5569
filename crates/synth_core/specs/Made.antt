-- What a synthesis makes of a source: the texts of a network and of its vectors, and their numbers, exactly.
use Rattle.std.specs.Prelude.{◌≡◌, ℕ, suc, ◌<◌, ◌≤◌, Bool, not, None, List, [], ◌∷◌, ◌++◌, length, map}
use Rattle.std.specs.List.{AllZip}
use Rattle.ae_base.specs.Mask.{Set, has, with}
use Rattle.ae_base.specs.Cube.{Product, Signs}
use Rattle.ae_base.specs.Terms.{IsPoint}
use Rattle.ae_base.specs.Source.{Source, on_set}
use Rattle.ae_net.specs.Blif.{blif_text}
use Rattle.ae_net.specs.Faults.{fault_list}
use Rattle.ae_net.specs.Names.{Names, IsLead}
use Rattle.ae_net.specs.Network.{Network}
use Rattle.ae_net.specs.Run.{Shows}
use Rattle.cascade.specs.Reddy.{reddy_over}
use Rattle.esop.specs.Esop.{Cubes, HasValueOf, esop_of}
use Rattle.esop.specs.Rewriting.{rewritten_lists}
use Rattle.esop.specs.Settled.{AreSettled}
use Rattle.expansion.specs.Functions.{AreExpansions}
use Rattle.expansion.specs.Terms.{Terms, cost}
use Rattle.factor.specs.Factored.{AreSums, network_of, wires}
use Rattle.factor.specs.Shows.{cube_count, exor_count}
use Rattle.factor.specs.Sums.{Summands}
use Rattle.input_tests.specs.Whole.{cascade_tests}
use Rattle.polarity.specs.Search.{Advised}
use Rattle.synth_core.specs.Asked.{IsWithin, terms_limit}
use Rattle.synth_core.specs.Headline.{Headline}
use Rattle.named_faults.specs.Lines.{AreUndetectable}
use Rattle.synth_core.specs.Searched.{IsPolarity}
use Rattle.synth_core.specs.declared.made.Made.{Made}
use Rattle.synth_core.specs.declared.made.Summary.{Summary}
use Rattle.synth_core.specs.declared.settings.Settings.{Settings}
use Rattle.ae_base.specs.declared.form.Form.{Form}
use Rattle.test_gen.specs.Tests.{tests_of}
use Rattle.vec_text.specs.declared.file.EsopLine.{EsopLine}
use Rattle.ae_base.specs.declared.form.Form.TheVariants.{Reddy, Factored}
use Rattle.vec_text.specs.VectorFile.{VectorFile, vector_text}

-- the texts of a network and of its vectors, and their numbers
pub record Texts : Type 0 where
  pub net_text : List ℕ
  pub vec_text : List ℕ
  pub summary : Summary

abbrev pub texts_of : Made → Texts
texts_of made = record { net_text = made.net_text.items; vec_text = made.vec_text.items; summary = made.summary }

abbrev pub names_of : Source → Names
names_of s = record { model = s.model; inputs = s.inputs; outputs = s.outputs }

-- At the point each of the first m outputs has this value.
abbrev pub ShowsAt : Network → Set → ℕ → (ℕ → Bool) → Type 0
ShowsAt n x m value = (ys : Set) × Shows n None x ys × ((o : ℕ) → o < m → has ys o ≡ value o)

-- ---- in each form

-- In Reddy form the network is the cascade over the expansions, and its inner names begin with the least free number of underscores. With
-- the control at 1, which is the input after those of the source, each output is 1 exactly where the source does not specify On. The
-- vectors are those of the cascade in order.
pub record IsReddy (s : Source) (e : Terms) (n : Network) (file : VectorFile) : Type 0 where
  pub underscores : ℕ
  pub is_lead : IsLead (names_of s) underscores
  pub cascade : n ≡ reddy_over underscores (names_of s) e
  pub high : (x : Set) → IsPoint (length s.inputs) x → ShowsAt n (with x (length s.inputs)) (length s.outputs) (λ o. not (on_set s o x))
  pub points : map (λ v. v.point) file.vectors ≡ cascade_tests e

-- the cubes of each output in order, the first output being output o
abbrev pub lines_from : ℕ → List (List Product) → List EsopLine
lines_from o [] = []
lines_from o (cs ∷ css) = map (λ c. record { output = o; cube = c }) cs ++ lines_from (suc o) css

-- The file lists cubes: each output has the expansion's terms, rewritten until they are settled. There are no more cubes than terms, and
-- they have the same value at each point.
pub record ListsCubes (e : Terms) (file : VectorFile) : Type 0 where
  pub cubes : Cubes
  pub rewritten : cubes ≡ rewritten_lists (esop_of e)
  pub settled : AreSettled cubes
  pub values : AllZip (HasValueOf e.polarity) e.outs cubes.outs
  pub lines : file.esop ≡ lines_from 0 cubes.outs
  pub few : length file.esop ≤ cost e

-- The network is the factored one of these cubes, with no more EXOR gates than cubes.
pub record IsFactored (s : Source) (cubes : Cubes) (n : Network) : Type 0 where
  pub underscores : ℕ
  pub is_lead : IsLead (names_of s) underscores
  pub sums : List Summands
  pub are_sums : AreSums cubes.outs sums
  pub factored : n ≡ network_of underscores (names_of s) (wires cubes) sums
  pub few_exors : exor_count n ≤ cube_count cubes

-- The vectors are the tests of the network at a polarity, and the other faults are listed.
pub record ListsTests (n : Network) (p : Signs) (file : VectorFile) : Type 0 where
  pub points : map (λ v. v.point) file.vectors ≡ tests_of n p
  pub undetectable : AreUndetectable n file.unchanged

-- what is particular to a form
abbrev pub IsOfForm : Form → Source → Terms → Network → VectorFile → Type 0
IsOfForm Reddy s e n file = IsReddy s e n file
IsOfForm Factored s e n file = (lists : ListsCubes e file) × IsFactored s lists.cubes n × ListsTests n e.polarity file

-- ---- in every form

-- the numbers of a synthesis
pub record AreNumbers (s : Source) (e : Terms) (n : Network) (file : VectorFile) (summary : Summary) : Type 0 where
  pub form : summary.form ≡ file.form
  pub inputs : summary.inputs ≡ length s.inputs
  pub outputs : summary.outputs ≡ length s.outputs
  pub polarity : summary.polarity ≡ file.polarity
  pub terms : summary.terms ≡ cost e
  pub cubes : summary.cubes ≡ length file.esop
  pub gates : summary.gates ≡ length n.gates
  pub faults : summary.faults ≡ length (fault_list n)
  pub vectors : summary.vectors ≡ length file.vectors
  pub unchanged : summary.unchanged ≡ length file.unchanged

-- The texts of a source's network and of the network's vectors, of a form, over these expansions at a polarity. The network has the
-- source's model. With the control at 0, where there is one, each output is 1 exactly where the source specifies On.
pub record IsSynthesised (form : Form) (p : Signs) (s : Source) (e : Terms) (texts : Texts) : Type 0 where
  pub headline : Headline form s texts.net_text texts.vec_text
  pub polarity : headline.written.file.polarity ≡ p
  pub model : headline.written.net.model ≡ s.model
  pub low : (x : Set) → IsPoint (length s.inputs) x → ShowsAt headline.written.net x (length s.outputs) (λ o. on_set s o x)
  pub net_text : texts.net_text ≡ blif_text headline.written.net
  pub vec_text : texts.vec_text ≡ vector_text headline.written.file
  pub of_form : IsOfForm form s e headline.written.net headline.written.file
  pub numbers : AreNumbers s e headline.written.net headline.written.file texts.summary

-- These texts were made of the source that the bytes say, as it was asked for, by what the advisors were before and are after.
pub record IsMade (settings : Settings) (bytes : List ℕ) (before after : List Advised) (texts : Texts) : Type 0 where
  pub within : IsWithin settings bytes
  pub polarity : Signs
  pub is_polarity : IsPolarity settings.polarity (terms_limit settings.form) within.source before after polarity
  pub expansions : Terms
  pub are_expansions : AreExpansions within.source polarity expansions
  pub is_synthesised : IsSynthesised settings.form polarity within.source expansions texts
