-- The name of the model of lines without a fault.
use Rattle.std.proofs.Common.{◌≡◌, true, None, List, [], ◌∷◌, ◌++◌, drop, refl, inl, inr}
use Rattle.std.specs.Prelude.{filter, slice_index_or, codes}
use Rattle.std.specs.List.{list_all, flat_map, AllByRecursion}
use Rattle.std.proofs.lemmas.Bool.{cases_Bool}
use Rattle.std.proofs.lemmas.List.Elements.{recursion_from_All}
use Rattle.std.proofs.lemmas.List.Sums.{AllPass-from_list_all}
use Rattle.ae_base.specs.Name.{is_name}
use Rattle.ae_base.proofs.Distinct.{each-append}
use Rattle.ae_lex.specs.First.{first_fault}
use Rattle.ae_lex.specs.Heads.{Word, heads}
use Rattle.ae_lex.specs.Reads.{words_of}
use Rattle.ae_lex.specs.Words.{WordLine}
use Rattle.blif_read.specs.declared.fault.NetLimits.{NetLimits}
use Rattle.blif_read.specs.Words.{is_name_under}
use Rattle.blif_read.specs.Says.{faults, model_of}
use Rattle.blif_read.proofs.Sound.{line_none, model_none}
use Rattle.blif_read.proofs.Words.{name_under}

abbrev AreNames : List Word → Type 0
AreNames ws = AllByRecursion (λ w. is_name w ≡ true) ws

each_name : (limits : NetLimits) (ws : List Word) → list_all (is_name_under limits) ws ≡ true → AreNames ws
each_name limits ws h = recursion_from_All (λ w. is_name w ≡ true) ws (λ k d lt. name_under limits _ (AllPass-from_list_all (is_name_under limits) ws h k d lt))

models_fine : (limits : NetLimits) (done : List (List Word)) (lines : List WordLine) → first_fault (faults limits None) done lines ≡ None → AreNames (flat_map (drop 1) (filter (heads (codes ".model")) (words_of lines)))
models_fine limits done [] h = tt
models_fine limits done (line ∷ lines) h =
    let p = line_none limits None done line lines h in
    let rest = models_fine limits (done ++ line.words ∷ []) lines p.1 in
    elim (cases_Bool (heads (codes ".model") line.words)) [
      | inl t ↦ rw t (each-append (λ w. is_name w ≡ true) (drop 1 line.words) _ (each_name limits (drop 1 line.words) (model_none limits done line.words t p.0)) rest)
      | inr f ↦ rw f rest
    ]

first_named : (ws : List Word) → AreNames ws → is_name (slice_index_or ws 0 (codes "unnamed")) ≡ true
first_named [] h = refl
first_named (w ∷ ws) h = h.0

-- the name of the model is a name, given or not
pub model_named : (limits : NetLimits) (lines : List WordLine) → first_fault (faults limits None) [] lines ≡ None → is_name (model_of (words_of lines)) ≡ true
model_named limits lines h = first_named _ (models_fine limits [] lines h)
