-- Words of a line.
use Rattle.std.proofs.Common.{◌≡◌, ℕ, ◌+◌, ◌-◌, ◌<◌, true, List, [], ◌∷◌, ◌++◌, length, get_or, take, sym, ap, ◌∙◌, arith, append-nil}
use Rattle.std.specs.Borrow.{Bor}
use Rattle.std.specs.List.{list_all, concat}
use Rattle.std.proofs.lemmas.Bool.{and_parts}
use Rattle.ae_base.specs.Name.{is_name}
use Rattle.std.proofs.lemmas.List.{get_or-map, length-map, map_more, take-map}
use Rattle.std.proofs.lemmas.List.Folds.{concat-append}
use Rattle.std.proofs.lemmas.List.Sums.{AllPass-from_list_all}
use Rattle.blif_read.specs.Words.{gate_name, pin_names, is_name_under}
use Rattle.blif_read.specs.declared.fault.NetLimits.{NetLimits}
use Rattle.blif_read.specs.declared.fault.NetLimits.TheVariants.{Source, Written}
use Rattle.ae_lex.specs.Slices.{texts}

pub name_under : (limits : NetLimits) (w : List ℕ) → is_name_under limits w ≡ true → is_name w ≡ true
name_under Source w h = (and_parts _ _ h).0
name_under Written w h = h

-- the last of words that are names
pub gate_is_name : (limits : NetLimits) (ws : List (List ℕ)) → 0 < length ws → list_all (is_name_under limits) ws ≡ true → is_name_under limits (gate_name ws) ≡ true
gate_is_name limits ws some all = AllPass-from_list_all (is_name_under limits) ws all (length ws - 1) [] (omega arith)

pub last_is_name : (limits : NetLimits) (words : List (Bor (List ℕ))) (d : Bor (List ℕ)) → 0 < length words → list_all (is_name_under limits) (texts words) ≡ true → is_name (get_or words (length words - 1) d).now ≡ true
last_is_name limits words d some all =
    let now : Bor (List ℕ) → List ℕ = λ w. w.now in
    let size : length (texts words) ≡ length words = length-map words now in
    ap is_name (sym (get_or-map now words (length words - 1) d [] (omega arith)) ∙ ap (λ n. get_or (texts words) (n - 1) []) (sym size)) ∙ name_under limits (gate_name (texts words)) (gate_is_name limits (texts words) (omega (arith, size)) all)

-- the characters of one more word
pub joined_more : (words : List (Bor (List ℕ))) (i : ℕ) (d : Bor (List ℕ)) → i < length words → concat (texts (take (i + 1) words)) ≡ concat (texts (take i words)) ++ (get_or words i d).now
joined_more words i d lt =
    let now : Bor (List ℕ) → List ℕ = λ w. w.now in
    ap concat (map_more now words i d lt) ∙ concat-append (texts (take i words)) ((get_or words i d).now ∷ []) ∙ ap (λ (b : List ℕ). concat (texts (take i words)) ++ b) (append-nil (get_or words i d).now)

-- the words of the pins, cut from the words
pub pins_cut : (words : List (Bor (List ℕ))) → texts (take (length words - 1) words) ≡ pin_names (texts words)
pins_cut words =
    let now : Bor (List ℕ) → List ℕ = λ w. w.now in
    sym (take-map now (length words - 1) words) ∙ ap (λ n. take (n - 1) (texts words)) (sym (length-map words now))
