-- Gates that stand in an order are placed in that order.
use Rattle.std.proofs.Common.{◌≡◌, ℕ, Bool, true, false, not, Some, List, [], ◌∷◌, ◌++◌, length, refl, sym, ap, subst, ◌∙◌}
use Rattle.std.specs.Prelude.{bytes_eq}
use Rattle.std.specs.List.{find, list_all, AllByRecursion}
use Rattle.std.proofs.lemmas.Bool.{cond-true, cond-false, and_left, and_from, or_parts}
use Rattle.std.proofs.lemmas.List.{append_assoc, append-nil, map-append}
use Rattle.std.proofs.lemmas.List.Folds.{list_any-append}
use Rattle.ae_base.specs.Twins.{is_among}
use Rattle.ae_net.specs.Named.{NamedGate}
use Rattle.blif_read.specs.Says.{outs, can_go, place, placed}
use Rattle.blif_read.proofs.Link.{place_some}
use Rattle.blif_read.proofs.WrittenNames.{AreFresh, each_among}

-- each pin is one of the known names
abbrev is_ready : List (List ℕ) → NamedGate → Bool
is_ready known c = list_all (λ pin. is_among pin known) c.pins

-- each reads known names and gates before it
abbrev pub IsInOrder : List (List ℕ) → List NamedGate → Type 0
IsInOrder known [] = Unit {0}
IsInOrder known (c ∷ cs) = (is_ready known c ≡ true) × IsInOrder (known ++ c.out ∷ []) cs

find_skip : (p : NamedGate → Bool) (xs : List NamedGate) (c : NamedGate) (rest : List NamedGate) → AllByRecursion (λ x. p x ≡ false) xs → p c ≡ true → find p (xs ++ c ∷ rest) ≡ Some c
find_skip p [] c rest h e = cond-true (p c) (Some c) (find p rest) e
find_skip p (x ∷ xs) c rest h e = cond-false (p x) (Some x) (find p (xs ++ c ∷ rest)) h.0 ∙ find_skip p xs c rest h.1 e

gone : (inputs : List (List ℕ)) (done xs : List NamedGate) → AllByRecursion (λ w. is_among w (outs done) ≡ true) (outs xs) → AllByRecursion (λ x. can_go inputs done x ≡ false) xs
gone inputs done [] h = tt
gone inputs done (x ∷ xs) h = (and_left (not (is_among x.out (outs done))) (is_ready (inputs ++ outs done) x) (ap not h.0), gone inputs done xs h.1)

place_rest : (inputs : List (List ℕ)) (cs done rest : List NamedGate) → cs ≡ done ++ rest → IsInOrder (inputs ++ outs done) rest → AreFresh (outs done) (outs rest) → place inputs cs (length rest) done ≡ cs
unfolding place
place_rest inputs cs done [] e h f = sym (e ∙ append-nil done)
place_rest inputs cs done (c ∷ rest) e h f =
    let found : find (can_go inputs done) cs ≡ Some c = ap (find (can_go inputs done)) e ∙ find_skip (can_go inputs done) done c rest (gone inputs done done (each_among (outs done))) (and_from (not (is_among c.out (outs done))) (is_ready (inputs ++ outs done) c) (ap not f.0) h.0) in
    let names : outs (done ++ c ∷ []) ≡ outs done ++ c.out ∷ [] = map-append (λ (x : NamedGate). x.out) done (c ∷ []) in
    let known : inputs ++ outs (done ++ c ∷ []) ≡ (inputs ++ outs done) ++ c.out ∷ [] = ap (λ (ws : List (List ℕ)). inputs ++ ws) names ∙ sym (append_assoc inputs (outs done) (c.out ∷ [])) in
    place_some inputs cs (length rest) done c found
    ∙ place_rest inputs cs (done ++ c ∷ []) rest (e ∙ sym (append_assoc done (c ∷ []) rest)) (subst (λ (k : List (List ℕ)). IsInOrder k rest) (sym known) h.1) (subst (λ (k : List (List ℕ)). AreFresh k (outs rest)) (sym names) f.1)

fresh_drop : (xs had ws : List (List ℕ)) → AreFresh (xs ++ had) ws → AreFresh had ws
fresh_drop xs had [] h = tt
fresh_drop xs had (w ∷ ws) h =
    ((or_parts (is_among w xs) (is_among w had) (sym (list_any-append (bytes_eq w) xs had) ∙ h.0)).1, fresh_drop xs (had ++ w ∷ []) ws (subst (λ (k : List (List ℕ)). AreFresh k ws) (append_assoc xs had (w ∷ [])) h.1))

pub placed_in_order : (inputs : List (List ℕ)) (cs : List NamedGate) → IsInOrder inputs cs → AreFresh inputs (outs cs) → placed inputs cs ≡ cs
placed_in_order inputs cs h f =
    place_rest inputs cs [] cs refl (subst (λ (k : List (List ℕ)). IsInOrder k cs) (sym (append-nil inputs)) h) (fresh_drop inputs [] (outs cs) (subst (λ (k : List (List ℕ)). AreFresh k (outs cs)) (sym (append-nil inputs)) f))
