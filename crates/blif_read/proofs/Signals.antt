-- Signals of names.
use Rattle.std.proofs.Common.{◌≡◌, ℕ, ◌+◌, ◌<◌, Bool, true, false, not, cond, ◌||◌, List, [], ◌∷◌, ◌++◌, length, get_or, take, map, Some, None, refl, ap, ◌∙◌, arith}
use Rattle.std.specs.Borrow.{Bor}
use Rattle.std.proofs.lemmas.Bool.{or_from}
use Rattle.std.proofs.lemmas.List.{get_or-map, length-map, map_more, map_push}
use Rattle.std.proofs.lemmas.Option.{cond_some}
use Rattle.std.proofs.lemmas.List.Folds.{list_any-append, list_any_at}
use Rattle.ae_base.specs.Twins.{is_among}
use Rattle.ae_net.specs.Named.{place_of}
use Rattle.blif_read.specs.Says.{some_unknown}
use Rattle.blif_read.specs.Build.{signal_in}
use Rattle.ae_lex.specs.Slices.{texts}

-- one word that has no signal
pub one_unknown : (known : List (List ℕ)) (words : List (Bor (List ℕ))) (i : ℕ) (d : Bor (List ℕ)) → i < length words → signal_in known (get_or words i d).now ≡ None → some_unknown known (texts words) ≡ true
one_unknown known words i d lt h =
    let now : Bor (List ℕ) → List ℕ = λ w. w.now in
    let w = (get_or words i d).now in
    list_any_at (λ v. not (is_among v known)) (texts words) i d.now (omega (arith, length-map words now)) (ap (λ v. not (is_among v known)) (get_or-map now words i d d.now lt) ∙ unknown (is_among w known) (place_of w known) h)
  where
    unknown : (b : Bool) (s : ℕ) → cond b (Some s) None ≡ None → not b ≡ true
    unknown true s h = absurd cc
    unknown false s h = refl

-- one more word that has a signal
pub one_more : (known : List (List ℕ)) (words : List (Bor (List ℕ))) (i s : ℕ) (d : Bor (List ℕ)) → i < length words → signal_in known (get_or words i d).now ≡ Some s → some_unknown known (texts (take i words)) ≡ false
    → (some_unknown known (texts (take (i + 1) words)) ≡ false) × (map (λ w. place_of w known) (texts (take (i + 1) words)) ≡ map (λ w. place_of w known) (texts (take i words)) ++ s ∷ [])
one_more known words i s d lt h none =
    let now : Bor (List ℕ) → List ℕ = λ w. w.now in
    let w = (get_or words i d).now in
    let more : texts (take (i + 1) words) ≡ texts (take i words) ++ w ∷ [] = map_more now words i d lt in
    let p = cond_some (is_among w known) (place_of w known) s h in (
      ap (some_unknown known) more ∙ list_any-append (λ v. not (is_among v known)) (texts (take i words)) (w ∷ []) ∙ or_from (some_unknown known (texts (take i words))) (not (is_among w known) || false) none (or_from (not (is_among w known)) false (ap not p.0) refl),
      ap (map (λ v. place_of v known)) more ∙ map_push (λ v. place_of v known) (texts (take i words)) w ∙ ap (λ n. map (λ v. place_of v known) (texts (take i words)) ++ n ∷ []) p.1,
    )
