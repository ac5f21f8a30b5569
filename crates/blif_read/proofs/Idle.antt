-- The ports of outputs, and the constants of those that no gate drives.
use Rattle.std.proofs.Common.{◌≡◌, ℕ, zero, suc, ◌+◌, ◌<◌, ◌≤◌, Bool, true, false, not, cond, List, [], ◌∷◌, ◌++◌, length, map, get_or, take, refl, sym, ap, ◌∙◌, arith, inl, inr, length-append, append_assoc}
use Rattle.std.specs.Prelude.{bytes_eq, filter, Option}
use Rattle.std.proofs.lemmas.Bool.{cases_Bool}
use Rattle.std.proofs.lemmas.List.{length-map, length-take-le, map-append, take_more}
use Rattle.std.proofs.lemmas.List.Elements.{filter-append}
use Rattle.std.proofs.lemmas.List.Sums.{length-filter, count_by-le-length}
use Rattle.ae_base.proofs.Apart.{bytes_apart}
use Rattle.ae_base.specs.Twins.{is_among}
use Rattle.ae_net.specs.Named.{place_of}
use Rattle.ae_net.specs.Valid.{IsDistinct}
use Rattle.ae_net.specs.declared.net.Gate.{Gate}
use Rattle.blif_read.specs.Build.{idle, zero_gate, port_of, shown_by, ArePorts}
use Rattle.blif_read.specs.declared.seen.Seen.{Seen}
use Rattle.blif_read.proofs.WrittenNames.{bytes_same}

pub few_kept : {X : Type 0} (p : X → Bool) (xs : List X) → length (filter p xs) ≤ length xs
few_kept p xs = omega (arith, length-filter p xs, count_by-le-length p xs)

-- where no name stands twice, one that is kept has as many before it as are kept of those before it
place_kept : (p : List ℕ → Bool) (ws : List (List ℕ)) (k : ℕ) (d : List ℕ) → IsDistinct ws → k < length ws → p (get_or ws k d) ≡ true → place_of (get_or ws k d) (filter p ws) ≡ length (filter p (take k ws))
place_kept p [] k d apart lt t = absurd (omega arith)
place_kept p (v ∷ ws) zero d apart lt t = rw (t, bytes_same v) refl
place_kept p (v ∷ ws) (suc k) d apart lt t =
    let w = get_or ws k d in
    let other : bytes_eq w v ≡ false = bytes_apart w v (λ e. apart 0 (suc k) d (omega arith) lt (sym e)) in
    let rest = place_kept p ws k d (λ i j e a b. apart (suc i) (suc j) e (omega arith) (omega arith)) (omega arith) t in
    elim (cases_Bool (p v)) [ inl y ↦ rw (y, other) (omega (arith, rest)) | inr n ↦ rw n rest ]

abbrev Zeros : Seen → ℕ → List Gate
Zeros seen k = map zero_gate (idle seen (take k seen.outputs))

-- so many gates there are before the port of output k
gates_before : (seen : Seen) (start gates : List Gate) (k : ℕ) → gates ≡ start ++ Zeros seen k → length gates ≡ length start + length (idle seen (take k seen.outputs))
gates_before seen start gates k e = ap length e ∙ length-append start (Zeros seen k) ∙ ap (λ n. length start + n) (length-map (idle seen (take k seen.outputs)) zero_gate)

pub few_before : (seen : Seen) (start gates : List Gate) (k : ℕ) → k < length seen.outputs → gates ≡ start ++ Zeros seen k → length gates < length start + length seen.outputs
few_before seen start gates k lt e = omega (arith, gates_before seen start gates k e, few_kept (λ w. not (is_among w seen.driven)) (take k seen.outputs), length-take-le k seen.outputs (omega arith))

pub next_gates : (seen : Seen) (start gates : List Gate) (k : ℕ) (d : List ℕ) → k < length seen.outputs → gates ≡ start ++ Zeros seen k → gates ++ map zero_gate (idle seen (get_or seen.outputs k d ∷ [])) ≡ start ++ Zeros seen (k + 1)
next_gates seen start gates k d lt e =
    let had = take k seen.outputs in
    let w = get_or seen.outputs k d in
    ap (λ gs. gs ++ map zero_gate (idle seen (w ∷ []))) e ∙ append_assoc start (Zeros seen k) (map zero_gate (idle seen (w ∷ [])))
    ∙ ap (λ gs. start ++ gs) (sym (map-append zero_gate (idle seen had) (idle seen (w ∷ []))) ∙ ap (map zero_gate) (sym (filter-append (λ v. not (is_among v seen.driven)) had (w ∷ [])) ∙ ap (idle seen) (sym (take_more seen.outputs k d lt))))

pub next_port : (seen : Seen) (ranks : List (Option ℕ)) (start gates : List Gate) (k : ℕ) (d : List ℕ) → ArePorts seen ranks (length start) → k < length seen.outputs → gates ≡ start ++ Zeros seen k
    → let w = get_or seen.outputs k d in cond (is_among w seen.driven) (port_of seen ranks w) (length seen.inputs + length gates) ≡ shown_by seen ranks (length start) w
next_port seen ranks start gates k d h lt e =
    let w = get_or seen.outputs k d in
    elim (cases_Bool (is_among w seen.driven)) [
      | inl t ↦ rw t refl
      | inr f ↦ rw f (omega (arith, gates_before seen start gates k e, place_kept (λ v. not (is_among v seen.driven)) seen.outputs k d h.apart lt (ap not f)))
    ]
