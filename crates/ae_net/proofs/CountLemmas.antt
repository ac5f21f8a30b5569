-- The number of the faults of a network, by its parts.
use Rattle.std.proofs.Common.{◌≡◌, ℕ, ◌+◌, ◌*◌, ◌<◌, ◌^◌, Bool, List, [], ◌∷◌, ◌++◌, length, map, refl, sym, ap, ap₂, ◌∙◌, arith, append-nil}
use Rattle.std.specs.Prelude.{filter, count_by}
use Rattle.std.specs.List.{flat_map, range_with_len}
use Rattle.std.proofs.lemmas.List.{length-append, length-map}
use Rattle.std.proofs.lemmas.List.Concat.{flat_map-append, flat_map-cons}
use Rattle.std.proofs.lemmas.List.FromFn.{length-map-range_with_len}
use Rattle.std.proofs.lemmas.List.Sums.{count_by-le-length, length-filter, sum_by-cons}
use Rattle.ae_base.proofs.Written.{range_more}
use Rattle.ae_net.specs.declared.net.Gate.{Gate}
use Rattle.ae_net.specs.declared.net.Place.{Place}
use Rattle.ae_net.specs.declared.net.Place.TheVariants.{Stem}
use Rattle.ae_net.specs.Faults.{is_read, stems, pins_of, pins, ports, both_values, fault_list}
use Rattle.ae_net.specs.Network.{Network, signals}

count_map : (f : ℕ → Bool) (xs : List ℕ) → count_by (λ b. b) (map f xs) ≡ count_by f xs
count_map f [] = refl
count_map f (x ∷ xs) = sum_by-cons _ (f x) (map f xs) ∙ ap₂ (λ a b. a + b) refl (count_map f xs) ∙ sym (sum_by-cons _ x xs)

-- the marks that are set are those of the signals that are read
pub stems_counted : (n : Network) (marks : List Bool) → marks ≡ map (is_read n) (range_with_len 0 (signals n)) → count_by (λ mark. mark) marks ≡ length (stems n)
stems_counted n marks e =
    ap (count_by (λ mark. mark)) e ∙ count_map (is_read n) (range_with_len 0 (signals n)) ∙ sym (length-filter (is_read n) (range_with_len 0 (signals n)))
    ∙ sym (length-map (filter (is_read n) (range_with_len 0 (signals n))) (λ s. Stem s))

pub few_stems : (marks : List Bool) → length marks < 2 ^ 32 → count_by (λ mark. mark) marks < 2 ^ 32
few_stems marks few = omega (arith, few, count_by-le-length (λ mark. mark) marks)

-- the pins of one more gate
pub pins_more : (f : ℕ → List Place) (k : ℕ) → length (flat_map f (range_with_len 0 (k + 1))) ≡ length (flat_map f (range_with_len 0 k)) + length (f k)
pins_more f k =
    ap (λ l. length (flat_map f l)) (range_more k) ∙ ap length (flat_map-append f (range_with_len 0 k) (k ∷ []))
    ∙ length-append (flat_map f (range_with_len 0 k)) (flat_map f (k ∷ [])) ∙ ap (λ l. length (flat_map f (range_with_len 0 k)) + length l) (flat_map-cons f k [] ∙ append-nil (f k))

pub pins_of_gate : (i : ℕ) (gate : Gate) → length (pins_of i gate) ≡ length gate.pins
pins_of_gate i gate = length-map-range_with_len _ 0 (length gate.pins)

twice : (ps : List Place) → length (flat_map both_values ps) ≡ 2 * length ps
twice [] = refl
twice (p ∷ ps) = ap length (flat_map-cons both_values p ps) ∙ omega (arith, twice ps)

-- each place has two faults
pub all_counted : (n : Network) (s p : ℕ) → s ≡ length (stems n) → p ≡ length (pins n) → 2 * (s + p + length n.outputs) ≡ length (fault_list n)
unfolding fault_list
all_counted n s p a b =
    let parts : length (stems n ++ pins n ++ ports n) ≡ s + p + length n.outputs =
    length-append (stems n ++ pins n) (ports n) ∙ ap₂ (λ l m. l + m) (length-append (stems n) (pins n) ∙ ap₂ (λ l m. l + m) (sym a) (sym b)) (length-map-range_with_len _ 0 (length n.outputs)) in
    sym (twice (stems n ++ pins n ++ ports n) ∙ ap (λ l. 2 * l) parts)
