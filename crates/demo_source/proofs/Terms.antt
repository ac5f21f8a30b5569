-- How many terms the expansions of a source have.
use Rattle.std.proofs.Common.{◌≡◌, ℕ, ◌*◌, ◌^◌, ◌≤◌, suc, Bool, List, length, get_or, All, ap₂, ◌∙◌, arith}
use Rattle.std.specs.List.{sum_by}
use Rattle.std.proofs.lemmas.List.Sums.{sum_by-le, sum_by-take-le}
use Rattle.std.proofs.lemmas.Option.{slice_get-get_or}
use Rattle.ae_base.specs.Cube.{Signs}
use Rattle.ae_base.specs.Mask.{Set}
use Rattle.ae_base.specs.Source.{Source, on_set}
use Rattle.expansion.specs.Functions.{AreExpansions}
use Rattle.expansion.specs.Terms.{Terms, PassesAt, cost}
use Rattle.fn_store.specs.Davio.{IsExpansion}

-- each output has at most 2 to the number of inputs
pub few_terms : (s : Source) (p : Signs) (e : Terms) (n m : ℕ) → ((p : Signs) (f : Set → Bool) (ts : List Set) → IsExpansion p f ts → length ts ≤ 2 ^ p.n) → AreExpansions s p e → length s.inputs ≡ n → length s.outputs ≡ m
    → cost e ≤ m * 2 ^ n
few_terms s p e n m few are i o =
    let each : All (λ ts. length ts ≤ 2 ^ p.n) e.outs = λ k d lt. few p (on_set s k) (get_or e.outs k d) (are.each k (get_or e.outs k d) (slice_get-get_or e.outs k d lt)) in
    let all : sum_by length e.outs ≤ length e.outs * 2 ^ p.n = sum_by-le length (2 ^ p.n) e.outs each in
    let same : length e.outs * 2 ^ p.n ≡ m * 2 ^ n = ap₂ (λ (a b : ℕ). a * 2 ^ b) (are.outputs ∙ o) (are.inputs ∙ i) in
    omega (arith, all, same)

-- a sum within the limit passes it nowhere
pub never_past : (lists : List (List Set)) (limit place : ℕ) → sum_by length lists ≤ limit → PassesAt limit lists place → ⊥
never_past lists limit place le past = omega (arith, le, past.past, sum_by-take-le length lists (suc place))
