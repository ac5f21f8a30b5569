-- A word of 512 lanes in eight parts of 64. For private contracts alone.
use Rattle.std.specs.Prelude.{◌≡◌, ℕ, zero, suc, ◌+◌, ◌*◌, ◌/◌, ◌%◌, ◌^◌, ◌<◌, List, [], ◌∷◌, length}
use Rattle.std.proofs.Common.{refl, ap, ap₂, ◌∙◌, arith}
use lib.Lanes.{Each1, digits_l, number_l}
use Rattle.ae_base.specs.Mask.{Set}

abbrev pub IsParts : List ℕ → Type 0
IsParts parts = (length parts ≡ 8) × Each1 (λ p. p < 2 ^ 64) parts

-- the lanes that show 1
abbrev pub joined : List ℕ → Set
joined parts = number_l (2 ^ 64) parts

abbrev pub parts_of : Set → List ℕ
parts_of s = digits_l (2 ^ 64) 8 s

digits-joined : (n : ℕ) (parts : List ℕ) → length parts ≡ n → Each1 (λ p. p < 2 ^ 64) parts → digits_l (2 ^ 64) n (number_l (2 ^ 64) parts) ≡ parts
digits-joined zero [] e fits = refl
digits-joined zero (p ∷ ps) e fits = absurd (omega (arith, e))
digits-joined (suc n) [] e fits = absurd (omega (arith, e))
digits-joined (suc n) (p ∷ ps) e fits =
    let h : p < 2 ^ 64 = fits.0 in
    let rest : ℕ = number_l (2 ^ 64) ps in
    let low : (p + 2 ^ 64 * rest) % 2 ^ 64 ≡ p = omega (arith, h) in
    let high : (p + 2 ^ 64 * rest) / 2 ^ 64 ≡ rest = omega (arith, h) in
    ap₂ (λ d ds. d ∷ ds) low (ap (digits_l (2 ^ 64) n) high ∙ digits-joined n ps (omega (arith, e)) fits.1)

pub parts_of-joined : (parts : List ℕ) → IsParts parts → parts_of (joined parts) ≡ parts
parts_of-joined parts is = digits-joined 8 parts is.0 is.1
