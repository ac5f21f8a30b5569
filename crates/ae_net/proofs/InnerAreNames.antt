-- Inner names are names.
use Rattle.std.proofs.Common.{◌≡◌, ◌≢◌, ℕ, suc, ◌+◌, ◌-◌, ◌<◌, ◌≤◌, ◌^◌, ◌%◌, true, List, [], ◌∷◌, ◌++◌, length, get_or, refl, ap, ap₂, ◌∙◌, arith, length-append, append_assoc, replicate, ne_eqb}
use Rattle.std.specs.Prelude.{All}
use Rattle.std.specs.List.{list_all}
use Rattle.std.specs.Fmt.{decimal}
use Rattle.std.proofs.Math.ListN.{length-replicate}
use Rattle.std.proofs.lemmas.Bool.{le-leb}
use Rattle.std.proofs.lemmas.List.Elements.{All-append, All-cons, All-replicate, All-push, All-nil}
use Rattle.std.proofs.lemmas.Fmt.{decimal_by_steps, length-decimal-le}
use Rattle.ae_base.specs.declared.limits.TheConstants.{NAME_BYTES, SOURCE_NAME_BYTES}
use Rattle.ae_base.specs.Name.{is_allowed, is_name}
use Rattle.ae_net.specs.Lead.{IsLetter}
use Rattle.ae_net.specs.Names.{inner}

-- a byte that may stand anywhere in a name
abbrev IsPlain : ℕ → Type 0
IsPlain b = (33 ≤ b) × (b ≢ 35) × (b ≢ 92)

plain_at : (b : ℕ) → 93 ≤ b → IsPlain b
plain_at b h = (omega arith, (λ e. omega arith), (λ e. omega arith))

digit_at : (d : ℕ) → d < 10 → IsPlain (48 + d)
digit_at d h = (omega arith, (λ e. omega arith), (λ e. omega arith))

plain_digits : (n : ℕ) → n < 2 ^ 64 → All IsPlain (decimal n)
plain_digits n small = decimal_by_steps (λ _ ds. All IsPlain ds) (λ d l. All-cons IsPlain _ [] (digit_at d l) (All-nil IsPlain)) (λ m ds l h. All-push IsPlain ds _ h (digit_at (m % 10) (omega arith))) n small

allowed_all : (bytes : List ℕ) → All IsPlain bytes → list_all is_allowed bytes ≡ true
allowed_all [] h = refl
allowed_all (b ∷ bs) h =
    let here : IsPlain b = h 0 0 (omega arith) in
    rw (le-leb 33 b here.0, ne_eqb b 35 here.1) (allowed_all bs (λ k d l. h (suc k) d (omega (arith, l))))

is_name-plain : (bytes : List ℕ) → 0 < length bytes → length bytes ≤ NAME_BYTES → All IsPlain bytes → is_name bytes ≡ true
is_name-plain bytes some short plain =
    rw (ne_eqb (length bytes) 0 (λ e. absurd (omega (arith, e, some))), le-leb (length bytes) NAME_BYTES short, ne_eqb (get_or bytes (length bytes - 1) 0) 92 ((plain (length bytes - 1) 0 (omega arith)).2), allowed_all bytes plain) refl

plain_inner : (k b : ℕ) (text : List ℕ) → IsLetter b → All IsPlain text → All IsPlain (inner k (b ∷ text))
unfolding inner
plain_inner k b text letter h = All-append IsPlain (replicate k 95) (b ∷ text) (All-replicate IsPlain k 95 (plain_at 95 (omega arith))) (All-cons IsPlain b text (plain_at b (omega (arith, letter.0))) h)

length-inner : (k : ℕ) (text : List ℕ) → length (inner k text) ≡ k + length text
unfolding inner
length-inner k text = length-append (replicate k 95) text ∙ ap (λ n. n + length text) (length-replicate k 95)

pub letter_is_name : (k b : ℕ) (bytes : List ℕ) → bytes ≡ inner k (b ∷ []) → k ≤ SOURCE_NAME_BYTES + 1 → IsLetter b → is_name bytes ≡ true
letter_is_name k b bytes e short letter = ap is_name e ∙ is_name-plain _ (omega (arith, length-inner k (b ∷ []))) (omega (arith, length-inner k (b ∷ []), short)) (plain_inner k b [] letter (All-nil IsPlain))

-- the bytes that are put together
pub numbered_bytes : (k b : ℕ) (digits start text bytes : List ℕ) → start ≡ inner k (b ∷ []) → text ≡ digits → bytes ≡ start ++ text → bytes ≡ inner k (b ∷ digits)
unfolding inner
numbered_bytes k b digits start text bytes begins ends e = e ∙ ap₂ (λ (x y : List ℕ). x ++ y) begins ends ∙ append_assoc (replicate k 95) (b ∷ []) digits

pub numbered_is_name : (k b n : ℕ) (bytes : List ℕ) → bytes ≡ inner k (b ∷ decimal n) → k ≤ SOURCE_NAME_BYTES + 1 → IsLetter b → n < 2 ^ 64 → is_name bytes ≡ true
numbered_is_name k b n bytes e short letter small =
    ap is_name e
    ∙ is_name-plain _ (omega (arith, length-inner k (b ∷ decimal n))) (omega (arith, short, length-inner k (b ∷ decimal n), length-decimal-le 20 n (omega arith) (omega arith) small)) (plain_inner k b (decimal n) letter (plain_digits n small))
