-- The number that digits tell, as `parse` reads it.
use Rattle.std.proofs.Common.{◌≡◌, ◌<◌, ◌≤◌, ◌∙◌, ◌*◌, ◌+◌, ◌^◌, ◌&&◌, ℕ, Bool, true, false, List, [], ◌∷◌, Some, None, length, drop, cond, eqb, leb, ltb, refl, sym, ap, subst, arith, inl, inr}
use Rattle.std.specs.Prelude.{Result, Ok, Err}
use Rattle.std.specs.List.{list_all}
use Rattle.std.specs.Char.{digit_value}
use Rattle.std.specs.Str.Parse.{AllDigits, ParsesUnsigned, digits_value, without_leading_plus}
use Rattle.std.proofs.lemmas.Bool.{and_parts, cases_Bool, eqb-true, leb-true, ltb-true, lt-ltb}
use Rattle.std.proofs.lemmas.Result.{OkIff-at_ok, OkIff-at_err}
use Rattle.std.proofs.lemmas.Str.{digit_value_digit}
use Rattle.ae_base.specs.Digits.{is_digit}
use Rattle.synth_cmd.specs.Asked.{has_digits, number_of}

digit_below : (c : ℕ) → is_digit c ≡ true → digit_value c < 10
digit_below c h =
    let parts = and_parts (leb 48 c) (ltb c 58) h in
    omega (arith, leb-true 48 c parts.0, ltb-true c 58 parts.1, digit_value_digit c (leb-true 48 c parts.0, omega (arith, ltb-true c 58 parts.1)))

all_digits : (word : List ℕ) → list_all is_digit word ≡ true → AllDigits 10 word
all_digits [] h = tt
all_digits (c ∷ cs) h = let parts = and_parts (is_digit c) (list_all is_digit cs) h in (digit_below c parts.0, all_digits cs parts.1)

-- no plus stands before digits
no_plus : (word : List ℕ) → list_all is_digit word ≡ true → without_leading_plus word ≡ word
no_plus [] h = refl
no_plus (c ∷ cs) h =
    elim (cases_Bool (eqb c 43)) [
      | inl e ↦
          let low = leb-true 48 c (and_parts (leb 48 c) (ltb c 58) (and_parts (is_digit c) (list_all is_digit cs) h).0).0 in
          absurd (omega (arith, low, eqb-true c 43 e))
      | inr e ↦ ap (λ b. drop (cond b 1 0) (c ∷ cs)) e
    ]

module _ {E : Type 0} (word : List ℕ) (r : Result ℕ E) (digits : has_digits word ≡ true) (parses : ParsesUnsigned 32 10 word r) where
  some : 0 < length word
  some = ltb-true 0 (length word) (and_parts (ltb 0 (length word)) (leb (length word) 10 && list_all is_digit word) digits).0

  each : list_all is_digit word ≡ true
  each = (and_parts (leb (length word) 10) (list_all is_digit word) (and_parts (ltb 0 (length word)) (leb (length word) 10 && list_all is_digit word) digits).1).1

  is_number : (n : ℕ) → r ≡ Ok n → n ≡ digits_value 10 word
  is_number n e = (OkIff-at_ok r _ _ n parses e).1 ∙ ap (digits_value 10) (no_plus word each)

  by_size : (b : Bool) → ltb (digits_value 10 word) (2 ^ 31) ≡ b → number_of word ≡ cond b (Some (digits_value 10 word)) None
  by_size b e = ap (λ a. cond (a && ltb (digits_value 10 word) (2 ^ 31)) (Some (digits_value 10 word)) None) digits ∙ ap (λ a. cond a (Some (digits_value 10 word)) None) e

  pub number_found : (n : ℕ) → r ≡ Ok n → n < 2 ^ 31 → Some n ≡ number_of word
  number_found n e small = ap Some (is_number n e) ∙ sym (by_size true (ap (λ k. ltb k (2 ^ 31)) (sym (is_number n e)) ∙ lt-ltb n (2 ^ 31) small))

  pub number_unread : (d : E) → r ≡ Err d → None ≡ number_of word
  number_unread d e =
      elim (cases_Bool (ltb (digits_value 10 word) (2 ^ 31))) [
        | inl small ↦
            absurd (OkIff-at_err r _ _ d parses e (
              subst (λ w. (0 < length w) × AllDigits 10 w) (sym (no_plus word each)) (some, all_digits word each),
              subst (λ w. digits_value 10 w < 2 ^ 32) (sym (no_plus word each)) (omega (arith, ltb-true (digits_value 10 word) (2 ^ 31) small)),
            ))
        | inr great ↦ sym (by_size false great)
      ]
