-- Words that are written are read as they are written.
use Rattle.std.proofs.Common.{◌≡◌, ℕ, ◌-◌, ◌^◌, ◌<◌, ◌≤◌, Bool, true, false, not, ◌&&◌, eqb, ltb, leb, List, length, get_or, refl, ap, subst, sym, arith, inl, inr}
use Rattle.std.specs.List.{list_all}
use Rattle.std.specs.Fmt.{decimal}
use Rattle.std.proofs.lemmas.Bool.{and_from, and_parts, or_cases, eqb-true, le-leb, leb-true, ltb-true, ne_eqb}
use Rattle.std.proofs.lemmas.List.Sums.{AllPass-from_list_all, list_all-from_AllPass}
use Rattle.ae_base.specs.declared.limits.TheConstants.{NAME_BYTES}
use Rattle.ae_base.specs.Cube.{Product}
use Rattle.ae_base.specs.Digits.{is_digit, is_bit, is_literal}
use Rattle.ae_base.specs.Mask.{Set}
use Rattle.ae_base.specs.Name.{is_allowed, is_name}
use Rattle.ae_base.specs.Plain.{is_plain}
use Rattle.ae_base.specs.Text.{bits_of, cube_text}
use Rattle.ae_base.proofs.ReadBack.{bits_digits, length-bits, cube_literals, length-cube_text, decimal_says}

-- a byte that may stand at each place of a plain word
abbrev pub IsInk : ℕ → Type 0
IsInk b = (is_allowed b ≡ true) × (eqb b 92 ≡ false)

pub ink_at : (k b : ℕ) → IsInk k → eqb b k ≡ true → IsInk b
ink_at k b h e = subst IsInk (sym (eqb-true b k e)) h

pub bit_ink : (b : ℕ) → is_bit b ≡ true → IsInk b
bit_ink b h = elim (or_cases (eqb b 48) (eqb b 49) h) [ inl e ↦ ink_at 48 b (refl, refl) e | inr e ↦ ink_at 49 b (refl, refl) e ]

pub literal_ink : (b : ℕ) → is_literal b ≡ true → IsInk b
literal_ink b h = elim (or_cases (is_bit b) (eqb b 45) h) [ inl e ↦ bit_ink b e | inr e ↦ ink_at 45 b (refl, refl) e ]

pub digit_ink : (b : ℕ) → is_digit b ≡ true → IsInk b
digit_ink b h =
    let parts = and_parts (leb 48 b) (ltb b 58) h in
    let low : 48 ≤ b = leb-true 48 b parts.0 in
    let high : b < 58 = ltb-true b 58 parts.1 in
    (and_from _ _ (le-leb 33 b (omega arith)) (ap not (ne_eqb b 35 (λ e. omega (arith, e)))), ne_eqb b 92 (λ e. omega (arith, e)))

-- a word of such bytes
pub plain_of : (p : ℕ → Bool) (w : List ℕ) → ((b : ℕ) → p b ≡ true → IsInk b) → 0 < length w → list_all p w ≡ true → is_plain w ≡ true
plain_of p w ink some all =
    let each = AllPass-from_list_all p w all in
    and_from _ _
    (and_from _ _ (ap not (ne_eqb (length w) 0 (λ e. omega (arith, e, some)))) (ap not (ink _ (each (length w - 1) 0 (omega (arith, some)))).1))
    (list_all-from_AllPass is_allowed w (λ k d lt. (ink _ (each k d lt)).0))

pub plain_name : (w : List ℕ) → is_name w ≡ true → is_plain w ≡ true
plain_name w h =
    let one = and_parts (not (eqb (length w) 0) && leb (length w) NAME_BYTES && not (eqb (get_or w (length w - 1) 0) 92)) (list_all is_allowed w) h in
    let two = and_parts (not (eqb (length w) 0) && leb (length w) NAME_BYTES) (not (eqb (get_or w (length w - 1) 0) 92)) one.0 in
    let three = and_parts (not (eqb (length w) 0)) (leb (length w) NAME_BYTES) two.0 in
    and_from _ _ (and_from _ _ three.0 two.1) one.1

-- a plain word that is short enough is a name
pub name_of_plain : (w : List ℕ) → is_plain w ≡ true → length w ≤ NAME_BYTES → is_name w ≡ true
name_of_plain w h few =
    let one = and_parts (not (eqb (length w) 0) && not (eqb (get_or w (length w - 1) 0) 92)) (list_all is_allowed w) h in
    let two = and_parts (not (eqb (length w) 0)) (not (eqb (get_or w (length w - 1) 0) 92)) one.0 in
    and_from _ _ (and_from _ _ (and_from _ _ two.0 (le-leb (length w) NAME_BYTES few)) two.1) one.1

pub plain_bits : (n : ℕ) (s : Set) → 0 < n → is_plain (bits_of n s) ≡ true
plain_bits n s some = plain_of is_bit (bits_of n s) bit_ink (omega (arith, length-bits n s)) (bits_digits n s)

pub plain_cube : (n : ℕ) (c : Product) → 0 < n → is_plain (cube_text n c) ≡ true
plain_cube n c some = plain_of is_literal (cube_text n c) literal_ink (omega (arith, length-cube_text n c)) (cube_literals n c)

pub plain_number : (n : ℕ) → n < 2 ^ 64 → is_plain (decimal n) ≡ true
plain_number n small = let says = decimal_says n small in plain_of is_digit (decimal n) digit_ink says.some says.digits
