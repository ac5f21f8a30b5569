-- What the bytes of a word say, and written numbers, sets and cubes read again.
use Rattle.std.proofs.Common.{◌≡◌, ℕ, ◌+◌, ◌-◌, ◌*◌, ◌%◌, ◌/◌, ◌^◌, ◌<◌, ◌≤◌, Bool, true, false, cond, ◌&&◌, eqb, ltb, List, [], ◌∷◌, ◌++◌, length, get_or, map, refl, sym, ap, ap₂, ◌∙◌, arith, mod-lt}
use Rattle.std.specs.Prelude.{fold, slice_index}
use Rattle.std.specs.List.{list_all, range_with_len}
use Rattle.std.specs.Fmt.{decimal}
use Rattle.std.proofs.lemmas.Bool.{and_from, and_parts, and_right, eq-eqb, eqb-true, le-leb, lt-ltb, ltb-true, ne_eqb}
use Rattle.std.proofs.lemmas.Fmt.{decimal_by_steps, length-decimal-le}
use Rattle.std.proofs.lemmas.List.{length_push}
use Rattle.std.proofs.lemmas.List.Folds.{list_all-append}
use Rattle.std.proofs.lemmas.List.FromFn.{length-map-range_with_len, get_or-map-range_with_len}
use Rattle.ae_base.specs.Cube.{Product, IsOver}
use Rattle.ae_base.specs.Digits.{is_digit, value, is_number, is_bit, are_bits, places_of, ones, is_literal, cube_said}
use Rattle.ae_base.specs.Mask.{Set, has, where_below, inside, first}
use Rattle.ae_base.specs.Terms.{IsPoint}
use Rattle.ae_base.specs.Text.{digit, bits_of, literal_text, cube_text}
use Rattle.ae_base.proofs.Sets.{same_set, has-where_below, has-first, has-inside, inside-has}

-- ---- the places of bytes

-- no place has two bytes
pub places_apart : (word : List ℕ) (j : ℕ) → has (places_of 49 word) j ≡ true → has (places_of 48 word) j ≡ false
places_apart word j h =
    let one = and_parts (ltb j (length word)) (eqb (slice_index word j) 49) (sym (has-where_below (length word) (λ k. eqb (slice_index word k) 49) j) ∙ h) in
    let is-one : slice_index word j ≡ 49 = eqb-true _ _ one.1 in
    has-where_below (length word) (λ k. eqb (slice_index word k) 48) j ∙ and_right (ltb j (length word)) (eqb (slice_index word j) 48) (ne_eqb _ _ (λ e. omega (arith, e, is-one)))

-- they are places of the word
pub places_within : (b : ℕ) (word : List ℕ) (j : ℕ) → has (places_of b word) j ≡ true → j < length word
places_within b word j h = ltb-true _ _ (and_parts (ltb j (length word)) (eqb (slice_index word j) b) (sym (has-where_below (length word) (λ k. eqb (slice_index word k) b) j) ∙ h)).0

places_below : (b n : ℕ) (word : List ℕ) → length word ≤ n → inside (places_of b word) (first n) ≡ true
places_below b n word short = has-inside _ (first n) (λ k m. has-first n k ∙ lt-ltb k n (omega (arith, short, places_within b word k m)))

-- a word of n digits is a point
pub bits_point : (n : ℕ) (word : List ℕ) → length word ≤ n → IsPoint n (ones word)
unfolding ones
bits_point n word short = places_below 49 n word short

-- a word of n bytes is a cube over n inputs
pub cube_over : (n : ℕ) (word : List ℕ) → length word ≤ n → IsOver n (cube_said word)
unfolding cube_said
cube_over n word short = (λ j m. places_apart word j m, places_below 49 n word short, places_below 48 n word short)

-- ---- written sets

and_within : (a b : Bool) → (b ≡ true → a ≡ true) → (a && b) ≡ b
and_within true b h = refl
and_within false true h = h refl
and_within false false h = refl

and_at : (a b c : Bool) → (a ≡ true → b ≡ c) → (a && b) ≡ (a && c)
and_at true b c h = h refl
and_at false b c h = refl

-- a set of numbers below n, by a test of each
part_back : (n k : ℕ) (p : ℕ → Bool) (s : Set) → k ≡ n → ((j : ℕ) → j < n → p j ≡ has s j) → inside s (first n) ≡ true → where_below k p ≡ s
part_back n k p s e h i =
    ap (λ m. where_below m p) e
    ∙ same_set _ _ (λ j. has-where_below n p j ∙ and_at (ltb j n) (p j) (has s j) (λ t. h j (ltb-true j n t)) ∙ and_within (ltb j n) (has s j) (λ t. sym (has-first n j) ∙ inside-has s (first n) i j t))

is_one : (b : Bool) → eqb (digit b) 49 ≡ b
is_one true = refl
is_one false = refl

bit_is : (b : Bool) → is_bit (digit b) ≡ true
bit_is true = refl
bit_is false = refl

bits_all : (s : Set) (js : List ℕ) → list_all is_bit (map (λ j. digit (has s j)) js) ≡ true
bits_all s [] = refl
bits_all s (j ∷ js) = and_from _ _ (bit_is (has s j)) (bits_all s js)

pub length-bits : (n : ℕ) (s : Set) → length (bits_of n s) ≡ n
length-bits n s = length-map-range_with_len (λ j. digit (has s j)) 0 n

pub bits_digits : (n : ℕ) (s : Set) → list_all is_bit (bits_of n s) ≡ true
bits_digits n s = bits_all s (range_with_len 0 n)

pub bits_are : (n : ℕ) (s : Set) → are_bits n (bits_of n s) ≡ true
unfolding are_bits
bits_are n s = and_from _ _ (eq-eqb _ n (length-bits n s)) (bits_digits n s)

pub bits_back : (n : ℕ) (s : Set) → IsPoint n s → ones (bits_of n s) ≡ s
unfolding ones
bits_back n s i =
    part_back n (length (bits_of n s)) (λ j. eqb (get_or (bits_of n s) j 0) 49) s (length-bits n s)
    (λ j h. ap (λ c. eqb c 49) (get_or-map-range_with_len (λ k. digit (has s k)) 0 n j j 0 h (omega arith)) ∙ is_one (has s j)) i

-- ---- written cubes

one_of : (p q : Bool) → eqb (cond p 49 (cond q 48 45)) 49 ≡ p
one_of true q = refl
one_of false true = refl
one_of false false = refl

zero_of : (p q : Bool) → (p ≡ true → q ≡ false) → eqb (cond p 49 (cond q 48 45)) 48 ≡ q
zero_of true q h = sym (h refl)
zero_of false true h = refl
zero_of false false h = refl

literal_of : (p q : Bool) → is_literal (cond p 49 (cond q 48 45)) ≡ true
literal_of true q = refl
literal_of false true = refl
literal_of false false = refl

literals_all : (c : Product) (js : List ℕ) → list_all is_literal (map (literal_text c) js) ≡ true
literals_all c [] = refl
literals_all c (j ∷ js) = and_from _ _ (literal_of (has c.pos j) (has c.neg j)) (literals_all c js)

pub cube_literals : (n : ℕ) (c : Product) → list_all is_literal (cube_text n c) ≡ true
cube_literals n c = literals_all c (range_with_len 0 n)

pub length-cube_text : (n : ℕ) (c : Product) → length (cube_text n c) ≡ n
length-cube_text n c = length-map-range_with_len (literal_text c) 0 n

pub cube_back : (n : ℕ) (c : Product) → IsOver n c → cube_said (cube_text n c) ≡ c
unfolding cube_said
cube_back n c over =
    let w = cube_text n c in
    let at : (j : ℕ) → j < n → get_or w j 0 ≡ literal_text c j = λ j h. get_or-map-range_with_len (literal_text c) 0 n j j 0 h (omega arith) in
    ap₂ (λ (s t : Set). let made : Product = record { pos = s; neg = t } in made)
    (part_back n (length w) (λ j. eqb (get_or w j 0) 49) c.pos (length-cube_text n c) (λ j h. ap (λ b. eqb b 49) (at j h) ∙ one_of (has c.pos j) (has c.neg j)) over.1)
    (part_back n (length w) (λ j. eqb (get_or w j 0) 48) c.neg (length-cube_text n c) (λ j h. ap (λ b. eqb b 48) (at j h) ∙ zero_of (has c.pos j) (has c.neg j) (over.0 j)) over.2)

-- ---- written numbers

-- digits that say a number
pub record Says (n : ℕ) (ds : List ℕ) : Type 0 where
  pub digits : list_all is_digit ds ≡ true
  pub number : fold (λ k b. 10 * k + (b - 48)) 0 ds ≡ n
  pub some : 0 < length ds

digit_is : (d : ℕ) → d < 10 → is_digit (48 + d) ≡ true
digit_is d lt = and_from _ _ (le-leb 48 (48 + d) (omega arith)) (lt-ltb (48 + d) 58 (omega arith))

fold_push : (ds : List ℕ) (a b : ℕ) → fold (λ k c. 10 * k + (c - 48)) a (ds ++ b ∷ []) ≡ 10 * fold (λ k c. 10 * k + (c - 48)) a ds + (b - 48)
fold_push [] a b = refl
fold_push (d ∷ ds) a b = fold_push ds (10 * a + (d - 48)) b

says_push : (n : ℕ) (ds : List ℕ) → 10 ≤ n → Says (n / 10) ds → Says n (ds ++ (48 + n % 10) ∷ [])
says_push n ds le h =
    let small : n % 10 < 10 = mod-lt n (omega arith) in
    record {
      digits = list_all-append is_digit ds ((48 + n % 10) ∷ []) ∙ and_from _ _ h.digits (and_from _ _ (digit_is (n % 10) small) refl);
      number = fold_push ds 0 (48 + n % 10) ∙ ap (λ k. 10 * k + (48 + n % 10 - 48)) h.number ∙ omega arith;
      some = omega (arith, length_push ds (48 + n % 10));
    }

pub decimal_says : (n : ℕ) → n < 2 ^ 64 → Says n (decimal n)
decimal_says n small = decimal_by_steps Says (λ k lt. record { digits = and_from _ _ (digit_is k lt) refl; number = omega arith; some = omega arith }) says_push n small

pub value_back : (n : ℕ) → n < 2 ^ 64 → value (decimal n) ≡ n
unfolding value
value_back n small = (decimal_says n small).number

-- a number of at most 9 digits
pub number_is : (n : ℕ) → 0 < n → n < 1000000000 → is_number (decimal n) ≡ true
unfolding is_number value
number_is n some small =
    let says = decimal_says n (omega arith) in
    and_from _ _ (and_from _ _ (le-leb _ 9 (length-decimal-le 9 n (omega arith) (omega arith) (omega arith))) says.digits) (lt-ltb 0 _ (omega (arith, says.number, some)))
