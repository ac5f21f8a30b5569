-- The default names.
use Rattle.std.proofs.Common.{◌≡◌, ◌≢◌, ℕ, zero, suc, ◌-◌, ◌^◌, ◌<◌, ◌≤◌, true, not, ◌&&◌, eqb, leb, List, [], ◌∷◌, length, get_or, All, Result, Ok, Err, IfOk, refl, sym, ap, ◌∙◌, subst, arith}
use Rattle.std.specs.List.{list_all, AllPairs}
use Rattle.std.specs.Fmt.{decimal}
use Rattle.std.proofs.lemmas.Bool.{and_from, and_parts, le-leb, ne_eqb, false≢true}
use Rattle.std.proofs.lemmas.List.{length_push}
use Rattle.std.proofs.lemmas.List.Elements.{All-nil, All-push}
use Rattle.std.proofs.lemmas.List.Quantifiers.{all_pairs_push}
use Rattle.std.proofs.lemmas.Fmt.{length-decimal-le, decimal_injective}
use Rattle.ae_base.specs.declared.limits.TheConstants.{SOURCE_NAME_BYTES}
use Rattle.ae_base.specs.Name.{is_allowed, is_name, is_source_name}
use Rattle.ae_base.specs.Plain.{is_plain}
use Rattle.ae_base.proofs.PlainWords.{name_of_plain, plain_number}
use Rattle.pla_read.specs.Pla.{default_names}
use Rattle.pla_read.specs.Sound.{AreLabels}

-- ---- they are names

-- a byte before a plain word
one_more : (b : ℕ) (w : List ℕ) → is_allowed b ≡ true → is_plain w ≡ true → is_plain (b ∷ w) ≡ true
one_more b [] first h = absurd (false≢true h)
one_more b (d ∷ ds) first h =
    let outer = and_parts (not (eqb (length (d ∷ ds)) 0) && not (eqb (get_or (d ∷ ds) (length (d ∷ ds) - 1) 0) 92)) (list_all is_allowed (d ∷ ds)) h in
    let inner = and_parts (not (eqb (length (d ∷ ds)) 0)) (not (eqb (get_or (d ∷ ds) (length (d ∷ ds) - 1) 0) 92)) outer.0 in
    let place : length (b ∷ d ∷ ds) - 1 ≡ suc (length (d ∷ ds) - 1) = omega arith in
    and_from _ _
    (and_from _ _ (ap not (ne_eqb (length (b ∷ d ∷ ds)) 0 (λ e. omega (arith, e)))) (ap (λ (k : ℕ). not (eqb (get_or (b ∷ d ∷ ds) k 0) 92)) place ∙ inner.1))
    (and_from (is_allowed b) (list_all is_allowed (d ∷ ds)) first outer.1)

few_digits : (letter n : ℕ) → n < 2 ^ 64 → length (letter ∷ decimal n) ≤ 21
few_digits letter n small = omega (arith, length-decimal-le 20 n (omega arith) (omega arith) (omega arith))

pub default_is_name : (letter n : ℕ) → is_allowed letter ≡ true → n < 2 ^ 64 → is_name (letter ∷ decimal n) ≡ true
default_is_name letter n first small = name_of_plain (letter ∷ decimal n) (one_more letter (decimal n) first (plain_number n small)) (omega (arith, few_digits letter n small))

short : (letter n : ℕ) → n < 2 ^ 64 → leb (length (letter ∷ decimal n)) SOURCE_NAME_BYTES ≡ true
short letter n small = le-leb _ _ (omega (arith, few_digits letter n small))

all_named : (letter n : ℕ) → is_allowed letter ≡ true → n < 2 ^ 64 → All (λ name. is_source_name name ≡ true) (default_names letter n)
all_named letter zero first small = All-nil _
all_named letter (suc n) first small =
    All-push (λ name. is_source_name name ≡ true) (default_names letter n) (letter ∷ decimal (suc n)) (all_named letter n first (omega arith))
    (and_from (is_name (letter ∷ decimal (suc n))) (leb (length (letter ∷ decimal (suc n))) SOURCE_NAME_BYTES) (default_is_name letter (suc n) first small) (short letter (suc n) small))

-- ---- they differ

pub default_count : (letter n : ℕ) → length (default_names letter n) ≡ n
default_count letter zero = refl
default_count letter (suc n) = length_push (default_names letter n) _ ∙ omega (arith, default_count letter n)

earlier : (letter k n : ℕ) → k < n → n < 2 ^ 64 → All (λ name. name ≢ letter ∷ decimal n) (default_names letter k)
earlier letter zero n lt small = All-nil _
earlier letter (suc k) n lt small =
    All-push (λ name. name ≢ letter ∷ decimal n) (default_names letter k) (letter ∷ decimal (suc k)) (earlier letter k n (omega arith) small)
    (λ e. let same : decimal (suc k) ≡ decimal n = cc in omega (arith, lt, decimal_injective (suc k) n (omega arith) small same))

distinct_one : (letter n : ℕ) → n < 2 ^ 64 → AllPairs (λ name other. name ≢ other) (default_names letter n)
distinct_one letter zero small = λ i j d lt le. absurd (omega (arith, le))
distinct_one letter (suc n) small =
    all_pairs_push (λ name other. name ≢ other) (default_names letter n) (letter ∷ decimal (suc n)) (distinct_one letter n (omega arith)) (earlier letter n (suc n) (omega arith) small)

default_labels : (letter n : ℕ) → is_allowed letter ≡ true → n < 2 ^ 64 → AreLabels (default_names letter n)
default_labels letter n first small = record { named = all_named letter n first small; distinct = distinct_one letter n small }

-- the default names, where memory suffices for them
pub labels_if_ok : {E : Type 0} (found : Result (List (List ℕ)) E) (letter n : ℕ) → is_allowed letter ≡ true → n < 2 ^ 64 → IfOk found (λ names. names ≡ default_names letter n) → IfOk found AreLabels
labels_if_ok (Ok names) letter n first small e = subst AreLabels (sym e) (default_labels letter n first small)
labels_if_ok (Err want) letter n first small e = tt
