-- The vectors of even inputs as the code adds them.
use Rattle.std.proofs.Common.{Bool, List, [], ap, append-nil, append_assoc, arith, cond, drop, eqb, eqb-true, false, get_or, inl, inr, length, ne_eqb, not, refl, subst, sym, take, true, ℕ, ◌%◌, ◌++◌, ◌+◌, ◌<◌, ◌||◌, ◌∙◌, ◌∷◌, ◌≡◌, ◌≤◌}
use Rattle.std.specs.List.{AllByRecursion, find, flat_map, list_any}
use Rattle.std.specs.Option.{option_or}
use Rattle.std.specs.Prelude.{All, None, Option, Some, count_by}
use Rattle.std.proofs.Math.Bool.{or_assoc}
use Rattle.std.proofs.lemmas.Bool.{cases_Bool, false≢true, le-ltb, not-true}
use Rattle.std.proofs.lemmas.List.{drop_all, get_or-take, length-take, take_more}
use Rattle.std.proofs.lemmas.List.Concat.{flat_map-append}
use Rattle.std.proofs.lemmas.List.Elements.{All-append, All-filter, All-from_recursion, filter-append}
use Rattle.std.proofs.lemmas.List.Folds.{find-append, list_any-append}
use Rattle.std.proofs.lemmas.Option.{get_or_from_slice_get, slice_get_within}
use Rattle.ae_base.specs.Cube.{Signs}
use Rattle.ae_base.specs.Lists.{without_repeats}
use Rattle.ae_base.specs.Mask.{Set, both, differ, either, empty, first, has, members, with, xor}
use Rattle.ae_base.specs.Points.{flipped}
use Rattle.ae_base.specs.Terms.{IsPoint, exor_of}
use Rattle.ae_base.proofs.Distinct.{AllPairs-from_Distinct, Distinct-append, Distinct-filter, Distinct-from_AllPairs, each-append}
use Rattle.ae_base.proofs.Elements.{any_filter_parts, any_flat, any_found, each_member}
use Rattle.ae_base.proofs.Exor.{odd_count}
use Rattle.ae_base.proofs.Members.{members-has}
use Rattle.ae_base.proofs.Once.{add_last, added, each_once, once_apart}
use Rattle.ae_base.proofs.Sets.{has-either, has-empty, has-where_below, has-with, has-xor, inside-above, inside-below, inside-from}
use Rattle.ae_base.proofs.Truth.{differ-assoc, differ-false}
use Rattle.ae_net.specs.Out.{out}
use Rattle.ae_net.specs.Valid.{IsDistinct}
use Rattle.expansion.specs.Even.{even_inputs}
use Rattle.expansion.specs.Kept.{IsTerms}
use Rattle.expansion.specs.Terms.{Terms, used_inputs}
use Rattle.cascade.specs.FirstVectors.{literals_at}
use Rattle.cascade.proofs.CodeLemmas.{at_item}
use Rattle.cascade.proofs.Law.{stands_inside}
use Rattle.cascade.proofs.VectorLemmas.{has-literals_at}
use Rattle.input_tests.specs.Added.{all_added}
use Rattle.input_tests.specs.Inputs.{first_term, input_vectors_of, pair_at, term_but, term_high}
use Rattle.input_tests.specs.Whole.{new_ones}
use Rattle.input_tests.proofs.FirstTerm.{find_member, own}

-- ---- adding

pub add_all : (xs ys : List Set) → without_repeats (xs ++ ys) ≡ all_added ys (without_repeats xs)
add_all xs [] = ap without_repeats (append-nil xs)
add_all xs (y ∷ ys) = ap without_repeats (sym (append_assoc xs (y ∷ []) ys)) ∙ add_all (xs ++ y ∷ []) ys ∙ ap (all_added ys) (add_last xs y)

-- the two vectors of input j
abbrev pub pair_of : Terms → ℕ → List Set
pair_of e j = pair_at e.polarity (used_inputs e) j (first_term e j)

-- those of these inputs, each once
unfoldable pub so_far : Terms → List ℕ → List Set
so_far e js = without_repeats (flat_map (pair_of e) js)

pub none_so_far : (e : Terms) → [] ≡ so_far e []
unfolding so_far
none_so_far e = refl

pub one_more : (e : Terms) (js : List ℕ) (j : ℕ) (now new : List Set) → new ≡ all_added (pair_of e j) now → now ≡ so_far e js → new ≡ so_far e (js ++ j ∷ [])
unfolding so_far
one_more e js j now new is so =
    is ∙ ap (all_added (pair_of e j)) so ∙ sym (add_all (flat_map (pair_of e) js) (pair_of e j))
    ∙ ap without_repeats (sym (flat_map-append (pair_of e) js (j ∷ []) ∙ ap (λ ys. flat_map (pair_of e) js ++ ys) (append-nil (pair_of e j))))

pub all_so_far : (e : Terms) → so_far e (members (even_inputs e)) ≡ input_vectors_of e
unfolding so_far input_vectors_of
all_so_far e = refl

pub pairs_distinct : (e : Terms) → IsDistinct (input_vectors_of e)
unfolding input_vectors_of
pairs_distinct e = AllPairs-from_Distinct _ (once_apart (flat_map (pair_of e) (members (even_inputs e))))

-- ---- over which inputs

-- a set of inputs below n
abbrev Low : ℕ → Set → Type 0
Low n x = (k : ℕ) → n ≤ k → has x k ≡ false

low_xor : (n : ℕ) (x y : Set) → Low n x → Low n y → Low n (xor x y)
low_xor n x y a b k l = has-xor x y k ∙ rw (a k l, b k l) refl

even_low : (e : Terms) → Low e.polarity.n (even_inputs e)
unfolding even_inputs
even_low e k l = has-where_below e.polarity.n _ k ∙ rw (le-ltb k e.polarity.n l) refl

pair_points : (e : Terms) → IsTerms e → (j : ℕ) → j < e.polarity.n → (t : Option Set) → first_term e j ≡ t → AllByRecursion (IsPoint (e.polarity.n + 1)) (pair_at e.polarity (used_inputs e) j t)
unfolding term_high term_but
pair_points e is j l None found = tt
pair_points e is j l (Some t) found =
    let n : ℕ = e.polarity.n in
    let first : Low n t = inside-above n t (stands_inside e is t (sym (any_flat (λ u. eqb u t) e.outs) ∙ (find_member (λ u. has u j) (flat_map (λ ts. ts) e.outs) t found).1)) in
    let high : Low n (xor (literals_at e.polarity (used_inputs e) false) t) = low_xor n _ t (λ k m. has-literals_at e.polarity (used_inputs e) false k ∙ rw (le-ltb k n m) refl) first in
    let but : Low n (flipped j (xor (literals_at e.polarity (used_inputs e) false) t)) = low_xor n _ (with empty j) high (λ k m. has-with empty j k ∙ rw (ne_eqb k j (λ same. absurd (omega (arith, same, l, m)))) (has-empty k)) in
    (inside-from (n + 1) _ (λ k m. high k (omega arith)), (inside-from (n + 1) _ (λ k m. but k (omega arith)), tt))

each_flat : (P : Set → Type 0) (f : ℕ → List Set) (js : List ℕ) → AllByRecursion (λ j. AllByRecursion P (f j)) js → AllByRecursion P (flat_map f js)
each_flat P f [] h = tt
each_flat P f (j ∷ js) (h, hs) = each-append P (f j) (flat_map f js) h (each_flat P f js hs)

pub all_points : (e : Terms) → IsTerms e → All (IsPoint (e.polarity.n + 1)) (input_vectors_of e)
unfolding input_vectors_of
all_points e is =
    All-from_recursion (IsPoint (e.polarity.n + 1)) _ (each_once (IsPoint (e.polarity.n + 1)) (flat_map (pair_of e) (members (even_inputs e)))
    (each_flat (IsPoint (e.polarity.n + 1)) (pair_of e) (members (even_inputs e))
    (each_member (λ j. AllByRecursion (IsPoint (e.polarity.n + 1)) (pair_of e j)) (members (even_inputs e))
    (λ j m. pair_points e is j (inside-below e.polarity.n (even_inputs e) (inside-from e.polarity.n (even_inputs e) (even_low e)) j (sym (members-has (even_inputs e) j) ∙ m)) (first_term e j) refl))))

-- ---- loops over terms

pub odd_more : (k : ℕ) (odd next : Set) (ts : List Set) (i : ℕ) (item : Set) → i < length ts → item ≡ get_or ts i item → next ≡ xor odd item → differ (has odd k) (exor_of (λ t. has t k) (drop i ts)) ≡ exor_of (λ t. has t k) ts
    → differ (has next k) (exor_of (λ t. has t k) (drop (i + 1) ts)) ≡ exor_of (λ t. has t k) ts
odd_more k odd next ts i item l is next_is so =
    rw (next_is, has-xor odd item k) (differ-assoc (has odd k) (has item k) (exor_of (λ t. has t k) (drop (i + 1) ts)) ∙ ap (λ us. differ (has odd k) (exor_of (λ t. has t k) us)) (sym (at_item ts i item l is)) ∙ so)

-- whether the expansion holds the input an odd number of times
abbrev pub odd_of : ℕ → List Set → Bool
odd_of k ts = eqb (count_by (λ t. has t k) ts % 2) 1

pub odd_end : (k : ℕ) (odd : Set) (ts : List Set) (i : ℕ) → length ts ≤ i → differ (has odd k) (exor_of (λ t. has t k) (drop i ts)) ≡ exor_of (λ t. has t k) ts → has odd k ≡ odd_of k ts
odd_end k odd ts i end so = sym (differ-false (has odd k)) ∙ ap (λ us. differ (has odd k) (exor_of (λ t. has t k) us)) (sym (drop_all i ts end)) ∙ so ∙ odd_count (λ t. has t k) ts

pub odds_more : (k : ℕ) (odd own next : Set) (tss : List (List Set)) (i : ℕ) (item : List Set) (all : Bool) → i < length tss → item ≡ get_or tss i item → has own k ≡ odd_of k item → next ≡ either odd own
    → (has odd k || list_any (odd_of k) (drop i tss)) ≡ all → (has next k || list_any (odd_of k) (drop (i + 1) tss)) ≡ all
odds_more k odd own next tss i item all l is own_is next_is so =
    rw (next_is, has-either odd own k, own_is) (or_assoc (has odd k) (odd_of k item) (list_any (odd_of k) (drop (i + 1) tss)) ∙ ap (λ us. has odd k || list_any (odd_of k) us) (sym (at_item tss i item l is)) ∙ so)

-- the first term from output i on
abbrev first_from : ℕ → List (List Set) → ℕ → Option Set
first_from j tss i = find (λ t. has t j) (flat_map (λ ts. ts) (drop i tss))

pub first_step : (j : ℕ) (tss : List (List Set)) (i : ℕ) (item : List Set) (found whole : Option Set) → i < length tss → item ≡ get_or tss i item → find (λ t. has t j) item ≡ found → first_from j tss i ≡ whole → option_or found (first_from j tss (i + 1)) ≡ whole
first_step j tss i item found whole l is find_is so =
    ap (λ o. option_or o (first_from j tss (i + 1))) (sym find_is) ∙ sym (ap (λ us. find (λ t. has t j) (flat_map (λ ts. ts) us)) (at_item tss i item l is) ∙ find-append (λ t. has t j) item (flat_map (λ ts. ts) (drop (i + 1) tss))) ∙ so

-- two vectors added, one after the other
pub two_added : (p : Signs) (used : Set) (j : ℕ) (first : Option Set) (t low high but : Set) (xs ys zs : List Set) → first ≡ Some t → low ≡ literals_at p used false → high ≡ xor low t → but ≡ xor high (with empty j)
    → ys ≡ added high xs → zs ≡ added but ys → zs ≡ all_added (pair_at p used j first) xs
unfolding term_high term_but
two_added p used j first t low high but xs ys zs found low_is high_is but_is one two = rw (two, one, but_is, high_is, low_is, found) refl

-- ---- the vectors of the even inputs, put after the universal ones in turn

abbrev pub has_it : Set → List Set → Bool
has_it y xs = list_any (λ x. eqb x y) xs

-- a vector is put at the end where the list has it not
abbrev pub put_new : List Set → Set → List Set
put_new xs y = cond (has_it y xs) xs (xs ++ y ∷ [])

put_one : (us ys : List Set) (y : Set) → has_it y ys ≡ false → put_new (us ++ new_ones us ys) y ≡ us ++ new_ones us (ys ++ y ∷ [])
put_one us ys y out =
    elim (cases_Bool (has_it y us)) [
      | inl e ↦ rw (list_any-append (λ x. eqb x y) us (new_ones us ys), filter-append (λ z. not (has_it z us)) ys (y ∷ []), e) (simp append-nil)
      | inr e ↦ rw (list_any-append (λ x. eqb x y) us (new_ones us ys), filter-append (λ z. not (has_it z us)) ys (y ∷ []), e, none) (append_assoc us (new_ones us ys) (y ∷ []))
    ]
  where
    -- what a list has not, its part that passes a test has not
    none : has_it y (new_ones us ys) ≡ false
    none = elim (cases_Bool (has_it y (new_ones us ys))) [ inl e ↦ absurd (false≢true (sym out ∙ (any_filter_parts (λ z. not (has_it z us)) y ys e).1)) | inr e ↦ e ]

-- an element of a list without repeats stands not before itself
earlier_not : (ys : List Set) (i : ℕ) (d : Set) → IsDistinct ys → i < length ys → has_it (get_or ys i d) (take i ys) ≡ false
earlier_not ys i d distinct l =
    elim (cases_Bool (has_it (get_or ys i d) (take i ys))) [
      | inl there ↦
          let at = any_found (λ x. eqb x (get_or ys i d)) (take i ys) there in
          let before : at.place < i = omega (arith, slice_get_within (take i ys) at.place at.element at.there, length-take i ys) in
          absurd (distinct at.place i d before l (sym (get_or-take i ys at.place d before) ∙ get_or_from_slice_get (take i ys) at.place at.element d at.there ∙ eqb-true at.element (get_or ys i d) at.passes))
      | inr none ↦ none
    ]

pub next : (us ys now new : List Set) (i : ℕ) (d : Set) → IsDistinct ys → i < length ys → now ≡ us ++ new_ones us (take i ys) → new ≡ put_new now (get_or ys i d) → new ≡ us ++ new_ones us (take (i + 1) ys)
next us ys now new i d distinct l had is = rw (is, had, take_more ys i d l) (put_one us (take i ys) (get_or ys i d) (earlier_not ys i d distinct l))

pub joined_points : (P : Set → Type 0) (us ys all : List Set) → All P us → All P ys → all ≡ us ++ new_ones us ys → All P all
joined_points P us ys all first second both = subst (All P) (sym both) (All-append P us (new_ones us ys) first (All-filter _ P ys second))

pub joined_distinct : (us ys all : List Set) → IsDistinct us → IsDistinct ys → all ≡ us ++ new_ones us ys → IsDistinct all
joined_distinct us ys all first second both =
    subst (λ (xs : List Set). IsDistinct xs) (sym both)
    (AllPairs-from_Distinct _ (Distinct-append (λ x. has_it x us ≡ true) (λ y. has_it y us ≡ false) (λ x y among none same. false≢true (sym none ∙ ap (λ z. has_it z us) (sym same) ∙ among)) us (new_ones us ys)
    (each_member (λ x. has_it x us ≡ true) us (λ x m. m)) (each_member (λ y. has_it y us ≡ false) (new_ones us ys) (λ y m. not-true (has_it y us) (any_filter_parts (λ z. not (has_it z us)) y ys m).0))
    (Distinct-from_AllPairs us first) (Distinct-filter (λ y. not (has_it y us)) ys (Distinct-from_AllPairs ys second))))
