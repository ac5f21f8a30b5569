-- The search for the number of underscores of inner names.
use Rattle.std.proofs.Common.{◌≡◌, ℕ, zero, suc, ◌+◌, ◌-◌, ◌<◌, ◌≤◌, Bool, true, false, ◌||◌, cond, max, inl, inr, List, [], ◌∷◌, ◌++◌, length, map, get_or, refl, sym, ap, ◌∙◌, arith, eqb, ne_eqb}
use Rattle.std.proofs.lemmas.Bool.{cases_eq, cases_lt, cases_Bool, false≢true}
use Rattle.std.proofs.lemmas.List.Folds.{list_any-append}
use Rattle.ae_base.specs.declared.limits.TheConstants.{SOURCE_NAME_BYTES}
use Rattle.ae_net.specs.Lead.{free_from, greatest, lead}
use Rattle.ae_net.specs.Names.{Names, IsNames, IsLead, underscores, is_taken}

pub taken_both : (a b : List (List ℕ)) (k : ℕ) → is_taken (a ++ b) k ≡ (is_taken a k || is_taken b k)
taken_both a b k = list_any-append (λ name. eqb (underscores name) k) a b

pub free_now : (names : List (List ℕ)) (m d : ℕ) → d < m → is_taken names (d + 1) ≡ false → free_from names (m - d) (d + 1) ≡ d + 1
free_now names m d l free = let z : m - d ≡ suc (m - d - 1) = omega arith in rw (z, free) refl

pub free_on : (names : List (List ℕ)) (m d : ℕ) → d < m → is_taken names (d + 1) ≡ true → free_from names (m - d) (d + 1) ≡ free_from names (m - (d + 1)) (d + 1 + 1)
free_on names m d l taken =
    let z : m - d ≡ suc (m - (d + 1)) = omega arith in
    let y : d + 1 + 1 ≡ suc (d + 1) = omega arith in
    rw (z, taken, y) refl

underscores-le : (bytes : List ℕ) → underscores bytes ≤ length bytes
underscores-le [] = omega arith
underscores-le (b ∷ bs) = by (eqb b 95) (underscores-le bs)
  where
    by : (t : Bool) → underscores bs ≤ length bs → cond t (suc (underscores bs)) 0 ≤ suc (length bs)
    by true h = omega arith
    by false h = omega arith

few_underscores : (names : List (List ℕ)) → ((k : ℕ) (d : List ℕ) → k < length names → length (get_or names k d) ≤ SOURCE_NAME_BYTES) → greatest (map underscores names) ≤ SOURCE_NAME_BYTES
few_underscores [] h = omega arith
few_underscores (name ∷ names) h = omega (arith, underscores-le name, h 0 [] (omega arith), few_underscores names (λ k d l. h (suc k) d (omega (arith, l))))

pub greatest_both : (a b : List (List ℕ)) → greatest (map underscores (a ++ b)) ≡ max (greatest (map underscores a)) (greatest (map underscores b))
greatest_both [] b = omega arith
greatest_both (x ∷ a) b = omega (arith, greatest_both a b)

pub few_of_source : (names : Names) → IsNames names → greatest (map underscores (names.inputs ++ names.outputs)) ≤ SOURCE_NAME_BYTES
few_of_source names h = few_underscores (names.inputs ++ names.outputs) (λ k d l. (h.each k d l).1)

-- ---- the number is free, and each smaller one is taken

not_taken : (names : List (List ℕ)) (k : ℕ) → greatest (map underscores names) < k → is_taken names k ≡ false
not_taken [] k l = refl
not_taken (name ∷ names) k l = rw (ne_eqb (underscores name) k (λ e. absurd (omega (arith, l, e))), not_taken names k (omega (arith, l))) refl

free_is_free : (names : List (List ℕ)) (more k : ℕ) → greatest (map underscores names) < k + more → is_taken names (free_from names more k) ≡ false
free_is_free names zero k l = not_taken names k (omega arith)
free_is_free names (suc more) k l = by_taken (is_taken names k) refl (free_is_free names more (suc k) (omega arith))
  where
    by_taken : (b : Bool) → is_taken names k ≡ b → is_taken names (free_from names more (suc k)) ≡ false → is_taken names (cond b (free_from names more (suc k)) k) ≡ false
    by_taken true e h = h
    by_taken false e h = e

free_is_late : (names : List (List ℕ)) (more k : ℕ) → k ≤ free_from names more k
free_is_late names zero k = omega arith
free_is_late names (suc more) k = by_taken (is_taken names k) (free_is_late names more (suc k))
  where
    by_taken : (b : Bool) → suc k ≤ free_from names more (suc k) → k ≤ cond b (free_from names more (suc k)) k
    by_taken true h = omega arith
    by_taken false h = omega arith

free_is_soon : (names : List (List ℕ)) (more k : ℕ) → free_from names more k ≤ k + more
free_is_soon names zero k = omega arith
free_is_soon names (suc more) k = by_taken (is_taken names k) (free_is_soon names more (suc k))
  where
    by_taken : (b : Bool) → free_from names more (suc k) ≤ suc k + more → cond b (free_from names more (suc k)) k ≤ k + suc more
    by_taken true h = omega arith
    by_taken false h = omega arith

free_is_least : (names : List (List ℕ)) (more k m : ℕ) → k ≤ m → m < free_from names more k → is_taken names m ≡ true
free_is_least names zero k m from below = absurd (omega (arith, from, below))
free_is_least names (suc more) k m from below =
    elim (cases_Bool (is_taken names k)) [
      | inl taken ↦
          elim (cases_eq m k) [
            | inl same ↦ ap (is_taken names) same ∙ taken
            | inr other ↦ free_is_least names more (suc k) m (omega arith) (rw taken at below)
          ]
      | inr free ↦ let l : m < k = rw free at below in absurd (omega (arith, from, l))
    ]

pub lead_is_lead : (names : Names) → IsLead names (lead names)
unfolding lead
lead_is_lead names =
    let all = names.inputs ++ names.outputs in
    record {
      positive = omega (arith, free_is_late all (greatest (map underscores all)) 1);
      free = free_is_free all (greatest (map underscores all)) 1 (omega arith);
      least = λ m from below. free_is_least all (greatest (map underscores all)) 1 m (omega (arith, from)) below;
    }

pub lead_few : (names : Names) → IsNames names → lead names ≤ SOURCE_NAME_BYTES + 1
unfolding lead
lead_few names h = omega (arith, few_of_source names h, free_is_soon (names.inputs ++ names.outputs) (greatest (map underscores (names.inputs ++ names.outputs))) 1)

-- one number is the lead
pub one_lead : (names : Names) (k m : ℕ) → IsLead names k → IsLead names m → k ≡ m
one_lead names k m a b =
    elim (cases_lt k m) [
      | inl l ↦ absurd (false≢true (sym a.free ∙ b.least k a.positive l))
      | inr l ↦ elim (cases_lt m k) [
        | inl l' ↦ absurd (false≢true (sym b.free ∙ a.least m b.positive l'))
        | inr l' ↦ omega arith
      ]
    ]
