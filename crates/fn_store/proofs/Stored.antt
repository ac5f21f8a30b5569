-- The plain store: its lists at first, and a list more.
use Rattle.std.proofs.Common.{◌≡◌, ◌+◌, ◌<◌, true, false, List, [], ◌∷◌, ◌++◌, length, length-append, refl, arith, inl, inr}
use Rattle.std.proofs.lemmas.Bool.{ltb-true, lt-ltb, cases_lt}
use Rattle.std.proofs.lemmas.List.{get_or_append_left, get_or_push}
use Rattle.ae_base.specs.Mask.{Set, empty}
use Rattle.ae_base.specs.Cube.{Signs}
use Rattle.ae_base.specs.Terms.{value}
use Rattle.fn_store.specs.Davio.{IsExpansion}
use Rattle.fn_store.specs.Functions.{Keeps, AllShow}
use Rattle.fn_store.specs.Lists.{Lists, IsLists, functions_of}
use Rattle.fn_store.proofs.Rows.{IsExpansion-zero, IsExpansion-one}
use Rattle.fn_store.proofs.Shown.{IsExpansion-own, Shows-kept}

-- the store with other lists
abbrev with_lists : Lists → List (List Set) → Lists
with_lists s lists = record s { lists = lists }

Keeps-push : (s : Lists) (ts : List Set) → Keeps (functions_of s) (functions_of (with_lists s (s.lists ++ ts ∷ [])))
Keeps-push s ts = record {
  polarity = refl;
  live = λ r l. let n : length (s.lists ++ ts ∷ []) ≡ length s.lists + 1 = length-append s.lists (ts ∷ []) in lt-ltb r.at _ (omega (arith, n, ltb-true r.at (length s.lists) l));
  terms = λ r l. get_or_append_left s.lists (ts ∷ []) [] r.at (ltb-true r.at (length s.lists) l);
}

AllShow-push : (s : Lists) (ts : List Set) → IsExpansion s.polarity (value s.polarity ts) ts → AllShow (functions_of s) → AllShow (functions_of (with_lists s (s.lists ++ ts ∷ [])))
AllShow-push s ts is all r live =
    let n : length (s.lists ++ ts ∷ []) ≡ length s.lists + 1 = length-append s.lists (ts ∷ []) in
    let l : r.at < length (s.lists ++ ts ∷ []) = ltb-true r.at _ live in
    elim (cases_lt r.at (length s.lists)) [
      | inl m ↦ rw (get_or_append_left s.lists (ts ∷ []) [] r.at m) (Shows-kept _ _ (Keeps-push s ts) r _ (all r (lt-ltb r.at _ m)))
      | inr m ↦ record { live = live; is = rw (get_or_push s.lists ts [] r.at (omega (arith, l, m, n))) is }
    ]

pub IsLists-push : (s : Lists) (more : List (List Set)) (ts : List Set) → more ≡ s.lists ++ ts ∷ [] → IsExpansion s.polarity (value s.polarity ts) ts → IsLists s → IsLists (with_lists s more)
IsLists-push s more ts e is now = rw e (record {
  zero = Shows-kept _ _ (Keeps-push s ts) s.zero _ now.zero;
  one = Shows-kept _ _ (Keeps-push s ts) s.one _ now.one;
  all = AllShow-push s ts is now.all;
})

-- ---- the lists of 0 and of 1

none : Signs → Lists
none p = record { polarity = p; zero = record { at = 0 }; one = record { at = 1 }; lists = [] }

pub IsLists-start : (p : Signs) (lists : List (List Set)) → lists ≡ [] ∷ (empty ∷ []) ∷ [] → IsLists (record { polarity = p; zero = record { at = 0 }; one = record { at = 1 }; lists = lists })
unfolding none
IsLists-start p lists e =
    let none_shown : AllShow (functions_of (none p)) = λ r live. absurd (omega (arith, ltb-true r.at 0 live)) in
    let zero_shown = AllShow-push (none p) [] (IsExpansion-own p (λ x. false) [] (IsExpansion-zero p)) none_shown in
    rw e (record {
      zero = record { live = refl; is = IsExpansion-zero p };
      one = record { live = refl; is = IsExpansion-one p };
      all = AllShow-push (with_lists (none p) ([] ∷ [])) (empty ∷ []) (IsExpansion-own p (λ x. true) (empty ∷ []) (IsExpansion-one p)) zero_shown;
    })
