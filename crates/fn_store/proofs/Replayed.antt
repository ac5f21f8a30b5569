-- Lists of operations: what stays while references are made, and that stores of one polarity give the same expansions.
use Rattle.std.proofs.Common.{◌≡◌, ◌≢◌, ℕ, zero, suc, ◌+◌, ◌-◌, ◌<◌, ◌≤◌, Bool, not, ◌&&◌, ◌⊎◌, inl, inr, List, [], ◌∷◌, ◌++◌, map, length, get_or, slice_get, Some, refl, sym, subst, ap, ap₂, ◌∙◌, arith}
use Rattle.std.proofs.lemmas.Bool.{cases_lt}
use Rattle.std.proofs.lemmas.List.{get_or_append_left, get_or_push, get_or-map, length-map, length_push, same_lists}
use Rattle.std.proofs.lemmas.Option.{slice_get_within, slice_get-get_or, get_or_from_slice_get}
use Rattle.ae_base.specs.Mask.{Set, differ}
use Rattle.ae_base.specs.Cube.{Signs}
use Rattle.ae_base.specs.Terms.{value}
use Rattle.fn_store.specs.declared.operations.Op.{Op}
use Rattle.fn_store.specs.declared.operations.Op.TheVariants.{Literal, Xor, And, Not}
use Rattle.fn_store.specs.declared.store.FnRef.{FnRef}
use Rattle.fn_store.specs.Functions.{Functions, Shows, Keeps}
use Rattle.fn_store.specs.Replay.{AreOps, AreResults, AllShown, IsOp, function_at, ref_at, result_of}
use Rattle.fn_store.proofs.Expansions.{one}
use Rattle.fn_store.proofs.Shown.{IsExpansion-agree, IsExpansion-own, Keeps-through, Shows-kept, Shows-agree}

-- operands that agree give results that agree
result-agree : (p : Signs) (n at : ℕ) (op : Op) (fs gs : ℕ → Set → Bool) (x : Set) → IsOp n at op → ((a : ℕ) → a < at → fs a x ≡ gs a x) → result_of p fs op x ≡ result_of p gs op x
result-agree p n at (Literal j) fs gs x h same = refl
result-agree p n at (Xor a b) fs gs x (left, right) same = ap₂ differ (same a left) (same b right)
result-agree p n at (And a b) fs gs x (left, right) same = ap₂ (λ u v. u && v) (same a left) (same b right)
result-agree p n at (Not a) fs gs x h same = ap not (same a h)

-- a function that is shown is the value of the terms
Shows-own : (s : Functions) (r : FnRef) (f : Set → Bool) → Shows s r f → Shows s r (value s.polarity (s.terms r.at))
Shows-own s r f h = record { live = h.live; is = IsExpansion-own s.polarity f (s.terms r.at) h.is }

-- ---- operands

pub operand-later : (s : Functions) (refs : List FnRef) (place : ℕ) → (place ≢ 0) → (place ≢ 1) → place < length refs + 2 → AllShown s refs → Shows s (ref_at refs (place - 2)) (function_at s refs place)
operand-later s refs zero a b l shown = absurd (a refl)
operand-later s refs (suc zero) a b l shown = absurd (b refl)
operand-later s refs (suc (suc k)) a b l shown = let e : k ≡ suc (suc k) - 2 = omega arith in rw (← e) (shown k (omega (arith, l)))

-- the function at an earlier place stays where a reference is put behind the others
function-kept : (now next : Functions) (refs : List FnRef) (r : FnRef) → Keeps now next → AllShown now refs → (a : ℕ) → a < length refs + 2 → (x : Set) → function_at now refs a x ≡ function_at next (refs ++ r ∷ []) a x
function-kept now next refs r keeps shown zero l x = refl
function-kept now next refs r keeps shown (suc zero) l x = refl
function-kept now next refs r keeps shown (suc (suc k)) l x =
    let m : k < length refs = omega (arith, l) in
    sym (
    ap (λ (q : FnRef). value next.polarity (next.terms q.at) x) (get_or_append_left refs (r ∷ []) (record { at = 0 }) k m)
    ∙ ap₂ (λ (p : Signs) (ts : List Set). value p ts x) keeps.polarity (keeps.terms (ref_at refs k) (shown k m).live)
    )

-- ---- references that are made one after the other

-- the first i operations are carried out
pub record Replayed (start now : Functions) (ops : List Op) (refs : List FnRef) (i : ℕ) : Type 0 where
  pub count : length refs ≡ i
  pub keeps : Keeps start now
  pub shown : AllShown now refs
  pub each : (k : ℕ) (op : Op) → slice_get ops k ≡ Some op → k < i → Shows now (ref_at refs k) (result_of now.polarity (function_at now refs) op)

pub Replayed-push : (start now next : Functions) (ops : List Op) (refs : List FnRef) (i : ℕ) (r : FnRef) (op : Op) → AreOps start.polarity.n ops → Replayed start now ops refs i → slice_get ops i ≡ Some op → Keeps now next
    → Shows next r (result_of now.polarity (function_at now refs) op) → Replayed start next ops (refs ++ r ∷ []) (i + 1)
Replayed-push start now next ops refs i r op fine done got keeps here = record {
  count = length_push refs r ∙ ap (λ n. n + 1) done.count;
  keeps = Keeps-through start now next done.keeps keeps;
  shown = λ k l. shown_at k (omega (arith, l, length_push refs r)) (cases_lt k (length refs));
  each = λ k o at l. each_at k o at (omega (arith, l, done.count)) (cases_lt k (length refs));
}
  where
    later : (k : ℕ) (o : Op) → slice_get ops k ≡ Some o → k < length refs + 1 → (q : FnRef) → Shows next q (result_of now.polarity (function_at now refs) o) → Shows next q (result_of next.polarity (function_at next (refs ++ r ∷ [])) o)
    later k o at l q h =
        subst (λ (p : Signs). Shows next q (result_of p (function_at next (refs ++ r ∷ [])) o)) (sym keeps.polarity)
        (Shows-agree next q (result_of now.polarity (function_at now refs) o) (result_of now.polarity (function_at next (refs ++ r ∷ [])) o)
        (λ x point. result-agree now.polarity start.polarity.n (k + 2) o (function_at now refs) (function_at next (refs ++ r ∷ [])) x (fine k o at)
        (λ a m. function-kept now next refs r keeps done.shown a (omega (arith, l, m)) x)) h)

    shown_at : (k : ℕ) → k < length refs + 1 → (k < length refs) ⊎ (length refs ≤ k) → Shows next (ref_at (refs ++ r ∷ []) k) (value next.polarity (next.terms (ref_at (refs ++ r ∷ []) k).at))
    shown_at k l (inl m) = rw (get_or_append_left refs (r ∷ []) (record { at = 0 }) k m) (Shows-own next (ref_at refs k) _ (Shows-kept now next keeps (ref_at refs k) _ (done.shown k m)))
    shown_at k l (inr m) = rw (get_or_push refs r (record { at = 0 }) k (omega (arith, l, m))) (Shows-own next r _ here)

    each_at : (k : ℕ) (o : Op) → slice_get ops k ≡ Some o → k < length refs + 1 → (k < length refs) ⊎ (length refs ≤ k) → Shows next (ref_at (refs ++ r ∷ []) k) (result_of next.polarity (function_at next (refs ++ r ∷ [])) o)
    each_at k o at l (inl m) =
        rw (get_or_append_left refs (r ∷ []) (record { at = 0 }) k m)
        (later k o at l (ref_at refs k) (Shows-kept now next keeps (ref_at refs k) _ (done.each k o at (omega (arith, m, done.count)))))
    each_at k o at l (inr m) =
        let same : i ≡ k = omega (arith, l, m, done.count) in
        let is : op ≡ o = sym (get_or_from_slice_get ops i op op got) ∙ ap (λ (j : ℕ). get_or ops j op) same ∙ get_or_from_slice_get ops k o op at in
        rw (get_or_push refs r (record { at = 0 }) k (omega (arith, l, m))) (later k o at l r (rw (← is) here))

pub Replayed-end : (start now : Functions) (ops : List Op) (refs : List FnRef) (i : ℕ) → length ops ≤ i → i ≤ length ops → Replayed start now ops refs i → AreResults now ops refs
Replayed-end start now ops refs i low high done = record {
  count = omega (arith, done.count);
  each = λ k op got. done.each k op got (omega (arith, slice_get_within ops k op got));
}

-- ---- two stores

same_below : (s t : Functions) (ops : List Op) (refs others : List FnRef) → s.polarity ≡ t.polarity → AreOps s.polarity.n ops → AreResults s ops refs → AreResults t ops others
    → (m k : ℕ) → k < m → k < length ops → s.terms (ref_at refs k).at ≡ t.terms (ref_at others k).at
same_below s t ops refs others e fine left right zero k l within = absurd (omega arith)
same_below s t ops refs others e fine left right (suc m) k l within =
    let got : slice_get ops k ≡ Some (get_or ops k (Literal 0)) = slice_get-get_or ops k (Literal 0) within in
    let op = get_or ops k (Literal 0) in
    let f = result_of s.polarity (function_at s refs) op in
    let shows : Shows s (ref_at refs k) (result_of s.polarity (function_at s refs) (get_or ops k (Literal 0))) = left.each k op got in
    let others_show : Shows t (ref_at others k) (result_of t.polarity (function_at t others) (get_or ops k (Literal 0))) = right.each k op got in
    one s.polarity f (s.terms (ref_at refs k).at) (t.terms (ref_at others k).at) shows.is
    (IsExpansion-agree s.polarity (result_of s.polarity (function_at t others) op) f (t.terms (ref_at others k).at)
    (λ x point. result-agree s.polarity s.polarity.n (k + 2) op (function_at t others) (function_at s refs) x (fine k op got) (λ a b. sym (agree (λ j b. same_below s t ops refs others e fine left right m j (omega (arith, b, l)) (omega (arith, b, within))) x a b)))
    (rw e others_show.is))
  where
    agree : ((j : ℕ) → j < k → s.terms (ref_at refs j).at ≡ t.terms (ref_at others j).at) → (x : Set) (a : ℕ) → a < k + 2 → function_at s refs a x ≡ function_at t others a x
    agree earlier x zero b = refl
    agree earlier x (suc zero) b = refl
    agree earlier x (suc (suc j)) b = ap₂ (λ (p : Signs) (ts : List Set). value p ts x) e (earlier j (omega (arith, b)))

pub same_expansions : (s t : Functions) (ops : List Op) (refs others : List FnRef) → s.polarity ≡ t.polarity → AreOps s.polarity.n ops → AreResults s ops refs → AreResults t ops others
    → map (λ r. s.terms r.at) refs ≡ map (λ r. t.terms r.at) others
same_expansions s t ops refs others e fine left right =
    same_lists (map (λ r. s.terms r.at) refs) (map (λ r. t.terms r.at) others)
    (length-map refs (λ r. s.terms r.at) ∙ left.count ∙ sym right.count ∙ sym (length-map others (λ r. t.terms r.at)))
    (λ k d l.
    let within : k < length refs = omega (arith, l, length-map refs (λ r. s.terms r.at)) in
    get_or-map (λ r. s.terms r.at) refs k (record { at = 0 }) d within
    ∙ same_below s t ops refs others e fine left right (suc k) k (omega arith) (omega (arith, within, left.count))
    ∙ sym (get_or-map (λ r. t.terms r.at) others k (record { at = 0 }) d (omega (arith, within, left.count, right.count))))
