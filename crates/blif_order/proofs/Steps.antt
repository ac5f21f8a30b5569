-- One step of placing.
use Rattle.std.proofs.Common.{◌≡◌, ℕ, zero, suc, ◌+◌, ◌<◌, ◌≤◌, Bool, true, false, not, cond, ◌||◌, ◌&&◌, eqb, ltb, Some, None, List, [], ◌∷◌, ◌++◌, length, map, get_or, refl, sym, ap, subst, ◌∙◌, arith, inl, inr}
use Rattle.std.specs.List.{list_all, find, range_with_len, sum_by}
use Rattle.std.specs.Ordering.{nat_cmp, is_eq, is_gt}
use Rattle.std.specs.BTreeSet.{BTreeSet}
use Rattle.std.proofs.lemmas.Bool.{eq-eqb, eqb-true, cases_eq, ne_eqb, cases_lt, cases_Bool, cases_order, lt-ltb, le-ltb, ltb-true, and_parts, and_right, cond-true, cond-false, not-true, false≢true}
use Rattle.std.proofs.lemmas.List.{get_or_past, get_or-map, length-map}
use Rattle.std.proofs.lemmas.List.Sums.{sum_by-cons}
use Rattle.ae_base.proofs.Truth.{or-false}
use Rattle.blif_order.specs.Kept.{count, count_left, AreUsers, has, AreReady, IsState}
use Rattle.blif_order.specs.Order.{is_placed, waits, can_go, next, place}
use Rattle.blif_order.proofs.Counts.{one, count_before}

-- ---- numbers as keys

pub at_is : (k q : ℕ) → is_eq (nat_cmp k q) ≡ eqb k q
at_is k q = elim (cases_order k q) [
  | inl e ↦ rw (le-ltb k q (omega arith), eq-eqb k q e) refl
  | inr o ↦ elim o [ inl lt ↦ rw (lt-ltb k q lt, ne_eqb k q (omega arith)) refl | inr gt ↦ rw (le-ltb k q (omega arith), ne_eqb k q (omega arith)) refl ]
]

pub upto_is : (k q : ℕ) → is_gt (nat_cmp k q) ≡ false → k ≤ q
upto_is k q h = elim (cases_lt q k) [
  | inl lt ↦ absurd (false≢true (sym h ∙ rw (le-ltb k q (omega arith), ne_eqb k q (omega arith)) refl))
  | inr le ↦ le
]

-- ---- the first that passes

pub find_first : (p : ℕ → Bool) (n a k : ℕ) → a ≤ k → k < a + n → p k ≡ true → ((q : ℕ) → a ≤ q → q < k → p q ≡ false) → find p (range_with_len a n) ≡ Some k
find_first p zero a k le lt h before = absurd (omega arith)
find_first p (suc n) a k le lt h before = elim (cases_eq a k) [
  | inl e ↦ cond-true (p a) (Some a) (find p (range_with_len (a + 1) n)) (ap p e ∙ h) ∙ ap (λ i. Some i) e
  | inr ne ↦ cond-false (p a) (Some a) (find p (range_with_len (a + 1) n)) (before a (omega arith) (omega arith)) ∙ find_first p n (a + 1) k (omega arith) (omega arith) h (λ q x y. before q (omega arith) y)
]

pub find_none : (p : ℕ → Bool) (n a : ℕ) → ((q : ℕ) → a ≤ q → q < a + n → p q ≡ false) → find p (range_with_len a n) ≡ None
find_none p zero a before = refl
find_none p (suc n) a before = cond-false (p a) (Some a) (find p (range_with_len (a + 1) n)) (before a (omega arith) (omega arith)) ∙ find_none p n (a + 1) (λ q x y. before q (omega arith) (omega arith))

-- a number in range goes where the set has it
goes : (needs : List (List ℕ)) (placed : List ℕ) (ready : BTreeSet ℕ) → AreReady needs placed ready → (i : ℕ) → i < length needs → can_go needs placed i ≡ has ready i
goes needs placed ready h i lt = sym (h i ∙ ap (λ (b : Bool). b && can_go needs placed i) (lt-ltb i (length needs) lt))

pub in_range : (needs : List (List ℕ)) (placed : List ℕ) (ready : BTreeSet ℕ) → AreReady needs placed ready → (i : ℕ) → has ready i ≡ true → i < length needs
in_range needs placed ready h i e = ltb-true i (length needs) (and_parts (ltb i (length needs)) (can_go needs placed i) (sym (h i) ∙ e)).0

pub next_is : (needs : List (List ℕ)) (placed : List ℕ) (ready : BTreeSet ℕ) (k : ℕ) → AreReady needs placed ready → has ready k ≡ true → ((q : ℕ) → has ready q ≡ true → k ≤ q) → next needs placed ≡ Some k
unfolding next
next_is needs placed ready k h e least =
    let lt : k < length needs = in_range needs placed ready h k e in
    find_first (can_go needs placed) (length needs) 0 k (omega arith) (omega arith) (goes needs placed ready h k lt ∙ e)
    (λ q x y. goes needs placed ready h q (omega arith) ∙ (elim (cases_Bool (has ready q)) [ inl t ↦ absurd (omega (arith, least q t)) | inr f ↦ f ]))

pub next_none : (needs : List (List ℕ)) (placed : List ℕ) (ready : BTreeSet ℕ) → AreReady needs placed ready → ((q : ℕ) → has ready q ≡ false) → next needs placed ≡ None
unfolding next
next_none needs placed ready h none = find_none (can_go needs placed) (length needs) 0 (λ q x y. goes needs placed ready h q (omega arith) ∙ none q)

-- ---- placing one more

pub place_some : (needs : List (List ℕ)) (steps : ℕ) (placed : List ℕ) (k : ℕ) → next needs placed ≡ Some k → place needs (suc steps) placed ≡ place needs steps (placed ++ k ∷ [])
unfolding place
place_some needs steps placed k e = rw (e, place) refl

pub place_stops : (needs : List (List ℕ)) (steps : ℕ) (placed : List ℕ) → next needs placed ≡ None → place needs steps placed ≡ placed
unfolding place
place_stops needs zero placed e = refl
place_stops needs (suc steps) placed e = rw (e, place) refl

pub placed_more : (placed : List ℕ) (k i : ℕ) → is_placed (placed ++ k ∷ []) i ≡ (is_placed placed i || eqb k i)
placed_more [] k i = or-false (eqb k i)
placed_more (p ∷ placed) k i = ap (λ (b : Bool). eqb p i || b) (placed_more placed k i) ∙ or_assoc (eqb p i) (is_placed placed i) (eqb k i)
  where
    or_assoc : (a b c : Bool) → (a || (b || c)) ≡ ((a || b) || c)
    or_assoc true b c = refl
    or_assoc false b c = refl

-- those in the list that aren't placed, and k among them
left_one : (b e : Bool) → (e ≡ true → b ≡ false) → cond (not b) 1 0 ≡ cond (not (b || e)) 1 0 + cond e 1 0
left_one true true h = absurd (false≢true (sym (h refl)))
left_one true false h = refl
left_one false true h = refl
left_one false false h = refl

pub left_more : (placed : List ℕ) (k : ℕ) (xs : List ℕ) → is_placed placed k ≡ false → count_left placed xs ≡ count_left (placed ++ k ∷ []) xs + count k xs
left_more placed k [] h = refl
left_more placed k (x ∷ xs) h =
    let new : ℕ → ℕ = λ y. cond (not (is_placed (placed ++ k ∷ []) y)) 1 0 in
    let old : ℕ → ℕ = λ y. cond (not (is_placed placed y)) 1 0 in
    let a : sum_by old (x ∷ xs) ≡ old x + sum_by old xs = sum_by-cons old x xs in
    let b : sum_by new (x ∷ xs) ≡ new x + sum_by new xs = sum_by-cons new x xs in
    let c : sum_by (one k) (x ∷ xs) ≡ one k x + sum_by (one k) xs = sum_by-cons (one k) x xs in
    let d : old x ≡ new x + one k x =
    left_one (is_placed placed x) (eqb x k) (λ e. ap (is_placed placed) (eqb-true x k e) ∙ h)
    ∙ ap (λ (z : Bool). cond (not (is_placed placed x || z)) 1 0 + one k x) (eqb_turn x k)
    ∙ ap (λ (z : Bool). cond (not z) 1 0 + one k x) (sym (placed_more placed k x)) in
    let r : sum_by old xs ≡ sum_by new xs + sum_by (one k) xs = left_more placed k xs h in
    omega arith
  where
    eqb_turn : (x k : ℕ) → eqb x k ≡ eqb k x
    eqb_turn x k = elim (cases_eq x k) [ inl e ↦ eq-eqb x k e ∙ sym (eq-eqb k x (sym e)) | inr ne ↦ ne_eqb x k ne ∙ sym (ne_eqb k x (λ e. ne (sym e))) ]

-- all are placed exactly where none is left
pub all_placed : (placed xs : List ℕ) → list_all (is_placed placed) xs ≡ eqb (count_left placed xs) 0
all_placed placed [] = refl
all_placed placed (x ∷ xs) =
    let old : ℕ → ℕ = λ y. cond (not (is_placed placed y)) 1 0 in
    let a : sum_by old (x ∷ xs) ≡ old x + sum_by old xs = sum_by-cons old x xs in
    one_of (is_placed placed x) (list_all (is_placed placed) xs) (sum_by old xs) (sum_by old (x ∷ xs)) (all_placed placed xs) a
  where
    one_of : (b r : Bool) (n m : ℕ) → r ≡ eqb n 0 → m ≡ cond (not b) 1 0 + n → (b && r) ≡ eqb m 0
    one_of true r n m h e = let same : n ≡ m = omega arith in h ∙ ap (λ k. eqb k 0) same
    one_of false r n m h e = sym (ne_eqb m 0 (omega arith))

-- ---- the state after a step

-- what stands in a list of users is a user
pub user_in : (needs users : List (List ℕ)) (d : ℕ) → AreUsers needs users → d < length needs → (k : ℕ) → k < length (get_or users d []) → get_or (get_or users d []) k 0 < length needs
user_in needs users d h lt k in' =
    let x = get_or (get_or users d []) k 0 in
    let a : count x (get_or users d []) ≡ count d (waits needs x) = h d x lt in
    elim (cases_lt x (length needs)) [
      | inl y ↦ y
      | inr le ↦
          let none : count d (waits needs x) ≡ 0 = ap (count d) (get_or_past needs x [] le) in
          absurd (omega (arith, count_before (get_or users d []) k in'))
    ]

left_at_least : (placed : List ℕ) (k : ℕ) (xs : List ℕ) → is_placed placed k ≡ false → count k xs ≤ count_left placed xs
left_at_least placed k xs h = omega (arith, left_more placed k xs h)

pub not_placed : (needs : List (List ℕ)) (placed : List ℕ) (ready : BTreeSet ℕ) → AreReady needs placed ready → (k : ℕ) → has ready k ≡ true → is_placed placed k ≡ false
not_placed needs placed ready h k e =
    let p = and_parts (ltb k (length needs)) (can_go needs placed k) (sym (h k) ∙ e) in
    not-true (is_placed placed k) (and_parts (not (is_placed placed k)) (list_all (is_placed placed) (waits needs k)) p.1).0

-- enough are missing to count down
pub enough : (needs users : List (List ℕ)) (placed missing : List ℕ) (ready : BTreeSet ℕ) (k : ℕ) → AreUsers needs users → IsState needs placed missing ready → has ready k ≡ true
    → (i : ℕ) → count i (get_or users k []) ≤ get_or missing i 0
enough needs users placed missing ready k u s e i =
    let lt = in_range needs placed ready s.ready_are k e in
    let a : count i (get_or users k []) ≡ count k (waits needs i) = u k i lt in
    elim (cases_lt i (length needs)) [
      | inl y ↦ omega (arith, s.missing_are i y, left_at_least placed k (waits needs i) (not_placed needs placed ready s.ready_are k e))
      | inr le ↦
          let none : count k (waits needs i) ≡ 0 = ap (count k) (get_or_past needs i [] le) in
          omega arith
    ]

-- in the set after the step: what was in it before, without k, and those for which the last was counted
after_ready : (r e p : Bool) (old new n : ℕ) → r ≡ (not p && eqb old 0) → new + n ≡ old → (e ≡ true → old ≡ 0) → (p ≡ true → old ≡ 0)
    → (cond e false r || (ltb 0 n && eqb new 0)) ≡ (not (p || e) && eqb new 0)
after_ready r true p old new n h q z w =
    let none : n ≡ 0 = omega (arith, z refl) in
    rw (le-ltb 0 n (omega arith)) (turned p (eqb new 0))
  where
    turned : (p b : Bool) → false ≡ (not (p || true) && b)
    turned true b = refl
    turned false b = refl
after_ready r false true old new n h q z w =
    let none : n ≡ 0 = omega (arith, w refl) in
    rw (le-ltb 0 n (omega arith)) (rw h refl)
after_ready r false false old new n h q z w =
    elim (cases_eq new 0) [
      | inl e ↦ (elim (cases_eq n 0) [
        | inl f ↦ rw (h, eq-eqb old 0 (omega arith), eq-eqb new 0 e) refl
        | inr f ↦ rw (h, ne_eqb old 0 (omega arith), eq-eqb new 0 e, lt-ltb 0 n (omega arith)) refl
      ])
      | inr ne ↦ rw (h, ne_eqb old 0 (omega arith), ne_eqb new 0 ne) (and_right (ltb 0 n) false refl)
    ]

pub step_state : (needs users : List (List ℕ)) (placed old new : List ℕ) (ready popped after : BTreeSet ℕ) (k : ℕ) → AreUsers needs users → IsState needs placed old ready → has ready k ≡ true
    → ((q : ℕ) → has popped q ≡ cond (is_eq (nat_cmp k q)) false (has ready q))
    → ((i : ℕ) → get_or new i 0 + count i (get_or users k []) ≡ get_or old i 0)
    → ((i : ℕ) → has after i ≡ (has popped i || (ltb 0 (count i (get_or users k [])) && eqb (get_or new i 0) 0)))
    → IsState needs (placed ++ k ∷ []) new after
step_state needs users placed old new ready popped after k u s e pop missing got =
    let lt = in_range needs placed ready s.ready_are k e in
    let fresh = not_placed needs placed ready s.ready_are k e in
    let go = λ (i : ℕ) (h : i < length needs). let m : can_go needs placed i ≡ (not (is_placed placed i) && eqb (get_or old i 0) 0) = ap (λ (b : Bool). not (is_placed placed i) && b) (all_placed placed (waits needs i) ∙ ap (λ n. eqb n 0) (sym (s.missing_are i h))) in m in
    let here : get_or old k 0 ≡ 0 = eqb-true (get_or old k 0) 0 (and_parts (not (is_placed placed k)) (eqb (get_or old k 0) 0) (sym (go k lt) ∙ goes needs placed ready s.ready_are k lt ∙ e)).1 in
    let left : (i : ℕ) → i < length needs → get_or new i 0 ≡ count_left (placed ++ k ∷ []) (waits needs i) = λ i h. omega (arith, missing i, u k i lt, s.missing_are i h, left_more placed k (waits needs i) fresh) in
    record {
      missing_are = left;
      settled = λ i h p. elim (cases_eq k i) [
        | inl same ↦ (let z : get_or old i 0 ≡ 0 = ap (λ j. get_or old j 0) (sym same) ∙ here in omega (arith, missing i))
        | inr ne ↦
            (let was : is_placed placed i ≡ true = sym (or-false (is_placed placed i)) ∙ ap (λ (b : Bool). is_placed placed i || b) (sym (ne_eqb k i ne)) ∙ sym (placed_more placed k i) ∙ p in
            omega (arith, missing i, s.settled i h was))
      ];
      ready_are = λ i. elim (cases_lt i (length needs)) [
        | inl h ↦
            got i ∙ ap (λ (b : Bool). b || (ltb 0 (count i (get_or users k [])) && eqb (get_or new i 0) 0)) (pop i ∙ ap (λ (b : Bool). cond b false (has ready i)) (at_is k i))
            ∙ after_ready (has ready i) (eqb k i) (is_placed placed i) (get_or old i 0) (get_or new i 0) (count i (get_or users k [])) (sym (goes needs placed ready s.ready_are i h) ∙ go i h) (missing i)
            (λ t. ap (λ j. get_or old j 0) (sym (eqb-true k i t)) ∙ here) (λ t. s.settled i h t)
            ∙ ap (λ (b : Bool). not b && eqb (get_or new i 0) 0) (sym (placed_more placed k i))
            ∙ ap (λ (b : Bool). not (is_placed (placed ++ k ∷ []) i) && b) (ap (λ n. eqb n 0) (left i h) ∙ sym (all_placed (placed ++ k ∷ []) (waits needs i)))
            ∙ ap (λ (b : Bool). b && can_go needs (placed ++ k ∷ []) i) (sym (lt-ltb i (length needs) h))
        | inr le ↦
            (let none : count i (get_or users k []) ≡ 0 = u k i lt ∙ ap (count k) (get_or_past needs i [] le) in
            let was : has ready i ≡ false = s.ready_are i ∙ ap (λ (b : Bool). b && can_go needs placed i) (le-ltb i (length needs) le) in
            got i ∙ rw (le-ltb 0 (count i (get_or users k [])) (omega arith), pop i, was, le-ltb i (length needs) le) (off (is_eq (nat_cmp k i))))
      ];
    }
  where
    off : (b : Bool) → (cond b false false || false) ≡ false
    off true = refl
    off false = refl

pub place_done : (needs : List (List ℕ)) (placed : List ℕ) → place needs 0 placed ≡ placed
unfolding place
place_done needs placed = refl

-- ---- the start

all_left : (xs : List ℕ) → count_left [] xs ≡ length xs
all_left [] = refl
all_left (x ∷ xs) =
    let old : ℕ → ℕ = λ y. cond (not (is_placed [] y)) 1 0 in
    let a : sum_by old (x ∷ xs) ≡ 1 + sum_by old xs = sum_by-cons old x xs in
    let r : sum_by old xs ≡ length xs = all_left xs in
    omega arith

pub start_state : (needs : List (List ℕ)) (placed missing : List ℕ) (ready : BTreeSet ℕ) → placed ≡ [] → missing ≡ map length needs → ((i : ℕ) → has ready i ≡ (ltb i (length missing) && eqb (get_or missing i 0) 0)) → IsState needs placed missing ready
start_state needs placed missing ready p m h =
    let at : (i : ℕ) → i < length needs → get_or missing i 0 ≡ length (waits needs i) = λ i lt. ap (λ (xs : List ℕ). get_or xs i 0) m ∙ get_or-map length needs i [] 0 lt in
    let made : IsState needs [] missing ready = record {
      missing_are = λ i lt. at i lt ∙ sym (all_left (waits needs i));
      settled = λ i lt e. absurd (false≢true e);
      ready_are = λ i.
          let size : length missing ≡ length needs = ap length m ∙ length-map needs length in
          h i ∙ ap (λ (n : ℕ). ltb i n && eqb (get_or missing i 0) 0) size ∙ elim (cases_lt i (length needs)) [
            | inl lt ↦ ap (λ (b : Bool). ltb i (length needs) && b) (ap (λ n. eqb n 0) (at i lt ∙ sym (all_left (waits needs i))) ∙ sym (all_placed [] (waits needs i)))
            | inr le ↦ ap (λ (b : Bool). b && eqb (get_or missing i 0) 0) (le-ltb i (length needs) le) ∙ sym (ap (λ (b : Bool). b && can_go needs [] i) (le-ltb i (length needs) le))
          ];
    } in
    subst (λ (ps : List ℕ). IsState needs ps missing ready) (sym p) made
