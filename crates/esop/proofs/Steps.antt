-- A rewriting step: it keeps the value and the order, adds no cube, and lowers a measure.
use Rattle.std.proofs.Common.{◌≡◌, ◌<◌, ◌≤◌, ◌+◌, ◌*◌, ◌∙◌, ℕ, Bool, true, false, cond, ltb, ◌||◌, List, [], ◌∷◌, length, refl, sym, ap, subst, arith, inl, inr, eqb, eqb-true, lt-ltb, ◌≢◌, ◌⊎◌, zero, suc, get_or, ne_eqb, Equal, Greater, Less, ◌-◌}
use Rattle.std.specs.Prelude.{Option, Some, None, find, is_some, option_map, option_and_then, remove, unwrap_or, AllPairs}
use Rattle.std.specs.List.{AllByRecursion, list_any}
use Rattle.std.specs.List.Sorted.{IsSorted}
use Rattle.std.specs.Option.{option_or}
use Rattle.std.proofs.lemmas.Bool.{le-ltb, or_cases, or_left, or_right, false≢true, ltb-false, cases_Bool, cases_eq, or_parts}
use Rattle.std.proofs.lemmas.Bool.Decides.{nat_tests}
use Rattle.std.proofs.lemmas.Option.{none-some, same_Some}
use Rattle.ae_base.specs.Mask.{Set, differ}
use Rattle.ae_base.specs.Cube.{Product, IsOver, holds, distance, whole, IsProduct}
use Rattle.ae_base.specs.Text.{cmp_text}
use Rattle.ae_base.proofs.Truth.{differ-same, differ-assoc, differ-false}
use Rattle.esop.specs.Esop.{esop_value}
use Rattle.esop.specs.Links.{Link, links, merge}
use Rattle.esop.specs.Order.{placed}
use Rattle.esop.specs.Rewriting.{pairs, first_at, is_near, useful_link, cancelled, merged, linked, next_list, rewrite_step, steps, rewritten}
use Rattle.esop.specs.Settled.{cube_at, others, IsFar, IsSettled}
use Rattle.esop.proofs.Placed.{close, close_at, not_close, close-placed, any-placed, length-placed, each_placed, sorted_placed, sorted_removed, length-removed, each_at, each_other, length-others, value-others, value-placed, NotBefore, all_pairs, value-none, value-cons}
use Rattle.esop.proofs.Places.{pair_found, no_pair, pair_none, from_first}
use Rattle.esop.proofs.Thirds.{IsLink, are_links, distance_none, merged_value, merged_over, distance_itself}
use Rattle.std.proofs.lemmas.List.{nil_from_length, get_or_default}
use Rattle.std.proofs.lemmas.List.Elements.{All-from_recursion, recursion_from_All, All-weaker}
use Rattle.ae_base.specs.declared.limits.TheConstants.{WIDTH}
use Rattle.esop.specs.Search.{IsOrdered, IsTaken, first_pair, is_sought}
use Rattle.std.proofs.lemmas.List.Folds.{list_any_none}
use Rattle.ae_base.proofs.Results.{or_none}
use Rattle.ae_base.proofs.Distinct.{each_weaker}
use Rattle.std.specs.Ordering.{is_lt, ordering_reverse}
use Rattle.std.specs.declared.cmp.Ordering.{Ordering}
use Rattle.ae_base.proofs.Texts.{cmp_text_total, cmp_text-equal}
use Rattle.esop.specs.declared.pairs.Sought.TheVariants.{Adjacent, Linked}

-- ---- what was found

map_some : {A B : Type 0} (P : Type 0) (f : A → B) (o : Option A) (y : B) → option_map f o ≡ Some y → ((a : A) → o ≡ Some a → f a ≡ y → P) → P
map_some P f None y h k = absurd (none-some y h)
map_some P f (Some a) y h k = k a refl (cc h)

pub map_none : {A B : Type 0} (f : A → B) (o : Option A) → option_map f o ≡ None → o ≡ None
map_none f None h = refl
map_none f (Some a) h = absurd (none-some (f a) (sym h))

-- the first element that passes is of the list, and passes
find_each : {A : Type 0} (q : A → Bool) (P : A → Type 0) (xs : List A) (x : A) → AllByRecursion P xs → find q xs ≡ Some x → P x × (q x ≡ true)
find_each q P [] x h e = absurd (none-some x e)
find_each q P (y ∷ ys) x (h, hs) e = elim (cases_Bool (q y)) [ inl p ↦ let same : y ≡ x = same_Some y x (rw p at e) in (subst P same h, ap q (sym same) ∙ p) | inr p ↦ find_each q P ys x hs (rw p at e) ]

-- the test by which pairs at a distance are found
abbrev pub at_distance : ℕ → List Product → ℕ × ℕ → Bool
at_distance k cs p = eqb (distance (cube_at cs p.0) (cube_at cs p.1)) k

-- a pair of places
pub record IsPair (cs : List Product) (p : ℕ × ℕ) : Type 0 where
  pub order : p.0 < p.1
  pub within : p.1 < length cs

and_then_some : {A B : Type 0} (P : Type 0) (f : A → Option B) (o : Option A) (y : B) → option_and_then f o ≡ Some y → ((a : A) → o ≡ Some a → f a ≡ Some y → P) → P
and_then_some P f None y h k = absurd (none-some y h)
and_then_some P f (Some a) y h k = k a refl h

-- the list that a link gives
abbrev pub relinked : List Product → ℕ × ℕ → Link → List Product
relinked cs p l = placed l.first (placed l.second (others cs p.0 p.1))

-- ---- what is kept

-- cubes of n inputs, in order
pub record Proper (n : ℕ) (cs : List Product) : Type 0 where
  pub over : AllByRecursion (IsOver n) cs
  pub order : IsSorted cmp_text cs

-- the second list is as proper, has the same value, and no more cubes
pub record Keeps (n : ℕ) (cs ds : List Product) : Type 0 where
  pub proper : Proper n ds
  pub value : (x : Set) → esop_value ds x ≡ esop_value cs x
  pub length : length ds ≤ length cs

pub keeps_itself : (n : ℕ) (cs : List Product) → Proper n cs → Keeps n cs cs
keeps_itself n cs h = record { proper = h; value = λ x. refl; length = omega arith }

module _ (n : ℕ) (cs : List Product) (h : Proper n cs) (p : ℕ × ℕ) (pair : IsPair cs p) where
  over_at : (i : ℕ) → i < length cs → IsOver n (cube_at cs i)
  over_at i l = each_at (IsOver n) cs i whole h.over l

  pub over_first : IsOver n (cube_at cs p.0)
  over_first = over_at p.0 (omega (arith, pair.order, pair.within))

  pub over_second : IsOver n (cube_at cs p.1)
  over_second = over_at p.1 pair.within

  pub proper_others : Proper n (others cs p.0 p.1)
  proper_others = record {
    over = each_other cs p.0 p.1 pair.order pair.within (IsOver n) h.over;
    order = sorted_removed (remove cs p.1) p.0 (omega (arith, length-removed cs p.1 pair.within, pair.order, pair.within)) (sorted_removed cs p.1 pair.within h.order);
  }

-- ---- cubes in place of a pair

abbrev pub all_placed : List Product → List Product → List Product
all_placed [] ds = ds
all_placed (c ∷ cs) ds = placed c (all_placed cs ds)

-- the list with these cubes in place of those of a pair, which have the same EXOR
pub record Replaces (cs news ds : List Product) : Type 0 where
  pub pair : ℕ × ℕ
  pub is_pair : IsPair cs pair
  pub is : ds ≡ all_placed news (others cs pair.0 pair.1)
  pub value : (x : Set) → IsProduct (cube_at cs pair.0) → IsProduct (cube_at cs pair.1) → esop_value news x ≡ differ (holds (cube_at cs pair.0) x) (holds (cube_at cs pair.1) x)
  pub over : (n : ℕ) → IsOver n (cube_at cs pair.0) → IsOver n (cube_at cs pair.1) → AllByRecursion (IsOver n) news

proper_all : (n : ℕ) (news ds : List Product) → AllByRecursion (IsOver n) news → Proper n ds → Proper n (all_placed news ds)
proper_all n [] ds h k = k
proper_all n (c ∷ cs) ds (h, hs) k =
    let r = proper_all n cs ds hs k in
    record { over = each_placed (IsOver n) c (all_placed cs ds) h r.over; order = sorted_placed c (all_placed cs ds) r.order }

value-all : (news ds : List Product) (x : Set) → esop_value (all_placed news ds) x ≡ differ (esop_value news x) (esop_value ds x)
value-all [] ds x = sym (ap (λ b. differ b (esop_value ds x)) (value-none x))
value-all (c ∷ cs) ds x =
    value-placed c (all_placed cs ds) x ∙ ap (differ (holds c x)) (value-all cs ds x)
    ∙ sym (differ-assoc (holds c x) (esop_value cs x) (esop_value ds x)) ∙ ap (λ b. differ b (esop_value ds x)) (sym (value-cons c cs x))

length-all : (news ds : List Product) → length (all_placed news ds) ≡ length news + length ds
length-all [] ds = omega arith
length-all (c ∷ cs) ds = omega (arith, length-placed c (all_placed cs ds), length-all cs ds)

pub replaced_length : (cs news ds : List Product) → Replaces cs news ds → length ds + 2 ≡ length cs + length news
replaced_length cs news ds r = omega (arith, ap length r.is, length-all news (others cs r.pair.0 r.pair.1), length-others cs r.pair.0 r.pair.1 r.is_pair.order r.is_pair.within)

pub replaced_keeps : (n : ℕ) (cs news ds : List Product) → length news ≤ 2 → Proper n cs → Replaces cs news ds → Keeps n cs ds
replaced_keeps n cs news ds few h r =
    let rest = others cs r.pair.0 r.pair.1 in
    let first = over_first n cs h r.pair r.is_pair in
    let second = over_second n cs h r.pair r.is_pair in
    record {
      proper = rw r.is (proper_all n news rest (r.over n first second) (proper_others n cs h r.pair r.is_pair));
      value = λ x. ap (λ (es : List Product). esop_value es x) r.is ∙ value-all news rest x ∙ ap (λ b. differ b (esop_value rest x)) (r.value x first.0 second.0) ∙ sym (value-others cs r.pair.0 r.pair.1 r.is_pair.order r.is_pair.within x);
      length = omega (arith, few, replaced_length cs news ds r);
    }

-- ---- what each kind of step does

pair_close : (cs : List Product) (p : ℕ × ℕ) → IsPair cs p → distance (cube_at cs p.0) (cube_at cs p.1) < 2 → close cs ≡ true
pair_close cs p h l = close_at cs p.0 p.1 h.order h.within (lt-ltb _ _ l)

pub cancelled_is : (cs ds : List Product) → cancelled cs ≡ Some ds → Replaces cs [] ds × (close cs ≡ true)
unfolding cancelled
cancelled_is cs ds h =
    map_some (Replaces cs [] ds × (close cs ≡ true)) (λ p. others cs p.0 p.1) (first_at 0 cs) ds h (λ p found is.
    let at = pair_found (at_distance 0 cs) (length cs) p found in
    let pair : IsPair cs p = record { order = at.order; within = at.within } in
    let none : distance (cube_at cs p.0) (cube_at cs p.1) ≡ 0 = eqb-true _ _ at.passes in
    let same : cube_at cs p.0 ≡ cube_at cs p.1 = distance_none _ _ none in (
      record { pair = p; is_pair = pair; is = sym is; value = λ x a b. value-none x ∙ sym (ap (λ c. differ (holds (cube_at cs p.0) x) (holds c x)) (sym same) ∙ differ-same (holds (cube_at cs p.0) x)); over = λ n a b. tt },
      pair_close cs p pair (omega (arith, none)),
    ))

pub merged_is : (cs ds : List Product) → merged cs ≡ Some ds → (m : Product) × Replaces cs (m ∷ []) ds × (close cs ≡ true)
unfolding merged
merged_is cs ds h =
    map_some ((m : Product) × Replaces cs (m ∷ []) ds × (close cs ≡ true)) (λ p. placed (merge (cube_at cs p.0) (cube_at cs p.1)) (others cs p.0 p.1)) (first_at 1 cs) ds h (λ p found is.
    let at = pair_found (at_distance 1 cs) (length cs) p found in
    let pair : IsPair cs p = record { order = at.order; within = at.within } in
    let one : distance (cube_at cs p.0) (cube_at cs p.1) ≡ 1 = eqb-true _ _ at.passes in
    let m : Product = merge (cube_at cs p.0) (cube_at cs p.1) in (
      m,
      record {
        pair = p;
        is_pair = pair;
        is = sym is;
        value = λ x a b. value-cons m [] x ∙ ap (differ (holds m x)) (value-none x) ∙ differ-false (holds m x) ∙ merged_value _ _ x a b one;
        over = λ n a b. (merged_over n _ _ a b one, tt);
      },
      pair_close cs p pair (omega (arith, one)),
    ))

-- after a useful link two cubes are close
linked_close : (a b : Product) (rest : List Product) → (is_near rest a || is_near rest b) ≡ true → close (placed a (placed b rest)) ≡ true
linked_close a b rest useful =
    close-placed a (placed b rest)
    ∙ elim (or_cases (is_near rest a) (is_near rest b) useful) [
      | inl h ↦ or_left _ _ (any-placed (λ d. ltb (distance a d) 2) b rest ∙ or_right _ _ h)
      | inr h ↦ or_right (is_near (placed b rest) a) _ (close-placed b rest ∙ or_left _ _ h)
    ]

pub linked_is : (cs ds : List Product) → linked cs ≡ Some ds → (l : Link) × Replaces cs (l.first ∷ l.second ∷ []) ds × (close ds ≡ true)
unfolding linked
linked_is cs ds h =
    and_then_some ((l : Link) × Replaces cs (l.first ∷ l.second ∷ []) ds × (close ds ≡ true)) (λ p. option_map (relinked cs p) (useful_link cs p)) (find (λ p. is_some (useful_link cs p)) (pairs (length cs))) ds h (λ p found made.
    map_some ((l : Link) × Replaces cs (l.first ∷ l.second ∷ []) ds × (close ds ≡ true)) (relinked cs p) (useful_link cs p) ds made (λ l there is.
    let at = pair_found (λ p. is_some (useful_link cs p)) (length cs) p found in
    let rest = others cs p.0 p.1 in
    let link = find_each (λ l. is_near rest l.first || is_near rest l.second) (IsLink (cube_at cs p.0) (cube_at cs p.1)) (links (cube_at cs p.0) (cube_at cs p.1)) l (are_links (cube_at cs p.0) (cube_at cs p.1)) there in (
      l,
      record {
        pair = p;
        is_pair = record { order = at.order; within = at.within };
        is = sym is;
        value = λ x a b. value-cons l.first (l.second ∷ []) x ∙ ap (differ (holds l.first x)) (value-cons l.second [] x ∙ ap (differ (holds l.second x)) (value-none x) ∙ differ-false (holds l.second x)) ∙ link.0.value x a b;
        over = λ n a b. let o = link.0.over n a b in (o.0, (o.1, tt));
      },
      ap close (sym is) ∙ linked_close l.first l.second rest link.1,
    )))

-- ---- the measure

-- twice the number of cubes, and one more where no two are close
abbrev pub measure : List Product → ℕ
measure cs = 2 * length cs + cond (close cs) 0 1

cond_up : (b : Bool) → cond b 0 1 ≤ 1
cond_up true = omega arith
cond_up false = omega arith

pub measure_up : (cs : List Product) → measure cs ≤ 2 * length cs + 1
measure_up cs = omega (arith, cond_up (close cs))

measure_close : (cs : List Product) → close cs ≡ true → measure cs ≡ 2 * length cs
measure_close cs h = rw h (omega arith)

measure_apart : (cs : List Product) → close cs ≡ false → measure cs ≡ 2 * length cs + 1
measure_apart cs h = rw h refl

-- ---- where no pair is at a distance below 2

cancelled_none : (cs : List Product) → cancelled cs ≡ None → (i j : ℕ) → i < j → j < length cs → at_distance 0 cs (i, j) ≡ false
unfolding cancelled
cancelled_none cs h = no_pair (at_distance 0 cs) (length cs) (map_none (λ p. others cs p.0 p.1) (first_at 0 cs) h)

merged_none : (cs : List Product) → merged cs ≡ None → (i j : ℕ) → i < j → j < length cs → at_distance 1 cs (i, j) ≡ false
unfolding merged
merged_none cs h = no_pair (at_distance 1 cs) (length cs) (map_none (λ p. placed (merge (cube_at cs p.0) (cube_at cs p.1)) (others cs p.0 p.1)) (first_at 1 cs) h)

at_least_two : (k : ℕ) → eqb k 0 ≡ false → eqb k 1 ≡ false → 2 ≤ k
at_least_two k h g = grind (arith, nat_tests)

pub all_far : (cs : List Product) → cancelled cs ≡ None → merged cs ≡ None → (i j : ℕ) → i < j → j < length cs → 2 ≤ distance (cube_at cs i) (cube_at cs j)
all_far cs h g i j order within = at_least_two _ (cancelled_none cs h i j order within) (merged_none cs g i j order within)

pub none_close : (cs : List Product) → cancelled cs ≡ None → merged cs ≡ None → close cs ≡ false
none_close cs h g = not_close cs (λ i j order within. le-ltb _ _ (all_far cs h g i j order within))

-- ---- a step lowers the measure

-- a step that applies keeps what is to be kept, and removes a cube, or makes two cubes close where none were
pub record IsStep (cs ds : List Product) : Type 0 where
  pub keeps : (n : ℕ) → Proper n cs → Keeps n cs ds
  pub how : ((close cs ≡ true) × (length ds < length cs)) ⊎ ((close cs ≡ false) × (close ds ≡ true) × (length ds ≡ length cs))

pub is_step : (cs ds : List Product) → next_list cs ≡ Some ds → IsStep cs ds
is_step cs ds h = by_cancelled (cancelled cs) refl h
  where
    by_merged : (o : Option (List Product)) → cancelled cs ≡ None → merged cs ≡ o → option_or o (linked cs) ≡ Some ds → IsStep cs ds
    by_merged (Some es) e f g = let r = merged_is cs ds (f ∙ g) in record { keeps = λ n h. replaced_keeps n cs _ ds (omega arith) h r.1; how = inl (r.2, omega (arith, replaced_length cs _ ds r.1)) }
    by_merged None e f g = let r = linked_is cs ds g in record { keeps = λ n h. replaced_keeps n cs _ ds (omega arith) h r.1; how = inr (none_close cs e f, r.2, omega (arith, replaced_length cs _ ds r.1)) }

    by_cancelled : (o : Option (List Product)) → cancelled cs ≡ o → option_or o (option_or (merged cs) (linked cs)) ≡ Some ds → IsStep cs ds
    by_cancelled (Some es) e g = let r = cancelled_is cs ds (e ∙ g) in record { keeps = λ n h. replaced_keeps n cs [] ds (omega arith) h r.0; how = inl (r.1, omega (arith, replaced_length cs [] ds r.0)) }
    by_cancelled None e g = by_merged (merged cs) e refl g

pub falls : (cs ds : List Product) → IsStep cs ds → measure ds < measure cs
falls cs ds s = elim s.how [ inl h ↦ omega (arith, measure_up ds, measure_close cs h.0, h.1) | inr h ↦ omega (arith, measure_close ds h.1, measure_apart cs h.0, h.2) ]

-- ---- Rewriting ends: twice as many steps as there are cubes settle a list.

-- ---- what a step is

pub step_as : (cs : List Product) (o : Option (List Product)) → next_list cs ≡ o → rewrite_step cs ≡ unwrap_or o cs
unfolding rewrite_step
step_as cs o h = ap (λ o. unwrap_or o cs) h

next_empty : next_list [] ≡ None
unfolding cancelled merged linked
next_empty = refl

steps_stay : (k : ℕ) (cs : List Product) → next_list cs ≡ None → steps k cs ≡ cs
steps_stay zero cs h = refl
steps_stay (suc k) cs h = ap (steps k) (step_as cs None h) ∙ steps_stay k cs h

-- ---- some list of the chain is settled

run_down : (k : ℕ) (cs : List Product) → (next_list (steps k cs) ≡ None) ⊎ (measure (steps k cs) + k ≤ measure cs)
run_down zero cs = inr (omega arith)
run_down (suc k) cs = by (next_list cs) refl (run_down k (rewrite_step cs))
  where
    by : (o : Option (List Product)) → next_list cs ≡ o → (next_list (steps k (rewrite_step cs)) ≡ None) ⊎ (measure (steps k (rewrite_step cs)) + k ≤ measure (rewrite_step cs))
        → (next_list (steps k (rewrite_step cs)) ≡ None) ⊎ (measure (steps k (rewrite_step cs)) + suc k ≤ measure cs)
    by None e h = let stay : steps k (rewrite_step cs) ≡ cs = ap (steps k) (step_as cs None e) ∙ steps_stay k cs e in inl (ap next_list stay ∙ e)
    by (Some ds) e (inl h) = inl h
    by (Some ds) e (inr h) = let same : measure (rewrite_step cs) ≡ measure ds = ap measure (step_as cs (Some ds) e) in inr (omega (arith, h, same, falls cs ds (is_step cs ds e)))

pub rewritten_ends : (cs : List Product) → next_list (rewritten cs) ≡ None
unfolding rewritten
rewritten_ends cs = by (run_down (2 * length cs) cs)
  where
    by : (next_list (steps (2 * length cs) cs) ≡ None) ⊎ (measure (steps (2 * length cs) cs) + 2 * length cs ≤ measure cs) → next_list (steps (2 * length cs) cs) ≡ None
    by (inl h) = h
    by (inr h) = let last : steps (2 * length cs) cs ≡ [] = nil_from_length _ (omega (arith, h, measure_up cs)) in ap next_list last ∙ next_empty

-- ---- the chain has one end

same_end : (i j : ℕ) (cs : List Product) → next_list (steps i cs) ≡ None → next_list (steps j cs) ≡ None → steps i cs ≡ steps j cs
same_end zero j cs h k = sym (steps_stay j cs h)
same_end (suc i) zero cs h k = steps_stay (suc i) cs k
same_end (suc i) (suc j) cs h k = same_end i j (rewrite_step cs) h k

pub rewritten_stays : (cs : List Product) → next_list cs ≡ None → rewritten cs ≡ cs
unfolding rewritten
rewritten_stays cs h = steps_stay (2 * length cs) cs h

as_steps : (cs : List Product) → rewritten cs ≡ steps (2 * length cs) cs
unfolding rewritten
as_steps cs = refl

-- a step more or less comes to the same
pub rewritten_on : (cs ds : List Product) → next_list cs ≡ Some ds → rewritten ds ≡ rewritten cs
rewritten_on cs ds h =
    let last : rewritten ds ≡ steps (suc (2 * length ds)) cs = as_steps ds ∙ ap (steps (2 * length ds)) (sym (step_as cs (Some ds) h)) in
    last ∙ same_end (suc (2 * length ds)) (2 * length cs) cs (ap next_list (sym last) ∙ rewritten_ends ds) (ap next_list (sym (as_steps cs)) ∙ rewritten_ends cs) ∙ sym (as_steps cs)

-- ---- what is kept

keeps_on : (n : ℕ) (cs ds es : List Product) → Keeps n cs ds → Keeps n ds es → Keeps n cs es
keeps_on n cs ds es h k = record { proper = k.proper; value = λ x. k.value x ∙ h.value x; length = omega (arith, h.length, k.length) }

pub step_keeps : (n : ℕ) (cs : List Product) → Proper n cs → Keeps n cs (rewrite_step cs)
step_keeps n cs h = by (next_list cs) refl
  where
    by : (o : Option (List Product)) → next_list cs ≡ o → Keeps n cs (rewrite_step cs)
    by None e = rw (step_as cs None e) (keeps_itself n cs h)
    by (Some ds) e = rw (step_as cs (Some ds) e) ((is_step cs ds e).keeps n h)

steps_keep : (k n : ℕ) (cs : List Product) → Proper n cs → Keeps n cs (steps k cs)
steps_keep zero n cs h = keeps_itself n cs h
steps_keep (suc k) n cs h = let first = step_keeps n cs h in keeps_on n cs (rewrite_step cs) (steps k (rewrite_step cs)) first (steps_keep k n (rewrite_step cs) first.proper)

pub rewritten_keeps : (n : ℕ) (cs : List Product) → Proper n cs → Keeps n cs (rewritten cs)
unfolding rewritten
rewritten_keeps n cs h = steps_keep (2 * length cs) n cs h

pub ordered_on : (cs ds : List Product) → next_list cs ≡ Some ds → IsOrdered cs → IsOrdered ds
ordered_on cs ds e h =
    let k = ((is_step cs ds e).keeps WIDTH (record { over = recursion_from_All (IsOver WIDTH) cs h.over; order = h.order })).proper in
    record { over = All-from_recursion (IsOver WIDTH) ds k.over; order = k.order }

-- ---- one of two steps removes a cube

close_shortens : (cs : List Product) → close cs ≡ true → length (rewrite_step cs) < length cs
close_shortens cs h = by (next_list cs) refl
  where
    by : (o : Option (List Product)) → next_list cs ≡ o → length (rewrite_step cs) < length cs
    by None e =
        let first = or_none (cancelled cs) (option_or (merged cs) (linked cs)) e in
        absurd (false≢true (sym (none_close cs first.0 (or_none (merged cs) (linked cs) first.1).0) ∙ h))
    by (Some ds) e = elim (is_step cs ds e).how [ inl s ↦ omega (arith, ap length (step_as cs (Some ds) e), s.1) | inr s ↦ absurd (false≢true (sym s.0 ∙ h)) ]

pub one_removes : (cs : List Product) → next_list cs ≢ None → (length (rewrite_step cs) < length cs) ⊎ (length (rewrite_step (rewrite_step cs)) < length cs)
one_removes cs h = by (next_list cs) refl
  where
    by : (o : Option (List Product)) → next_list cs ≡ o → (length (rewrite_step cs) < length cs) ⊎ (length (rewrite_step (rewrite_step cs)) < length cs)
    by None e = absurd (h e)
    by (Some ds) e =
        let same : rewrite_step cs ≡ ds = step_as cs (Some ds) e in
        elim (is_step cs ds e).how [
          | inl s ↦ inl (omega (arith, ap length same, s.1))
          | inr s ↦ inr (omega (arith, close_shortens (rewrite_step cs) (ap close same ∙ s.1), s.2, ap length same))
        ]

-- ---- A list is settled exactly where no step applies.

find_fails : {A : Type 0} (q : A → Bool) (xs : List A) → find q xs ≡ None → AllByRecursion (λ x. q x ≡ false) xs
find_fails q [] h = tt
find_fails q (x ∷ xs) h = elim (cases_Bool (q x)) [ inl e ↦ absurd (none-some x (sym (rw e at h))) | inr e ↦ (e, find_fails q xs (rw e at h)) ]

fails_find : {A : Type 0} (q : A → Bool) (xs : List A) → AllByRecursion (λ x. q x ≡ false) xs → find q xs ≡ None
fails_find q [] h = refl
fails_find q (x ∷ xs) (h, hs) = rw h (fails_find q xs hs)

any_fails : {A : Type 0} (q : A → Bool) (xs : List A) → list_any q xs ≡ false → AllByRecursion (λ x. q x ≡ false) xs
any_fails q [] h = tt
any_fails q (x ∷ xs) h = let parts = or_parts (q x) (list_any q xs) h in (parts.0, any_fails q xs parts.1)

far_from : (ds : List Product) (c : Product) → is_near ds c ≡ false → IsFar ds c
far_from ds c h =
    All-from_recursion (λ d. 2 ≤ distance c d) ds
    (each_weaker (λ d. ltb (distance c d) 2 ≡ false) (λ d. 2 ≤ distance c d) (λ d e. ltb-false _ _ e) ds (any_fails (λ d. ltb (distance c d) 2) ds h))

from_far : (ds : List Product) (c : Product) → IsFar ds c → is_near ds c ≡ false
from_far ds c h = list_any_none (λ d. ltb (distance c d) 2) ds (All-weaker (λ d. 2 ≤ distance c d) (λ d. ltb (distance c d) 2 ≡ false) (λ d l. le-ltb _ _ l) ds h)

-- a link of no use: both cubes are far from all others
abbrev Useless : List Product → Link → Type 0
Useless ds l = IsFar ds l.first × IsFar ds l.second

abbrev uses : List Product → Link → Bool
uses ds l = is_near ds l.first || is_near ds l.second

useless_from : (ds : List Product) (l : Link) → uses ds l ≡ false → Useless ds l
useless_from ds l h = let parts = or_parts _ _ h in (far_from ds l.first parts.0, far_from ds l.second parts.1)

from_useless : (ds : List Product) (l : Link) → Useless ds l → uses ds l ≡ false
from_useless ds l (h, k) = rw (from_far ds l.first h, from_far ds l.second k) refl

no_link : {A : Type 0} (o : Option A) → is_some o ≡ false → o ≡ None
no_link None h = refl
no_link (Some a) h = absurd (false≢true (sym h))

-- no link is found where no pair has a useful one
linked_none : (cs : List Product) → linked cs ≡ None → find (λ p. is_some (useful_link cs p)) (pairs (length cs)) ≡ None
unfolding linked
linked_none cs h = by (find (λ p. is_some (useful_link cs p)) (pairs (length cs))) refl h
  where
    by : (o : Option (ℕ × ℕ)) → find (λ p. is_some (useful_link cs p)) (pairs (length cs)) ≡ o → option_and_then (λ p. option_map (relinked cs p) (useful_link cs p)) o ≡ None → o ≡ None
    by None e f = refl
    by (Some p) e f = absurd (false≢true (sym (ap is_some (map_none (relinked cs p) (useful_link cs p) f)) ∙ (pair_found (λ p. is_some (useful_link cs p)) (length cs) p e).passes))

pub settled_from : (cs : List Product) → next_list cs ≡ None → IsSettled cs
settled_from cs h =
    let first = or_none (cancelled cs) (option_or (merged cs) (linked cs)) h in
    let second = or_none (merged cs) (linked cs) first.1 in
    record {
      far = λ i j d order within.
          rw (get_or_default cs i d whole (omega (arith, order, within)), get_or_default cs j d whole within) (all_far cs first.0 second.0 i j order within);
      unlinked = λ i j order within.
          let ds = others cs i j in
          let ls = links (cube_at cs i) (cube_at cs j) in
          All-from_recursion (Useless ds) ls
          (each_weaker (λ l. uses ds l ≡ false) (Useless ds) (useless_from ds) ls
          (find_fails (uses ds) ls (no_link (useful_link cs (i, j)) (no_pair (λ p. is_some (useful_link cs p)) (length cs) (linked_none cs second.1) i j order within))));
    }

module _ (cs : List Product) (h : IsSettled cs) where
  far_at : (k : ℕ) → k < 2 → (i j : ℕ) → i < j → j < length cs → at_distance k cs (i, j) ≡ false
  far_at k l i j order within = ne_eqb _ k (λ e. absurd (omega (arith, e, l, h.far i j whole order within)))

  none_cancelled : cancelled cs ≡ None
  unfolding cancelled
  none_cancelled = ap (option_map (λ p. others cs p.0 p.1)) (pair_none (at_distance 0 cs) (length cs) (far_at 0 (omega arith)))

  none_merged : merged cs ≡ None
  unfolding merged
  none_merged = ap (option_map (λ p. placed (merge (cube_at cs p.0) (cube_at cs p.1)) (others cs p.0 p.1))) (pair_none (at_distance 1 cs) (length cs) (far_at 1 (omega arith)))

  none_useful : (i j : ℕ) → i < j → j < length cs → is_some (useful_link cs (i, j)) ≡ false
  none_useful i j order within =
      let ds = others cs i j in
      let ls = links (cube_at cs i) (cube_at cs j) in
      ap is_some (fails_find (uses ds) ls (each_weaker (Useless ds) (λ l. uses ds l ≡ false) (from_useless ds) ls (recursion_from_All (Useless ds) ls (h.unlinked i j order within))))

  none_linked : linked cs ≡ None
  unfolding linked
  none_linked = ap (option_and_then (λ p. option_map (relinked cs p) (useful_link cs p))) (pair_none (λ p. is_some (useful_link cs p)) (length cs) none_useful)

  pub from_settled : next_list cs ≡ None
  from_settled = rw (none_cancelled, none_merged) none_linked

-- two equal cubes at different places have distance 0
pub settled_differ : (cs : List Product) → IsSettled cs → AllPairs (λ c d. c ≢ d) cs
settled_differ cs h i j d order within e = absurd (omega (arith, h.far i j d order within, ap (λ c. distance c (get_or cs j d)) e, distance_itself (get_or cs j d)))

-- ---- Equal cubes of an ordered list follow each other.

-- cubes of which neither comes before the other
tied : (c d : Product) → NotBefore c d → NotBefore d c → cmp_text c d ≡ Equal
tied c d h k = by (cmp_text c d) refl
  where
    by : (o : Ordering) → cmp_text c d ≡ o → cmp_text c d ≡ Equal
    by Less e = absurd (false≢true (sym k ∙ ap is_lt e))
    by Equal e = e
    by Greater e = absurd (false≢true (sym h ∙ ap is_lt (cmp_text_total.antisymm d c ∙ ap ordering_reverse e)))

-- no two neighbours of the first n cubes are equal
abbrev pub Differ : List Product → ℕ → Type 0
Differ cs n = (i : ℕ) → suc i < n → at_distance 0 cs (i, suc i) ≡ false

module _ (cs : List Product) (h : IsOrdered cs) where
  ordered_at : (i : ℕ) → i < length cs → IsOver WIDTH (cube_at cs i)
  ordered_at i l = h.over i whole l

  next_equal : (i j : ℕ) → i < j → j < length cs → cube_at cs i ≡ cube_at cs j → cube_at cs i ≡ cube_at cs (suc i)
  next_equal i j order within same =
      elim (cases_eq (suc i) j) [
        | inl e ↦ same ∙ ap (cube_at cs) (sym e)
        | inr ne ↦
            let next : suc i < j = omega (arith, order, ne) in
            cmp_text-equal WIDTH _ _ (omega arith) (ordered_at i (omega (arith, order, within))) (ordered_at (suc i) (omega (arith, next, within)))
            (tied _ _ (all_pairs cs h.order i (suc i) whole (omega arith) (omega (arith, next, within)))
            (subst (NotBefore (cube_at cs (suc i))) (sym same) (all_pairs cs h.order (suc i) j whole next within)))
      ]

  -- where the next cube is another, all later ones are
  later_differ : (i j : ℕ) → i < j → j < length cs → at_distance 0 cs (i, suc i) ≡ false → at_distance 0 cs (i, j) ≡ false
  later_differ i j order within next =
      elim (cases_Bool (at_distance 0 cs (i, j))) [
        | inl e ↦
            let same : cube_at cs i ≡ cube_at cs j = distance_none _ _ (eqb-true _ _ e) in
            sym (ap (λ c. eqb (distance (cube_at cs i) c) 0) (sym (next_equal i j order within same) ∙ same)) ∙ next
        | inr e ↦ e
      ]

  pub equal_here : (j : ℕ) → 1 ≤ j → j < length cs → Differ cs j → at_distance 0 cs (j - 1, j) ≡ true → first_at 0 cs ≡ Some (j - 1, j)
  equal_here j low within before here =
      from_first (at_distance 0 cs) (length cs) (j - 1, j) (record {
        order = omega (arith, low);
        within = within;
        passes = here;
        before = λ i k order high earlier. later_differ i k order high (before i (below i k order earlier));
      })
    where
      below : (i k : ℕ) → i < k → (i < j - 1) ⊎ ((i ≡ j - 1) × (k < j)) → suc i < j
      below i k order (inl l) = omega (arith, l)
      below i k order (inr e) = absurd (omega (arith, order, e.0, e.1))

  pub equal_nowhere : Differ cs (length cs) → first_at 0 cs ≡ None
  equal_nowhere none = pair_none (at_distance 0 cs) (length cs) (λ i j order within. later_differ i j order within (none i (omega (arith, order, within))))

-- ---- Whether a step applies, by the first pair that is found.

pub taken_none : (next : Option (List Product)) (before after : List Product) → next ≡ None → after ≡ before → IsTaken next before after false
taken_none next before after h e = (sym (ap is_some h), e ∙ sym (ap (λ o. unwrap_or o before) h))

pub taken_some : (next : Option (List Product)) (before after ds : List Product) → next ≡ Some ds → after ≡ ds → IsTaken next before after true
taken_some next before after ds h e = (sym (ap is_some h), e ∙ sym (ap (λ o. unwrap_or o before) h))

module _ (cs : List Product) where
  pub equal_as : (o : Option (ℕ × ℕ)) → first_at 0 cs ≡ o → cancelled cs ≡ option_map (λ p. others cs p.0 p.1) o
  unfolding cancelled
  equal_as o h = ap (option_map (λ p. others cs p.0 p.1)) h

  -- the list that a merge gives
  abbrev pub remade : ℕ × ℕ → List Product
  remade p = placed (merge (cube_at cs p.0) (cube_at cs p.1)) (others cs p.0 p.1)

  pub adjacent_as : (o : Option (ℕ × ℕ)) → first_pair Adjacent cs ≡ o → merged cs ≡ option_map remade o
  unfolding merged first_pair
  adjacent_as o h = ap (option_map remade) h

  pub adjacent_distance : (p : ℕ × ℕ) → first_pair Adjacent cs ≡ Some p → is_sought Adjacent cs p ≡ true
  unfolding first_pair
  adjacent_distance p h = (pair_found (is_sought Adjacent cs) (length cs) p h).passes

  pub no_linked : first_pair Linked cs ≡ None → linked cs ≡ None
  unfolding linked first_pair
  no_linked h = ap (option_and_then (λ p. option_map (relinked cs p) (useful_link cs p))) h

  pub linked_at : (p : ℕ × ℕ) (l : Link) → first_pair Linked cs ≡ Some p → useful_link cs p ≡ Some l → linked cs ≡ Some (placed l.first (placed l.second (others cs p.0 p.1)))
  unfolding linked first_pair
  linked_at p l h e = ap (option_and_then (λ p. option_map (relinked cs p) (useful_link cs p))) h ∙ ap (option_map (relinked cs p)) e

  -- a pair that is found has a useful link
  pub linked_useful : (p : ℕ × ℕ) → first_pair Linked cs ≡ Some p → is_some (useful_link cs p) ≡ true
  unfolding first_pair
  linked_useful p h = (pair_found (is_sought Linked cs) (length cs) p h).passes

-- what a step that applied has done, and one that did not
pub taken_on : (next : Option (List Product)) (before after : List Product) (b : Bool) → IsTaken next before after b → b ≡ true → next ≡ Some after
taken_on None before after b h e = absurd (false≢true (sym h.0 ∙ e))
taken_on (Some ds) before after b h e = ap Some (sym h.1)

pub taken_off : (next : Option (List Product)) (before after : List Product) (b : Bool) → IsTaken next before after b → b ≡ false → (next ≡ None) × (after ≡ before)
taken_off None before after b h e = (refl, h.1)
taken_off (Some ds) before after b h e = absurd (false≢true (sym e ∙ h.0))
