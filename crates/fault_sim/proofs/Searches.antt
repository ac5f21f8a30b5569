-- The search for the first point: one pass more, one fault more, and all of them.
use Rattle.std.proofs.Common.{◌≡◌, ◌≢◌, ℕ, zero, suc, ◌+◌, ◌-◌, ◌<◌, ◌≤◌, false, inl, inr, List, [], ◌∷◌, ◌++◌, length, set, refl, sym, ap, ◌∙◌, subst, arith}
use Rattle.std.specs.Prelude.{◌↔◌, Option, Some, None, slice_get, slice_index}
use Rattle.std.specs.List.{AllZip}
use Rattle.std.specs.Option.{option_map}
use Rattle.std.proofs.lemmas.Bool.{false≢true, cases_eq, cases_lt}
use Rattle.ae_base.specs.Mask.{Set, has}
use Rattle.ae_net.specs.declared.net.Fault.{Fault}
use Rattle.ae_net.specs.Detects.{Detects}
use Rattle.ae_net.specs.Network.{Network}
use Rattle.ae_net.specs.Out.{Differs}
use Rattle.fault_sim.specs.Answers.{IsFirstTelling}
use Rattle.fault_sim.specs.declared.words.TheConstants.{LANES}
use Rattle.fault_sim.specs.Lanes.{AreFirstBelow, AreNone, IsFirstBelow, IsFirstLane, IsPass, Tells}

pub some_is : {X : Type 0} (x y : X) → Some x ≡ Some y → x ≡ y
some_is x y e = cc

-- ---- one fault in one pass

pub found-stays : (n : Network) (points : List Set) (b c : ℕ) (fault : Fault) (i : ℕ) → b ≤ c → IsFirstBelow n points b fault (Some i) → IsFirstBelow n points c fault (Some i)
found-stays n points b c fault i more first = (omega (arith, more, first.0), first.1, first.2)

pub first-found : (n : Network) (points : List Set) (base count : ℕ) (fault : Fault) (good : List ℕ) (told : ℕ) (lane : Option ℕ) → count ≤ LANES → Tells n (λ l. Some fault) good told → IsFirstLane told count lane → IsPass n points base count good → IsFirstBelow n points base fault None
    → IsFirstBelow n points (base + count) fault (option_map (λ l. base + l) lane)
first-found n points base count fault good told lane few tells first pass before = by_lane lane first
  where
    -- a place of the pass
    here : (k : ℕ) → base ≤ k → k < base + count → has told (k - base) ≡ false → Differs n fault (slice_index points k) → ⊥
    here k from to unset differs =
        let e : base + (k - base) ≡ k = omega (arith, from) in
        false≢true (sym unset ∙ (tells (k - base) (slice_index points (base + (k - base))) (omega (arith, from, to, few)) (pass (k - base) (omega (arith, from, to)))).1 (subst (λ m. Differs n fault (slice_index points m)) (sym e) differs))

    by_lane : (lane : Option ℕ) → IsFirstLane told count lane → IsFirstBelow n points (base + count) fault (option_map (λ l. base + l) lane)
    by_lane None none = λ k to. elim (cases_lt k base) [ inl earlier ↦ before k earlier | inr from ↦ here k from to (none (k - base) (omega (arith, from, to))) ]
    by_lane (Some l) some = (
      omega (arith, some.0),
      (tells l (slice_index points (base + l)) (omega (arith, some.0, few)) (pass l some.0)).0 some.1,
      λ k to. elim (cases_lt k base) [ inl earlier ↦ before k earlier | inr from ↦ here k from (omega (arith, to, some.0)) (some.2 (k - base) (omega (arith, from, to))) ],
    )

-- ---- one fault more

slice_get-set_same : {X : Type 0} (xs : List X) (i : ℕ) (y z : X) → slice_get (set xs i y) i ≡ Some z → y ≡ z
slice_get-set_same [] i y z h = absurd (let s : ⊥ = cc in s)
slice_get-set_same (x ∷ xs) zero y z h = some_is y z h
slice_get-set_same (x ∷ xs) (suc i) y z h = slice_get-set_same xs i y z h

pub slice_get-set_other : {X : Type 0} (xs : List X) (i j : ℕ) (y : X) → j ≢ i → slice_get (set xs i y) j ≡ slice_get xs j
slice_get-set_other [] i j y ne = refl
slice_get-set_other (x ∷ xs) zero zero y ne = absurd (ne refl)
slice_get-set_other (x ∷ xs) zero (suc j) y ne = refl
slice_get-set_other (x ∷ xs) (suc i) zero y ne = refl
slice_get-set_other (x ∷ xs) (suc i) (suc j) y ne = slice_get-set_other xs i j y (λ e. ne (ap suc e))

pub more-found : (n : Network) (points : List Set) (b : ℕ) (list : List Fault) (found : List (Option ℕ)) (k : ℕ) (fault : Fault) (first : Option ℕ) → slice_get list k ≡ Some fault → IsFirstBelow n points b fault first → AreFirstBelow n points b list found 0 k → AreFirstBelow n points b list (set found k first) 0 (k + 1)
more-found n points b list found k fault first there is before j f g from to at found_at =
    elim (cases_eq j k) [
      | inl e ↦
          let same_fault : fault ≡ f = some_is fault f (sym there ∙ ap (slice_get list) (sym e) ∙ at) in
          let same_first : first ≡ g = slice_get-set_same found k first g (ap (slice_get (set found k first)) (sym e) ∙ found_at) in
          subst (λ f. IsFirstBelow n points b f g) same_fault (subst (IsFirstBelow n points b fault) same_first is)
      | inr ne ↦ before j f g from (omega (arith, to, ne)) at (sym (slice_get-set_other found k j first ne) ∙ found_at)
    ]

pub rest-found : (n : Network) (points : List Set) (b m : ℕ) (list : List Fault) (found : List (Option ℕ)) (k : ℕ) (first : Option ℕ) → AreFirstBelow n points b list found k m → AreFirstBelow n points b list (set found k first) (k + 1) m
rest-found n points b m list found k first before j f g from to at found_at =
    before j f g (omega (arith, from)) to at (sym (slice_get-set_other found k j first (λ e. omega (arith, e, from))) ∙ found_at)

-- ---- no points, and all of them

pub none-found : (n : Network) (points : List Set) (list : List Fault) (found : List (Option ℕ)) (i j : ℕ) → AreNone found → AreFirstBelow n points 0 list found i j
none-found n points list found i j none k fault first from to at found_at = subst (IsFirstBelow n points 0 fault) (sym (none k first found_at)) (λ l h. absurd (omega (arith, h)))

-- one more at the end of which nothing is found
pub none-more : (found : List (Option ℕ)) → AreNone found → AreNone (found ++ None ∷ [])
none-more [] none zero first at = sym (some_is None first at)
none-more [] none (suc k) first at = absurd (let s : ⊥ = cc in s)
none-more (f ∷ found) none zero first at = none 0 first at
none-more (f ∷ found) none (suc k) first at = none-more found (λ j g h. none (suc j) g h) k first at

first-telling : (n : Network) (points : List Set) (fault : Fault) (found : Option ℕ) → ((x : Set) → Detects n fault x ↔ Differs n fault x) → IsFirstBelow n points (length points) fault found → IsFirstTelling n points fault found
first-telling n points fault None law none = λ k h d. none k h ((law (slice_index points k)).0 d)
first-telling n points fault (Some i) law some = record {
  is_place = some.0;
  detects = (law (slice_index points i)).1 some.1;
  earlier = λ k h d. some.2 k h ((law (slice_index points k)).0 d);
}

zipped : (R : Fault → Option ℕ → Type 0) (list : List Fault) (found : List (Option ℕ)) → length found ≡ length list → ((k : ℕ) (fault : Fault) (first : Option ℕ) → k < length list → slice_get list k ≡ Some fault → slice_get found k ≡ Some first → R fault first) → AllZip R list found
zipped R [] [] e h = tt
zipped R [] (f ∷ found) e h = absurd (omega (arith, e))
zipped R (g ∷ list) [] e h = absurd (omega (arith, e))
zipped R (g ∷ list) (f ∷ found) e h = (h 0 g f (omega arith) refl refl, zipped R list found (omega (arith, e)) (λ k fault first l. h (suc k) fault first (omega (arith, l))))

pub all-found : (n : Network) (points : List Set) (list : List Fault) (found : List (Option ℕ)) → ((fault : Fault) (x : Set) → Detects n fault x ↔ Differs n fault x) → length found ≡ length list → AreFirstBelow n points (length points) list found 0 (length list) → AllZip (IsFirstTelling n points) list found
all-found n points list found law e first = zipped (IsFirstTelling n points) list found e (λ k fault f l at found_at. first-telling n points fault f (law fault) (first k fault f (omega arith) l at found_at))
