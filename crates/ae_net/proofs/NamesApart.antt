-- No name of a gate stands twice, or is an input's.
use Rattle.std.proofs.Common.{◌≡◌, ◌≢◌, ℕ, zero, suc, ◌+◌, ◌<◌, ◌^◌, false, inl, inr, ◌⊎◌, List, [], ◌∷◌, ◌++◌, map, refl, sym, ap, ◌∙◌, subst, arith}
use Rattle.std.specs.Prelude.{All, sum}
use Rattle.std.specs.List.{AllByRecursion, flat_map}
use Rattle.std.specs.Fmt.{decimal}
use Rattle.std.proofs.lemmas.Fmt.{decimal_injective}
use Rattle.std.proofs.lemmas.List.Elements.{recursion_from_All}
use Rattle.std.proofs.lemmas.List.Sums.{sum_by-cons}
use Rattle.ae_base.proofs.Distinct.{Distinct, Distinct-append, Distinct-map, Distinct-parts, Distinct-from_AllPairs, AllPairs-from_Distinct, each_always, each_weaker, each-append, each_front, each-map}
use Rattle.ae_net.specs.GateNames.{Group, names_in, numbered, names_to_outputs, AreGateNames}
use Rattle.ae_net.specs.Lead.{IsLetter}
use Rattle.ae_net.specs.Names.{is_taken, inner}
use Rattle.ae_net.specs.Valid.{IsDistinct}
use Rattle.ae_net.proofs.InnerNames.{kind, kind-inner, kinds_free, other_kinds, inner_injective, Numbered, later_number, kind-Numbered, Numbered-lower}

-- an element of the list
abbrev pub Among : {X : Type 0} → List X → X → Type 0
Among [] x = ⊥
Among (y ∷ ys) x = (x ≡ y) ⊎ Among ys x

among_all : {X : Type 0} (P : X → Type 0) (xs : List X) → AllByRecursion P xs → (x : X) → Among xs x → P x
among_all P [] h x a = absurd a
among_all P (y ∷ ys) (h, hs) x a = elim a [ inl e ↦ subst P (sym e) h | inr b ↦ among_all P ys hs x b ]

each_both : {X : Type 0} (P Q : X → Type 0) (xs : List X) → AllByRecursion P xs → AllByRecursion Q xs → AllByRecursion (λ x. P x × Q x) xs
each_both P Q [] h k = tt
each_both P Q (x ∷ xs) (h, hs) (k, ks) = ((h, k), each_both P Q xs hs ks)

-- ---- numbers in decimal digits

decimals : (js : List ℕ) → AllByRecursion (λ j. suc j < 2 ^ 64) js → Distinct js → Distinct (map (λ j. decimal (suc j)) js)
decimals [] small apart = tt
decimals (j ∷ js) (low, small) (other, apart) = (
  each-map (λ text. decimal (suc j) ≢ text) (λ i. decimal (suc i)) js
      (each_weaker (λ i. (suc i < 2 ^ 64) × (j ≢ i)) (λ i. decimal (suc j) ≢ decimal (suc i)) (λ i h e. let same : suc j ≡ suc i = decimal_injective (suc j) (suc i) low h.0 e in h.1 (omega (arith, same))) js (each_both _ _ js small other)),
  decimals js small apart,
)

pub decimals_apart : (js : List ℕ) → All (λ j. suc j < 2 ^ 64) js → IsDistinct js → IsDistinct (map (λ j. decimal (suc j)) js)
decimals_apart js small apart = AllPairs-from_Distinct _ (decimals js (recursion_from_All _ js small) (Distinct-from_AllPairs js apart))

-- ---- groups

abbrev letters_of : List Group → List ℕ
letters_of groups = map (λ (group : Group). group.letter) groups

group_names : (k : ℕ) (group : Group) → IsLetter group.letter → Distinct group.texts → AllByRecursion (λ name. kind k name ≡ group.letter) (names_in k group) × Distinct (names_in k group)
group_names k group letter apart = (
  each-map (λ name. kind k name ≡ group.letter) (λ text. inner k (group.letter ∷ text)) group.texts (each_always _ (λ text. kind-inner k group.letter text (λ e. absurd (omega (arith, e, letter.0)))) group.texts),
  Distinct-map (λ text. inner k (group.letter ∷ text)) (λ s t e. let same : group.letter ∷ s ≡ group.letter ∷ t = inner_injective k _ _ e in cc) group.texts apart,
)

-- a name whose kind is one of these letters
abbrev OfKinds : ℕ → List ℕ → List ℕ → Type 0
OfKinds k letters name = Among letters (kind k name)

groups_names : (k : ℕ) (groups : List Group) → AllByRecursion IsLetter (letters_of groups) → Distinct (letters_of groups) → AllByRecursion (λ group. Distinct group.texts) groups
    → AllByRecursion (OfKinds k (letters_of groups)) (flat_map (names_in k) groups) × Distinct (flat_map (names_in k) groups)
groups_names k [] letters other texts = (tt, tt)
groups_names k (g ∷ gs) (letter, letters) (other, others) (text, texts) =
    let here = group_names k g letter text in
    let later = groups_names k gs letters others texts in (
      each-append (OfKinds k (letters_of (g ∷ gs))) (names_in k g) (flat_map (names_in k) gs) (each_weaker (λ name. kind k name ≡ g.letter) (OfKinds k (letters_of (g ∷ gs))) (λ name e. inl e) (names_in k g) here.0)
          (each_weaker (OfKinds k (letters_of gs)) (OfKinds k (letters_of (g ∷ gs))) (λ name a. inr a) (flat_map (names_in k) gs) later.0),
      Distinct-append (λ name. kind k name ≡ g.letter) (OfKinds k (letters_of gs)) (λ x y p a e. among_all (λ l. g.letter ≢ l) (letters_of gs) other (kind k y) a (sym p ∙ ap (kind k) e)) (names_in k g) (flat_map (names_in k) gs) here.0 later.0 here.1 later.1,
    )

-- ---- outputs

-- an inner name of the letter with a number above c, or the name of one of the outputs
abbrev ToOutputs : ℕ → ℕ → ℕ → List (List ℕ) → List ℕ → Type 0
ToOutputs k letter c outs name = Numbered k letter c name ⊎ Among outs name

module _ (k letter : ℕ) (is_letter : IsLetter letter) where
  numbered_kind : (c : ℕ) (name : List ℕ) → Numbered k letter c name → kind k name ≡ letter
  numbered_kind c name h = kind-Numbered k letter c name (λ e. absurd (omega (arith, e, is_letter.0))) h

  -- an output's name before the names that come after it
  end_names : (c : ℕ) (out : List ℕ) (outs tail : List (List ℕ)) → kind k out ≡ 0 → AllByRecursion (λ o. out ≢ o) outs → AllByRecursion (ToOutputs k letter c outs) tail × Distinct tail
      → AllByRecursion (ToOutputs k letter c (out ∷ outs)) (out ∷ tail) × Distinct (out ∷ tail)
  end_names c out outs tail source other (each, apart) = (
    (inr (inl refl), each_weaker (ToOutputs k letter c outs) (ToOutputs k letter c (out ∷ outs)) (λ name a. elim a [ inl n ↦ inl n | inr o ↦ inr (inr o) ]) tail each),
    (
      each_weaker (ToOutputs k letter c outs) (λ name. out ≢ name) (λ name a. elim a [
        | inl n ↦ other_kinds k 0 letter out name source (numbered_kind c name n) (λ e. absurd (omega (arith, e, is_letter.0)))
        | inr o ↦ among_all (λ o. out ≢ o) outs other name o
      ]) tail each,
      apart,
    ),
  )

  -- numbered names before them
  numbered_names : (c n : ℕ) (outs tail : List (List ℕ)) → AllByRecursion (λ o. kind k o ≡ 0) outs → c + n < 2 ^ 64 → AllByRecursion (ToOutputs k letter (c + n) outs) tail × Distinct tail
      → AllByRecursion (ToOutputs k letter c outs) (numbered k letter c n ++ tail) × Distinct (numbered k letter c n ++ tail)
  numbered_names c zero outs tail sources small h = let z : c + 0 ≡ c = omega arith in rw z at h
  numbered_names c (suc n) outs tail sources small h =
      let z : c + suc n ≡ (c + 1) + n = omega arith in
      let y : c + 1 ≡ suc c = omega arith in
      let later = numbered_names (c + 1) n outs tail sources (omega arith) (rw z at h) in
      let here : Numbered k letter c (inner k (letter ∷ decimal (suc c))) = record { number = suc c; above = omega arith; small = omega arith; is = refl } in (
        (inl here, each_weaker (ToOutputs k letter (c + 1) outs) (ToOutputs k letter c outs) (λ name a. elim a [ inl m ↦ inl (Numbered-lower k letter c (c + 1) name (omega arith) m) | inr o ↦ inr o ]) _ later.0),
        (
          each_weaker (ToOutputs k letter (c + 1) outs) _ (λ name a. elim a [
            | inl m ↦ later_number k letter (suc c) name (omega arith) (subst (λ low. Numbered k letter low name) y m)
            | inr o ↦ other_kinds k letter 0 _ name (numbered_kind c _ here) (among_all (λ o. kind k o ≡ 0) outs sources name o) (λ e. absurd (omega (arith, e, is_letter.0)))
          ]) _ later.0,
          later.1,
        ),
      )

  outputs_names : (c : ℕ) (counts : List ℕ) (outs : List (List ℕ)) → AllByRecursion (λ o. kind k o ≡ 0) outs → Distinct outs → c + sum counts < 2 ^ 64
      → AllByRecursion (ToOutputs k letter c outs) (names_to_outputs k letter c counts outs) × Distinct (names_to_outputs k letter c counts outs)
  outputs_names c [] outs sources apart small = (tt, tt)
  outputs_names c (n ∷ counts) [] sources apart small = (tt, tt)
  outputs_names c (n ∷ counts) (out ∷ outs) (source, sources) (other, apart) small =
      let total = sum_by-cons (λ m. m) n counts in
      let later = outputs_names (c + n) counts outs sources apart (omega (arith, small, total)) in
      numbered_names c n (out ∷ outs) (out ∷ names_to_outputs k letter (c + n) counts outs) (source, sources) (omega (arith, small, total)) (end_names (c + n) out outs _ source other later)

-- ---- all names

module _ (k : ℕ) (ins outs names : List (List ℕ)) (free : is_taken (ins ++ outs) k ≡ false) (sources : IsDistinct (ins ++ outs)) (h : AreGateNames k outs names) where
  -- a name that no input has: it has a kind, or is an output's
  abbrev Later : List ℕ → Type 0
  Later name = (0 < kind k name) ⊎ Among outs name

  pub gate_names_apart : IsDistinct (ins ++ names)
  gate_names_apart =
      let letters : AllByRecursion IsLetter (h.letter ∷ letters_of h.groups) = recursion_from_All IsLetter (h.letter ∷ letters_of h.groups) h.letters in
      let other_letters : Distinct (h.letter ∷ letters_of h.groups) = Distinct-from_AllPairs (h.letter ∷ letters_of h.groups) h.other_letters in
      let kinds = each_front (λ name. kind k name ≡ 0) ins outs (kinds_free k (ins ++ outs) free) in
      let parts = Distinct-parts ins outs (Distinct-from_AllPairs _ sources) in
      let inner_names = groups_names k h.groups letters.1 other_letters.1 (each_weaker (λ (group : Group). IsDistinct group.texts) (λ group. Distinct group.texts) (λ group d. Distinct-from_AllPairs group.texts d) h.groups (recursion_from_All (λ (group : Group). IsDistinct group.texts) h.groups h.other_texts)) in
      let to_outputs = outputs_names k h.letter letters.0 0 h.counts outs kinds.1 parts.1 (omega (arith, h.few)) in
      let positive : AllByRecursion (λ l. 0 < l) (letters_of h.groups) = each_weaker IsLetter (λ l. 0 < l) (λ l is. omega (arith, is.0)) (letters_of h.groups) letters.1 in
      let all : Distinct (flat_map (names_in k) h.groups ++ names_to_outputs k h.letter 0 h.counts outs) =
      Distinct-append (OfKinds k (letters_of h.groups)) (ToOutputs k h.letter 0 outs) (λ x y p q e. elim q [
        | inl n ↦ among_all (λ l. h.letter ≢ l) (letters_of h.groups) other_letters.0 (kind k x) p (sym (numbered_kind k h.letter letters.0 0 y n) ∙ ap (kind k) (sym e))
        | inr o ↦ omega (arith, among_all (λ l. 0 < l) (letters_of h.groups) positive (kind k x) p, ap (kind k) e, among_all (λ o. kind k o ≡ 0) outs kinds.1 y o)
      ]) _ _ inner_names.0 to_outputs.0 inner_names.1 to_outputs.1 in
      let later : AllByRecursion Later (flat_map (names_in k) h.groups ++ names_to_outputs k h.letter 0 h.counts outs) =
      each-append Later _ _ (each_weaker (OfKinds k (letters_of h.groups)) Later (λ name a. inl (among_all (λ l. 0 < l) (letters_of h.groups) positive (kind k name) a)) _ inner_names.0)
      (each_weaker (ToOutputs k h.letter 0 outs) Later (λ name a. elim a [ inl n ↦ inl (omega (arith, numbered_kind k h.letter letters.0 0 name n, letters.0.0)) | inr o ↦ inr o ]) _ to_outputs.0) in
      subst (λ ns. IsDistinct (ins ++ ns)) (sym h.are)
      (AllPairs-from_Distinct _ (Distinct-append (λ x. (kind k x ≡ 0) × AllByRecursion (λ y. x ≢ y) outs) Later (λ x y p q e. elim q [
        | inl l ↦ omega (arith, l, ap (kind k) e, p.0)
        | inr o ↦ among_all (λ o. x ≢ o) outs p.1 y o e
      ]) ins _ (each_both (λ x. kind k x ≡ 0) (λ x. AllByRecursion (λ y. x ≢ y) outs) ins kinds.0 parts.2) later parts.0 all))
