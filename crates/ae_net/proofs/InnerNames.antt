-- Inner names differ from each other and from the names of the source.
use Rattle.std.proofs.Common.{◌≡◌, ◌≢◌, ℕ, zero, suc, ◌<◌, ◌≤◌, ◌^◌, false, cond, inl, inr, List, [], ◌∷◌, get_or, refl, sym, ap, ◌∙◌, arith, eqb, eq-eqb, ne_eqb}
use Rattle.std.specs.List.{AllByRecursion}
use Rattle.std.specs.Fmt.{decimal}
use Rattle.std.proofs.lemmas.Bool.{cases_Bool, false≢true}
use Rattle.std.proofs.lemmas.Fmt.{decimal_injective}
use Rattle.ae_net.specs.Names.{underscores, is_taken, inner}

-- ---- the kind of a name

-- the byte after k underscores; 0 where there are not exactly k
unfoldable pub kind : ℕ → List ℕ → ℕ
kind k name = cond (eqb (underscores name) k) (get_or name k 0) 0

underscores-inner : (k b : ℕ) (text : List ℕ) → b ≢ 95 → underscores (inner k (b ∷ text)) ≡ k
unfolding inner
underscores-inner zero b text other = rw (ne_eqb b 95 other) refl
underscores-inner (suc k) b text other = ap suc (underscores-inner k b text other)

at_inner : (k b : ℕ) (text : List ℕ) → get_or (inner k (b ∷ text)) k 0 ≡ b
unfolding inner
at_inner zero b text = refl
at_inner (suc k) b text = at_inner k b text

pub kind-inner : (k b : ℕ) (text : List ℕ) → b ≢ 95 → kind k (inner k (b ∷ text)) ≡ b
unfolding kind
kind-inner k b text other = rw (underscores-inner k b text other, eq-eqb k k refl) (at_inner k b text)

-- source names have no kind
pub kinds_free : (k : ℕ) (names : List (List ℕ)) → is_taken names k ≡ false → AllByRecursion (λ name. kind k name ≡ 0) names
unfolding kind
kinds_free k [] h = tt
kinds_free k (name ∷ names) h =
    elim (cases_Bool (eqb (underscores name) k)) [
      | inl e ↦ absurd (false≢true (sym (rw e at h)))
      | inr e ↦ (rw e refl, kinds_free k names (rw e at h))
    ]

pub other_kinds : (k a b : ℕ) (x y : List ℕ) → kind k x ≡ a → kind k y ≡ b → a ≢ b → x ≢ y
other_kinds k a b x y p q n e = n (sym p ∙ ap (kind k) e ∙ q)

-- ---- numbered names

pub inner_injective : (k : ℕ) (s t : List ℕ) → inner k s ≡ inner k t → s ≡ t
unfolding inner
inner_injective zero s t e = e
inner_injective (suc k) s t e = inner_injective k s t (cc e)

-- the inner name of this letter and some number above `low`
pub record Numbered (k b low : ℕ) (name : List ℕ) : Type 0 where
  pub number : ℕ
  pub above : low < number
  pub small : number < 2 ^ 64
  pub is : name ≡ inner k (b ∷ decimal number)

pub later_number : (k b n : ℕ) (name : List ℕ) → n < 2 ^ 64 → Numbered k b n name → inner k (b ∷ decimal n) ≢ name
later_number k b n name small later e =
    let texts : b ∷ decimal n ≡ b ∷ decimal later.number = inner_injective k _ _ (e ∙ later.is) in
    let same : decimal n ≡ decimal later.number = cc in
    let numbers : n ≡ later.number = decimal_injective n later.number small later.small same in
    omega (arith, later.above, numbers)

pub kind-Numbered : (k b low : ℕ) (name : List ℕ) → b ≢ 95 → Numbered k b low name → kind k name ≡ b
kind-Numbered k b low name other numbered = ap (kind k) numbered.is ∙ kind-inner k b (decimal numbered.number) other

pub Numbered-lower : (k b low high : ℕ) (name : List ℕ) → low ≤ high → Numbered k b high name → Numbered k b low name
Numbered-lower k b low high name l h = record { number = h.number; above = omega (arith, h.above); small = h.small; is = h.is }
