-- A row holds exactly where its literals hold at each position.
use Rattle.std.proofs.Common.{◌≡◌, ℕ, Bool, true, false, not, ◌&&◌, ◌||◌, sym, ap, ◌∙◌, refl, ltb}
use Rattle.std.proofs.lemmas.Bool.{false≢true, and_parts, and_from, and_right, lt-ltb}
use Rattle.ae_base.specs.Mask.{has, where_below}
use Rattle.ae_base.specs.Cube.{Product, holds}
use Rattle.ae_base.proofs.Products.{holds-has, has-holds}
use Rattle.ae_base.proofs.Sets.{has-where_below, inside-below}
use Rattle.ae_base.proofs.Truth.{same_truth}
use Rattle.ae_net.specs.Valid.{IsRowOf}
use Rattle.fault_sim.specs.Lanes.{each_below, allows}
use Rattle.fault_sim.proofs.Cones.{each_at, each_from}

plain_is : (a v : Bool) → (not a || v) ≡ true → a ≡ true → v ≡ true
plain_is true v h e = h
plain_is false v h e = absurd (false≢true e)

complement_is : (a v : Bool) → (not a || not v) ≡ true → a ≡ true → v ≡ false
complement_is true true h e = absurd (false≢true h)
complement_is true false h e = refl
complement_is false v h e = absurd (false≢true e)

is_plain : (a v : Bool) → (a ≡ true → v ≡ true) → (not a || v) ≡ true
is_plain true v h = h refl
is_plain false v h = refl

is_complement : (a v : Bool) → (a ≡ true → v ≡ false) → (not a || not v) ≡ true
is_complement true v h = ap not (h refl)
is_complement false v h = refl

false_part : (a b : Bool) → a ≡ true → (a && b) ≡ false → b ≡ false
false_part true b e h = h
false_part false b e h = absurd (false≢true e)

pub row-holds : (n : ℕ) (row : Product) (p : ℕ → Bool) → IsRowOf n row → each_below n (λ k. allows row k (p k)) ≡ holds row (where_below n p)
row-holds n row p is = same_truth _ _
    (λ h.
    let each = each_at n (λ k. allows row k (p k)) h in
    has-holds row (where_below n p) (
      λ k m. let l = inside-below n row.pos is.pos k m in has-where_below n p k ∙ and_from _ _ (lt-ltb k n l) (plain_is (has row.pos k) (p k) ((and_parts _ _ (each k l)).0) m),
      λ k m. let l = inside-below n row.neg is.neg k m in has-where_below n p k ∙ and_right _ _ (complement_is (has row.neg k) (p k) ((and_parts _ _ (each k l)).1) m),
    ))
    (λ h.
    let both = holds-has row (where_below n p) h in
    each_from n (λ k. allows row k (p k)) (λ k l. and_from _ _
    (is_plain (has row.pos k) (p k) (λ m. (and_parts _ _ (sym (has-where_below n p k) ∙ both.0 k m)).1))
    (is_complement (has row.neg k) (p k) (λ m. false_part (ltb k n) (p k) (lt-ltb k n l) (sym (has-where_below n p k) ∙ both.1 k m)))))
