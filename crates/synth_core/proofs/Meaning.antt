-- What the network of a source's expansions shows.
use Rattle.std.proofs.Common.{◌≡◌, ◌<◌, ℕ, true, false, not, ◌||◌, cond, List, [], ◌∷◌, refl, sym, ap, ap₂, ◌∙◌, eq-eqb, ne_eqb, arith}
use Rattle.std.specs.List.{AllByRecursion}
use Rattle.ae_base.specs.Mask.{Set, differ, has, first, inside, with, members}
use Rattle.ae_base.specs.Cube.{Signs}
use Rattle.ae_base.specs.Terms.{IsPoint, product, value}
use Rattle.ae_base.proofs.Sets.{has-with, inside-below, inside-above}
use Rattle.ae_base.proofs.Members.{members-has}
use Rattle.ae_base.proofs.Elements.{list_all_agree}

-- ---- values at a point and with the control

pub product-with : (p : Signs) (t x : Set) → inside t (first p.n) ≡ true → product p t (with x p.n) ≡ product p t x
unfolding product
product-with p t x h = list_all_agree _ _ (members t) (λ j m.
    let there : has t j ≡ true = sym (members-has t j) ∙ m in
    let l : j < p.n = inside-below p.n t h j there in
    ap (λ b. cond (has p.plain j) b (not b)) (has-with x p.n j ∙ ap (λ b. b || has x j) (ne_eqb j p.n (λ e. absurd (omega (arith, l, e))))))

pub value-with : (p : Signs) (ts : List Set) (x : Set) → AllByRecursion (λ t. inside t (first p.n) ≡ true) ts → value p ts (with x p.n) ≡ value p ts x
value-with p [] x h = refl
value-with p (t ∷ ts) x (here, h) = ap₂ differ (product-with p t x here) (value-with p ts x h)

-- the control is low at a point of the source, and high where it is put in
pub control_low : (n : ℕ) (x : Set) → IsPoint n x → has x n ≡ false
control_low n x h = inside-above n x h n (omega arith)

pub control_high : (n : ℕ) (x : Set) → has (with x n) n ≡ true
control_high n x = has-with x n n ∙ ap (λ b. b || has x n) (eq-eqb n n refl)
