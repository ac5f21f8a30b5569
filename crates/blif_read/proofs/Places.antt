-- Places of names in a list.
use Rattle.std.proofs.Common.{◌≡◌, ℕ, suc, ◌+◌, ◌-◌, ◌<◌, Bool, true, false, eqb, ltb, ◌||◌, List, [], ◌∷◌, ◌++◌, length, get_or, sym, ap, ◌∙◌, arith, inl, inr}
use Rattle.std.specs.Prelude.{bytes_eq}
use Rattle.std.specs.List.{AllByRecursion}
use Rattle.std.proofs.lemmas.Bool.{cond-true, cond-false, lt-ltb, le-ltb, cases_Bool, cases_eq, eq-eqb, ne_eqb, false≢true}
use Rattle.std.proofs.lemmas.Slice.Eq.{bytes_eq-Decides}
use Rattle.ae_base.proofs.Distinct.{each-append}
use Rattle.ae_net.specs.Valid.{IsDistinct}
use Rattle.ae_base.specs.Twins.{is_among}
use Rattle.ae_net.specs.Named.{place_of}
use Rattle.ae_base.proofs.Apart.{bytes_apart}
use Rattle.blif_read.proofs.Tables.{place_of-append}
use Rattle.blif_read.proofs.WrittenNames.{bytes_same, names_apart}

-- a name that is one of the list is the one at its place
pub place_at : (w : List ℕ) (ws : List (List ℕ)) → is_among w ws ≡ true → (place_of w ws < length ws) × (get_or ws (place_of w ws) [] ≡ w)
place_at w [] h = absurd (false≢true h)
place_at w (v ∷ ws) h = elim (cases_Bool (bytes_eq w v)) [
  | inl t ↦ (rw t (omega arith), rw t (sym ((bytes_eq-Decides w v).0 t)))
  | inr f ↦ (let r = place_at w ws (sym (ap (λ (b : Bool). b || is_among w ws) f) ∙ h) in (rw f (omega (arith, r.0)), rw f (next w v ws (place_of w ws) r.1)))
]
  where
    next : (w v : List ℕ) (ws : List (List ℕ)) (n : ℕ) → get_or ws n [] ≡ w → get_or (v ∷ ws) (1 + n) [] ≡ w
    next w v ws n h = (let e : 1 + n ≡ suc n = omega arith in ap (λ k. get_or (v ∷ ws) k []) e ∙ h)

pub same_name : (ws : List (List ℕ)) (i j : ℕ) → IsDistinct ws → i < length ws → j < length ws → bytes_eq (get_or ws i []) (get_or ws j []) ≡ eqb j i
same_name ws i j apart a b = elim (cases_eq j i) [
  | inl e ↦ ap (λ k. bytes_eq (get_or ws i []) (get_or ws k [])) e ∙ bytes_same (get_or ws i []) ∙ sym (eq-eqb j i e)
  | inr ne ↦ bytes_apart (get_or ws i []) (get_or ws j []) (λ e. names_apart ws i j apart a b (λ q. ne (sym q)) e) ∙ sym (ne_eqb j i ne)
]

-- all below a bound
abbrev pub AllBelow : ℕ → List ℕ → Type 0
AllBelow n ss = AllByRecursion (λ s. s < n) ss

pub below_more : (n : ℕ) (ss : List ℕ) (k : ℕ) → AllBelow n ss → k < n → AllBelow n (ss ++ k ∷ [])
below_more n ss k h lt = each-append (λ s. s < n) ss (k ∷ []) h (lt, tt)

pub place_bound : (w : List ℕ) (ws : List (List ℕ)) → is_among w ws ≡ true → place_of w ws < length ws
place_bound w ws h = (place_at w ws h).0

-- the place of a name in two lists, where it stands in the first, and where it does not
pub place_low : (w : List ℕ) (xs ys : List (List ℕ)) → is_among w xs ≡ true → (place_of w (xs ++ ys) ≡ place_of w xs) × (ltb (place_of w (xs ++ ys)) (length xs) ≡ true)
place_low w xs ys t = (let e : place_of w (xs ++ ys) ≡ place_of w xs = place_of-append w xs ys ∙ cond-true _ _ _ t in (e, lt-ltb _ _ (omega (arith, e, place_bound w xs t))))

pub place_high : (w : List ℕ) (xs ys : List (List ℕ)) → is_among w xs ≡ false → (place_of w (xs ++ ys) - length xs ≡ place_of w ys) × (ltb (place_of w (xs ++ ys)) (length xs) ≡ false)
place_high w xs ys f = (let e : place_of w (xs ++ ys) ≡ length xs + place_of w ys = place_of-append w xs ys ∙ cond-false _ _ _ f in (omega (arith, e), le-ltb _ _ (omega (arith, e))))
