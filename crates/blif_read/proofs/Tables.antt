-- Names in a table.
use Rattle.std.proofs.Common.{◌≡◌, ℕ, suc, ◌+◌, Bool, true, false, cond, ◌||◌, ltb, List, [], ◌∷◌, ◌++◌, length, get_or, All, zero-add, Some, None, refl, sym, ap, ◌∙◌, arith, inl, inr}
use Rattle.std.specs.Prelude.{bytes_eq, position}
use Rattle.std.proofs.lemmas.Bool.{both_ways, cases_Bool}
use Rattle.std.proofs.lemmas.List.Folds.{list_any-append, list_any_none}
use Rattle.ae_base.specs.Name.{is_name}
use Rattle.blif_read.proofs.Ranks.{any_within}
use Rattle.ae_base.proofs.Apart.{bytes_apart}
use Rattle.ae_base.specs.Twins.{is_among}
use Rattle.blif_read.specs.Build.{signal_in}
use Rattle.ae_net.specs.Named.{place_of}

pub place_within : (w : List ℕ) (ws : List (List ℕ)) → ltb (place_of w ws) (length ws) ≡ is_among w ws
place_within w ws = any_within (bytes_eq w) ws

pub place_is : (w : List ℕ) (ws : List (List ℕ)) → position (bytes_eq w) ws ≡ cond (is_among w ws) (Some (place_of w ws)) None
place_is w ws = rw (place_within w ws) refl

-- what is no name is among no names
pub not_a_name : (w : List ℕ) (ws : List (List ℕ)) → is_name w ≡ false → All (λ v. is_name v ≡ true) ws → is_among w ws ≡ false
not_a_name w ws f h = list_any_none (bytes_eq w) ws (λ k d lt. bytes_apart w (get_or ws k d) (λ e. both_ways (is_name w) f (ap is_name e ∙ h k d lt)))

-- the place in two lists, one after the other
pub place_of-append : (w : List ℕ) (xs ys : List (List ℕ)) → place_of w (xs ++ ys) ≡ cond (is_among w xs) (place_of w xs) (length xs + place_of w ys)
place_of-append w [] ys = sym (zero-add (place_of w ys))
place_of-append w (x ∷ xs) ys = elim (cases_Bool (bytes_eq w x)) [
  | inl t ↦ rw t refl
  | inr f ↦ rw f (ap (λ n. 1 + n) (place_of-append w xs ys) ∙ pick (is_among w xs) (place_of w xs) (length xs) (place_of w ys))
]
  where
    pick : (b : Bool) (p n q : ℕ) → 1 + cond b p (n + q) ≡ cond b (1 + p) (suc n + q)
    pick true p n q = refl
    pick false p n q = omega arith

pub place_in_both : (w : List ℕ) (xs ys : List (List ℕ)) → signal_in (xs ++ ys) w ≡ cond (is_among w xs) (Some (place_of w xs)) (cond (is_among w ys) (Some (length xs + place_of w ys)) None)
place_in_both w xs ys =
    rw (list_any-append (bytes_eq w) xs ys, place_of-append w xs ys) (pick (is_among w xs) (is_among w ys) (place_of w xs) (length xs + place_of w ys))
  where
    pick : (a b : Bool) (p q : ℕ) → cond (a || b) (Some (cond a p q)) None ≡ cond a (Some p) (cond b (Some q) None)
    pick true b p q = refl
    pick false b p q = refl
