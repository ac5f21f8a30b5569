-- The names of a command, as lists, and the counts of their faults.
use Rattle.std.proofs.Common.{◌≡◌, ◌≤◌, ◌∙◌, ℕ, List, [], ◌∷◌, sym, ap, refl, subst, arith}
use Rattle.std.specs.Prelude.{Contains}
use Rattle.ae_outside.specs.Counts.{Tally, CountsAt, RoseAt, count}
use Rattle.synth_cmd.specs.Outside.{CountsAmong}

pub is_second : {X : Type 0} (x y : X) (xs : List X) → Contains (x ∷ y ∷ xs) y
is_second x y xs = (1, omega arith, refl)

-- all counts stay
pub among_none : (names : List (List ℕ)) (a b : Tally) → b ≡ a → CountsAmong names a b
among_none names a b e = subst (λ t. CountsAmong names a t) (sym e) (record { later = λ q. omega arith; others = λ q no. refl; none = λ empty. refl })

pub among_one : (name : List ℕ) (a b : Tally) → CountsAt name a b → CountsAmong (name ∷ []) a b
among_one name a b h = record { later = h.later; others = λ q no. h.others q (λ e. no (0, omega arith, sym e)); none = λ empty. absurd (cc empty) }

-- the counts of two names, one after the other
pub among_two : (first second : List ℕ) (a b c : Tally) → CountsAt first a b → CountsAt second b c → CountsAmong (first ∷ second ∷ []) a c
among_two first second a b c h k =
    record {
      later = λ q. omega (arith, h.later q, k.later q);
      others = λ q no. k.others q (λ e. no (1, omega arith, sym e)) ∙ h.others q (λ e. no (0, omega arith, sym e));
      none = λ empty. absurd (cc empty);
    }

pub among_first : (first second : List ℕ) (a b : Tally) → CountsAt first a b → CountsAmong (first ∷ second ∷ []) a b
among_first first second a b h = record { later = h.later; others = λ q no. h.others q (λ e. no (0, omega arith, sym e)); none = λ empty. absurd (cc empty) }

-- a count that rose since a later moment rose since an earlier one
pub rose_since : (name first : List ℕ) (a b c : Tally) → CountsAt first a b → RoseAt name b c → RoseAt name a c
rose_since name first a b c h rose = omega (arith, h.later name, rose)
