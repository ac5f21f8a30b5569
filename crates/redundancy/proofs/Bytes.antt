-- A byte tells the line that it was made of, and what is known of pins is a cube.
use Rattle.std.proofs.Common.{◌≡◌, ℕ, Bool, true, false, not, refl, sym, ap, ◌∙◌}
use Rattle.std.specs.Prelude.{Option, Some, None}
use Rattle.std.proofs.lemmas.Bool.{and_parts, and_right}
use Rattle.ae_base.specs.Cube.{IsProduct}
use Rattle.ae_base.proofs.Sets.{has-where_below}
use Rattle.redundancy.specs.declared.lines.Line.{Line}
use Rattle.redundancy.specs.Kept.{byte_of, line_in}
use Rattle.redundancy.specs.Simulation.{Known, is_one, is_zero, known_pins}

abbrev line : Known → Known → Bool → Line
line g b q = record { good = g; faulty = b; quiet = q }

parts_told : (g b : Option Bool) (q : Bool) → line_in (byte_of (line g b q)) ≡ line g b q
parts_told None None true = refl
parts_told None None false = refl
parts_told None (Some true) true = refl
parts_told None (Some true) false = refl
parts_told None (Some false) true = refl
parts_told None (Some false) false = refl
parts_told (Some true) None true = refl
parts_told (Some true) None false = refl
parts_told (Some true) (Some true) true = refl
parts_told (Some true) (Some true) false = refl
parts_told (Some true) (Some false) true = refl
parts_told (Some true) (Some false) false = refl
parts_told (Some false) None true = refl
parts_told (Some false) None false = refl
parts_told (Some false) (Some true) true = refl
parts_told (Some false) (Some true) false = refl
parts_told (Some false) (Some false) true = refl
parts_told (Some false) (Some false) false = refl

pub line_told : (l : Line) → line_in (byte_of l) ≡ l
line_told l = parts_told l.good l.faulty l.quiet

one_not_zero : (k : Option Bool) → is_one k ≡ true → is_zero k ≡ false
one_not_zero None h = refl
one_not_zero (Some b) h = ap not h

pub IsProduct-known_pins : (n : ℕ) (sees : ℕ → Known) → IsProduct (known_pins n sees)
IsProduct-known_pins n sees j h =
    has-where_below n (λ k. is_zero (sees k)) j
    ∙ and_right _ _ (one_not_zero (sees j) ((and_parts _ _ (sym (has-where_below n (λ k. is_one (sees k)) j) ∙ h)).1))
