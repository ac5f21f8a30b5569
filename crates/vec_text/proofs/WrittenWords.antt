-- Words that were written are read again.
use Rattle.std.proofs.Common.{◌≡◌, ℕ, suc, ◌<◌, ◌≤◌, true, false, not, ◌||◌, eqb, List, [], ◌∷◌, length, map, codes, All, refl, ap, arith}
use Rattle.std.specs.List.{list_all}
use Rattle.std.specs.Str.{bytes_eq}
use Rattle.std.specs.Fmt.{decimal}
use Rattle.std.proofs.lemmas.Bool.{and_from, eq-eqb, le-leb, false≢true, ne_eqb}
use Rattle.std.proofs.lemmas.List.Sums.{list_all-from_AllPass}
use Rattle.ae_base.specs.declared.limits.TheConstants.{WRITTEN_LINES}
use Rattle.ae_base.specs.Cube.{Product}
use Rattle.ae_base.specs.Form.{form_word}
use Rattle.ae_base.specs.Name.{is_name}
use Rattle.ae_base.specs.Text.{cube_text}
use Rattle.ae_base.specs.declared.form.Form.{Form}
use Rattle.ae_base.specs.declared.form.Form.TheVariants.{Reddy, Factored}
use Rattle.ae_base.specs.declared.step.Step.{Step}
use Rattle.ae_base.specs.declared.step.Step.TheVariants.{S, L}
use Rattle.ae_base.proofs.ReadBack.{cube_literals, length-cube_text, number_is, value_back}
use Rattle.ae_lex.specs.Heads.{Word}
use Rattle.vec_text.specs.declared.file.Shown.{Shown}
use Rattle.vec_text.specs.declared.file.Shown.TheVariants.{Tree, Wide}
use Rattle.vec_text.specs.VectorFile.{letter, shown_word, is_shown}
use Rattle.vec_text.specs.Words.{is_form, form_said, are_names, is_count, is_cube, is_tree, step_said, shown_said}

pub form_is : (form : Form) → is_form (form_word form ∷ []) ≡ true
form_is Reddy = refl
form_is Factored = refl

pub form_back : (form : Form) → form_said (form_word form ∷ []) ≡ form
form_back Reddy = refl
form_back Factored = refl

pub names_are : (names : List Word) → All (λ name. is_name name ≡ true) names → 1 ≤ length names → length names ≤ WRITTEN_LINES → are_names names ≡ true
unfolding are_names
names_are names h some few = and_from _ _ (and_from _ _ (le-leb 1 (length names) some) (le-leb (length names) WRITTEN_LINES few)) (list_all-from_AllPass is_name names h)

pub cube_is : (n : ℕ) (c : Product) → is_cube n (cube_text n c) ≡ true
unfolding is_cube
cube_is n c = and_from _ _ (eq-eqb _ n (length-cube_text n c)) (cube_literals n c)

pub count_is : (limit k : ℕ) → 0 < k → k ≤ limit → limit < 1000 → is_count limit (decimal k) ≡ true
count_is limit k some few small = and_from _ _ (number_is k some (omega arith)) (le-leb _ limit (omega (arith, value_back k (omega arith), few)))

-- ---- evidence trees

step_back : (steps : List Step) → map step_said (map letter steps) ≡ steps
step_back [] = refl
step_back (S ∷ steps) = ap (λ ss. S ∷ ss) (step_back steps)
step_back (L ∷ steps) = ap (λ ss. L ∷ ss) (step_back steps)

pub letters_all : (steps : List Step) → list_all (λ b. eqb b 83 || eqb b 76) (map letter steps) ≡ true
letters_all [] = refl
letters_all (S ∷ steps) = letters_all steps
letters_all (L ∷ steps) = letters_all steps

not_wide : (steps : List Step) → bytes_eq (map letter steps) (codes "wide") ≡ false
not_wide [] = refl
not_wide (S ∷ steps) = refl
not_wide (L ∷ steps) = refl

pub tree_is : (shown : Shown) → is_shown shown ≡ true → is_tree (shown_word shown) ≡ true
unfolding is_tree
tree_is Wide h = refl
tree_is (Tree []) h = absurd (false≢true h)
tree_is (Tree (S ∷ steps)) h = and_from _ _ (ap not (ne_eqb (suc (length (map letter steps))) 0 (λ e. omega (arith, e)))) (letters_all steps)
tree_is (Tree (L ∷ steps)) h = and_from _ _ (ap not (ne_eqb (suc (length (map letter steps))) 0 (λ e. omega (arith, e)))) (letters_all steps)

pub shown_back : (shown : Shown) → shown_said (shown_word shown) ≡ shown
unfolding shown_said
shown_back Wide = refl
shown_back (Tree steps) = rw (not_wide steps) (ap (λ (ss : List Step). Tree ss) (step_back steps))
