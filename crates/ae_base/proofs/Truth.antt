-- Truth values, and their EXOR.
use Rattle.std.proofs.Common.{◌≡◌, Bool, true, false, not, ◌&&◌, ◌||◌, refl, sym, ap, ◌∙◌}
use Rattle.std.proofs.lemmas.Bool.{false≢true, not-true}
use Rattle.ae_base.specs.Mask.{differ}

pub same_truth : (a b : Bool) → (a ≡ true → b ≡ true) → (b ≡ true → a ≡ true) → a ≡ b
same_truth true b to back = sym (to refl)
same_truth false true to back = absurd (false≢true (back refl))
same_truth false false to back = refl

pub or-false : (a : Bool) → (a || false) ≡ a
or-false true = refl
or-false false = refl

pub or-true : (a : Bool) → (a || true) ≡ true
or-true true = refl
or-true false = refl

-- the second comes first
pub or-front : (a b c : Bool) → (a || (b || c)) ≡ (b || (a || c))
or-front true true c = refl
or-front true false c = refl
or-front false true c = refl
or-front false false c = refl

pub no_and : (a b : Bool) → (a && b) ≡ false → a ≡ true → b ≡ false
no_and true b h e = h
no_and false b h e = absurd (false≢true e)

-- what is false where b is true is false as soon as b is true
pub not_both : (a b : Bool) → (a ≡ true → b ≡ false) → b ≡ true → a ≡ false
not_both true b h e = absurd (false≢true (sym (h refl) ∙ e))
not_both false b h e = refl

pub not_not : (b : Bool) → b ≡ not (not b)
not_not true = refl
not_not false = refl

-- ---- EXOR

pub differ-same : (a : Bool) → differ a a ≡ false
differ-same true = refl
differ-same false = refl

pub differ-false : (a : Bool) → differ a false ≡ a
differ-false true = refl
differ-false false = refl

-- once more undoes it
pub differ-back : (a b : Bool) → differ a (differ a b) ≡ b
differ-back true true = refl
differ-back true false = refl
differ-back false b = refl

pub differ-flip : (a b : Bool) → differ a b ≡ differ b a
differ-flip true true = refl
differ-flip true false = refl
differ-flip false true = refl
differ-flip false false = refl

pub differ-assoc : (a b c : Bool) → differ (differ a b) c ≡ differ a (differ b c)
differ-assoc true true true = refl
differ-assoc true true false = refl
differ-assoc true false c = refl
differ-assoc false b c = refl

-- the second comes first
pub differ-front : (a b c : Bool) → differ a (differ b c) ≡ differ b (differ a c)
differ-front true true c = refl
differ-front true false c = refl
differ-front false true c = refl
differ-front false false c = refl

-- the second before the others
pub differ-past : (a b c : Bool) → differ (differ a b) c ≡ differ b (differ a c)
differ-past a b c = differ-assoc a b c ∙ differ-front a b c

pub differ-swap : (a b c d : Bool) → differ (differ a b) (differ c d) ≡ differ (differ a c) (differ b d)
differ-swap a b c d = differ-assoc a b (differ c d) ∙ ap (differ a) (differ-front b c d) ∙ sym (differ-assoc a c (differ b d))

-- what both have cancels
pub differ-cancel : (a b c : Bool) → differ (differ a b) (differ a c) ≡ differ b c
differ-cancel a b c = differ-swap a b a c ∙ ap (λ d. differ d (differ b c)) (differ-same a)

pub differ-not_right : (a b : Bool) → differ a (not b) ≡ not (differ a b)
differ-not_right true b = refl
differ-not_right false b = refl

-- the complement of the first complements the whole
pub other_way : (a b : Bool) → differ a b ≡ not (differ (not a) b)
other_way true b = refl
other_way false true = refl
other_way false false = refl

pub and-differ : (a b c : Bool) → (differ a b && c) ≡ differ (a && c) (b && c)
and-differ true true true = refl
and-differ true true false = refl
and-differ true false true = refl
and-differ true false false = refl
and-differ false b c = refl

pub and-over_differ : (a b c : Bool) → (a && differ b c) ≡ differ (a && b) (a && c)
and-over_differ true b c = refl
and-over_differ false b c = refl

pub differ_true : (a b : Bool) → differ a b ≡ true → a ≡ true → b ≡ false
differ_true true b h e = not-true b h
differ_true false b h e = absurd (false≢true e)

pub differ_true_else : (a b : Bool) → differ a b ≡ true → a ≡ false → b ≡ true
differ_true_else true b h e = absurd (false≢true (sym e))
differ_true_else false b h e = h

-- values that do not differ are equal
pub equal_values : (a b : Bool) → differ a b ≡ false → a ≡ b
equal_values true true h = refl
equal_values false false h = refl
equal_values true false h = absurd (false≢true (sym h))
equal_values false true h = absurd (false≢true (sym h))
