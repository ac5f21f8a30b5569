-- What the files of a command held.
use Rattle.std.proofs.Common.{◌≡◌, ◌<◌, ◌≤◌, ◌∷◌, [], inl, inr, ℕ, List, Option, Some, None, length, map, sym, ap, refl, ◌∙◌, subst, arith}
use Rattle.std.specs.Prelude.{Contains, IfSome}
use Rattle.std.specs.FinMap.{get}
use Rattle.ae_base.proofs.Contained.{Contains-cases, Contains-first, Contains-later, nothing_in_none}
use Rattle.ae_base.specs.declared.limits.TheConstants.{TEXT_BYTES}
use Rattle.ae_outside.specs.Files.{Shelf, bytes_of}
use Rattle.synth_cmd.specs.Headline.{Holds}
use Rattle.synth_cmd.specs.Reading.{ComesTo, HoldOnly, HoldsText, HoldTexts, IsLong}

-- ---- a name

-- where the files tell, the name holds the bytes
pub held_at : (held : Option Shelf) (m : Shelf) (name bytes : List ℕ) → held ≡ Some m → HoldsText held name bytes → get m name ≡ Some bytes
held_at held m name bytes tells was = let h = subst (λ x. Holds x name bytes) tells was.is_held in h

pub short_at : (held : Option Shelf) (m : Shelf) (name bytes : List ℕ) → held ≡ Some m → HoldsText held name bytes → length (bytes_of m name) ≤ TEXT_BYTES
short_at held m name bytes tells was = rw (held_at held m name bytes tells was) was.short

long_at : (held : Option Shelf) (m : Shelf) (name : List ℕ) → held ≡ Some m → IsLong held name → TEXT_BYTES < length (bytes_of m name)
long_at held m name tells long = let h = subst (λ x. IfSome x (λ m. TEXT_BYTES < length (bytes_of m name))) tells long in h

none_short : (m : Shelf) (name : List ℕ) → get m name ≡ None → TEXT_BYTES < length (bytes_of m name) → ⊥
none_short m name none long = let h = rw none at long in omega (arith, h)

-- a name that holds a text is held, and not too long
pub not_none : (held : Option Shelf) (m : Shelf) (name bytes : List ℕ) → held ≡ Some m → HoldsText held name bytes → get m name ≡ None → ⊥
not_none held m name bytes tells was none = let both = sym (held_at held m name bytes tells was) ∙ none in cc both

pub not_long : (held : Option Shelf) (m : Shelf) (name bytes : List ℕ) → held ≡ Some m → HoldsText held name bytes → IsLong held name → ⊥
not_long held m name bytes tells was long = omega (arith, long_at held m name tells long, short_at held m name bytes tells was)

one_text : (held : Option Shelf) (m : Shelf) (name a b : List ℕ) → held ≡ Some m → HoldsText held name a → HoldsText held name b → a ≡ b
one_text held m name a b tells x y = let both = sym (held_at held m name a tells x) ∙ held_at held m name b tells y in cc both

-- ---- names in order

pub holds_come : (held : Option Shelf) (names texts : List (List ℕ)) (name : List ℕ) → HoldTexts held names texts → ComesTo held names name → (text : List ℕ) × HoldsText held name text
holds_come held [] texts name hold to = absurd to
holds_come held (f ∷ fs) [] name hold to = absurd hold
holds_come held (f ∷ fs) (t ∷ ts) name hold (inl e) = (t, subst (λ n. HoldsText held n t) (sym e) hold.0)
holds_come held (f ∷ fs) (t ∷ ts) name hold (inr later) = holds_come held fs ts name hold.1 later.1

pub holds_named : (held : Option Shelf) (names texts : List (List ℕ)) (name : List ℕ) → HoldTexts held names texts → Contains names name → (text : List ℕ) × HoldsText held name text
holds_named held [] texts name hold named = absurd (nothing_in_none name named)
holds_named held (f ∷ fs) [] name hold named = absurd hold
holds_named held (f ∷ fs) (t ∷ ts) name hold named =
    elim (Contains-cases f fs name named) [
      | inl e ↦ (t, subst (λ n. HoldsText held n t) e hold.0)
      | inr i ↦ holds_named held fs ts name hold.1 i
    ]

pub comes_named : (held : Option Shelf) (names : List (List ℕ)) (name : List ℕ) → ComesTo held names name → Contains names name
comes_named held [] name to = absurd to
comes_named held (f ∷ fs) name (inl e) = subst (λ n. Contains (f ∷ fs) n) (sym e) (Contains-first f fs)
comes_named held (f ∷ fs) name (inr later) = Contains-later f fs name (comes_named held fs name later.1)

-- the reading does not come both to a name that is not held and to one that is too long
pub none_or_long : (held : Option Shelf) (m : Shelf) (names : List (List ℕ)) (name file : List ℕ) → held ≡ Some m → get m name ≡ None → IsLong held file → ComesTo held names name → ComesTo held names file → ⊥
none_or_long held m [] name file tells none long a b = absurd a
none_or_long held m (f ∷ fs) name file tells none long (inl a) (inl b) = none_short m file (ap (get m) (b ∙ sym a) ∙ none) (long_at held m file tells long)
none_or_long held m (f ∷ fs) name file tells none long (inl a) (inr y) = not_none held m f y.0.0 tells y.0.1 (ap (get m) (sym a) ∙ none)
none_or_long held m (f ∷ fs) name file tells none long (inr x) (inl b) = not_long held m f x.0.0 tells x.0.1 (subst (IsLong held) b long)
none_or_long held m (f ∷ fs) name file tells none long (inr x) (inr y) = none_or_long held m fs name file tells none long x.1 y.1

pub one_hold : (held : Option Shelf) (m : Shelf) (names a b : List (List ℕ)) → held ≡ Some m → HoldTexts held names a → HoldTexts held names b → a ≡ b
one_hold held m [] [] [] tells x y = refl
one_hold held m [] (t ∷ ts) b tells x y = absurd x
one_hold held m [] [] (t ∷ ts) tells x y = absurd y
one_hold held m (f ∷ fs) [] b tells x y = absurd x
one_hold held m (f ∷ fs) (t ∷ ts) [] tells x y = absurd y
one_hold held m (f ∷ fs) (t ∷ ts) (u ∷ us) tells x y =
    ap (λ s. s ∷ ts) (one_text held m f t u tells x.0 y.0) ∙ ap (λ ss. u ∷ ss) (one_hold held m fs ts us tells x.1 y.1)

-- ---- what they can have held alone

abbrev each : List ℕ → List (List ℕ) → List (List ℕ)
each text names = map (λ _. text) names

-- files that do not tell could have held anything short
any_hold : (text : List ℕ) (names : List (List ℕ)) → length text ≤ TEXT_BYTES → HoldTexts None names (each text names)
any_hold text [] short = tt
any_hold text (n ∷ ns) short = (record { is_held = tt; short = short }, any_hold text ns short)

tells_of : (held : Option Shelf) (name : List ℕ) (names texts : List (List ℕ)) → HoldOnly held (name ∷ names) texts → (m : Shelf) × (held ≡ Some m)
tells_of (Some m) name names texts only = (m, refl)
tells_of None name names texts only =
    let none : [] ∷ each [] names ≡ texts = only.only ([] ∷ each [] names) (any_hold [] (name ∷ names) (omega arith)) in
    let one : (0 ∷ []) ∷ each (0 ∷ []) names ≡ texts = only.only ((0 ∷ []) ∷ each (0 ∷ []) names) (any_hold (0 ∷ []) (name ∷ names) (omega arith)) in
    absurd (cc (none, one))

pub only_short : (held : Option Shelf) (names texts : List (List ℕ)) (name : List ℕ) → HoldOnly held names texts → Contains names name → IsLong held name → ⊥
only_short held [] texts name only named long = nothing_in_none name named
only_short held (f ∷ fs) texts name only named long =
    let told = tells_of held f fs texts only in
    let holds = holds_named held (f ∷ fs) texts name only.hold named in
    not_long held told.0 name holds.0 told.1 holds.1 long
