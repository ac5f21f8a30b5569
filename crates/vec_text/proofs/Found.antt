-- The first condition that holds, and those of an undetectable fault.
use Rattle.std.proofs.Common.{◌≡◌, ℕ, Bool, true, false, not, codes, ◌&&◌, ◌||◌, List, [], ◌∷◌, length, get_or, Some, None, Result, Ok, Err, refl, sym, ap, subst, ◌∙◌, inl, inr, arith}
use Rattle.std.specs.Borrow.{Bor}
use Rattle.std.specs.Str.{bytes_eq}
use Rattle.std.proofs.lemmas.Bool.{cases_Bool}
use Rattle.std.proofs.lemmas.Slice.Eq.{bytes_eq-Decides}
use Rattle.ae_base.specs.declared.limits.TheConstants.{PINS}
use Rattle.ae_base.specs.Name.{is_name}
use Rattle.ae_base.specs.Twins.{is_among}
use Rattle.ae_lex.specs.First.{first_of}
use Rattle.ae_lex.specs.Heads.{Word}
use Rattle.ae_lex.specs.Slices.{texts}
use Rattle.ae_lex.specs.declared.errors.LineErr.{LineErr}
use Rattle.ae_lex.specs.declared.errors.LineErr.TheVariants as line
use Rattle.vec_text.specs.declared.fault.VecFault.{VecFault}
use Rattle.vec_text.specs.declared.fault.VecFault.TheVariants.{BadPlace, BadNumber, BadEvidence}
use Rattle.vec_text.specs.declared.file.Idle.{Idle}
use Rattle.vec_text.specs.Seen.{Finds, idle_faults, named_faults, named_said, pin_faults, pin_said}
use Rattle.vec_text.specs.Words.{is_count, is_tree, idle_said}

-- where no condition holds, none of them does
pub none_first : (b : Bool) (f : VecFault) (rest : List (Bool × VecFault)) → first_of ((b, f) ∷ rest) ≡ None → (b ≡ false) × (first_of rest ≡ None)
none_first true f rest h = absurd (let apart : Some f ≡ None = h in cc)
none_first false f rest h = (refl, h)

-- other conditions of the same first fault, and the same answer
finds_as : {X : Type 0} (a b : List (Bool × VecFault)) (x y : X) (result : Result X (LineErr VecFault)) → first_of a ≡ first_of b → (first_of a ≡ None → x ≡ y) → Finds a x result → Finds b y result
finds_as a b x y (Ok z) e s h = (sym e ∙ h.0, h.1 ∙ s h.0)
finds_as a b x y (Err (line.Fault f)) e s h = sym e ∙ h
finds_as a b x y (Err line.Memory) e s h = tt

-- ---- a stem or a port

no_kind : (v n : Bool) (rest : List (Bool × VecFault)) → first_of ((not v, BadPlace) ∷ (not n, BadPlace) ∷ (true, BadPlace) ∷ rest) ≡ Some BadPlace
no_kind false n rest = refl
no_kind true false rest = refl
no_kind true true rest = refl

misplaced : Some BadPlace ≡ None → ⊥
misplaced h = cc

one_kind : (s p n v t : Bool)
    → first_of ((not v, BadPlace) ∷ (not n, BadPlace) ∷ (not (s || p), BadPlace) ∷ (not t, BadEvidence) ∷ []) ≡ first_of ((not ((s || (p || false)) && n && v), BadPlace) ∷ (false, BadNumber) ∷ (not t, BadEvidence) ∷ [])
one_kind true p true true t = refl
one_kind true p true false t = refl
one_kind true p false true t = refl
one_kind true p false false t = refl
one_kind false true true true t = refl
one_kind false true true false t = refl
one_kind false true false true t = refl
one_kind false true false false t = refl
one_kind false false n v t = no_kind v n ((not t, BadEvidence) ∷ [])

pub named_idle : (kind name value tree : Word) (result : Result Idle (LineErr VecFault)) → Finds (named_faults kind name value tree) (named_said kind name value tree) result
    → Finds (idle_faults (kind ∷ name ∷ value ∷ tree ∷ [])) (idle_said (kind ∷ name ∷ value ∷ tree ∷ [])) result
named_idle kind name value tree result h =
    let v = is_among value (codes "0" ∷ codes "1" ∷ []) in
    let none_of = no_kind v (is_name name) ((not (is_tree tree), BadEvidence) ∷ []) in
    elim (cases_Bool (bytes_eq kind (codes "pin"))) [
      | inl e ↦ subst (λ (k : Word). Finds (named_faults k name value tree) (named_said k name value tree) result → Finds (idle_faults (k ∷ name ∷ value ∷ tree ∷ [])) (idle_said (k ∷ name ∷ value ∷ tree ∷ [])) result)
          (sym ((bytes_eq-Decides kind (codes "pin")).0 e))
          (finds_as (named_faults (codes "pin") name value tree) (idle_faults (codes "pin" ∷ name ∷ value ∷ tree ∷ [])) (named_said (codes "pin") name value tree) (idle_said (codes "pin" ∷ name ∷ value ∷ tree ∷ [])) result none_of (λ none. absurd (misplaced (sym none_of ∙ none)))) h
      | inr f ↦ finds_as (named_faults kind name value tree) (idle_faults (kind ∷ name ∷ value ∷ tree ∷ [])) (named_said kind name value tree) (idle_said (kind ∷ name ∷ value ∷ tree ∷ [])) result
          (rw f (one_kind (bytes_eq kind (codes "stem")) (bytes_eq kind (codes "port")) (is_name name) v (is_tree tree))) (λ none. rw f refl) h
    ]

-- ---- a pin

one_pin : (n v c t : Bool) → first_of ((not v, BadPlace) ∷ (not n, BadPlace) ∷ (not c, BadNumber) ∷ (not t, BadEvidence) ∷ []) ≡ first_of ((not (n && v), BadPlace) ∷ (not c, BadNumber) ∷ (not t, BadEvidence) ∷ [])
one_pin true true c t = refl
one_pin true false c t = refl
one_pin false true c t = refl
one_pin false false c t = refl

pub pin_idle : (kind gate number value tree : Word) (result : Result Idle (LineErr VecFault)) → bytes_eq kind (codes "pin") ≡ true → Finds (pin_faults gate number value tree) (pin_said gate number value tree) result
    → Finds (idle_faults (kind ∷ gate ∷ number ∷ value ∷ tree ∷ [])) (idle_said (kind ∷ gate ∷ number ∷ value ∷ tree ∷ [])) result
pin_idle kind gate number value tree result e h =
    subst (λ (k : Word). Finds (idle_faults (k ∷ gate ∷ number ∷ value ∷ tree ∷ [])) (idle_said (k ∷ gate ∷ number ∷ value ∷ tree ∷ [])) result) (sym ((bytes_eq-Decides kind (codes "pin")).0 e))
    (finds_as (pin_faults gate number value tree) (idle_faults (codes "pin" ∷ gate ∷ number ∷ value ∷ tree ∷ [])) (pin_said gate number value tree) (idle_said (codes "pin" ∷ gate ∷ number ∷ value ∷ tree ∷ [])) result
    (one_pin (is_name gate) (is_among value (codes "0" ∷ codes "1" ∷ [])) (is_count PINS number) (is_tree tree)) (λ none. refl) h)

-- ---- the texts of four words, and of five

pub four_texts : (words : List (Bor (List ℕ))) (d : Bor (List ℕ)) → length words ≡ 4 → texts words ≡ (get_or words 0 d).now ∷ (get_or words 1 d).now ∷ (get_or words 2 d).now ∷ (get_or words 3 d).now ∷ []
four_texts [] d n = absurd (omega (arith, n))
four_texts (a ∷ []) d n = absurd (omega (arith, n))
four_texts (a ∷ b ∷ []) d n = absurd (omega (arith, n))
four_texts (a ∷ b ∷ c ∷ []) d n = absurd (omega (arith, n))
four_texts (a ∷ b ∷ c ∷ e ∷ []) d n = refl
four_texts (a ∷ b ∷ c ∷ e ∷ x ∷ words) d n = absurd (omega (arith, n))

pub five_texts : (words : List (Bor (List ℕ))) (d : Bor (List ℕ)) → length words ≡ 5
    → texts words ≡ (get_or words 0 d).now ∷ (get_or words 1 d).now ∷ (get_or words 2 d).now ∷ (get_or words 3 d).now ∷ (get_or words 4 d).now ∷ []
five_texts [] d n = absurd (omega (arith, n))
five_texts (a ∷ words) d n = ap (λ (ws : List Word). a.now ∷ ws) (four_texts words d (omega (arith, n)))
