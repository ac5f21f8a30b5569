-- What a command answers to the texts that it reads is one: a refusal of one status, or one product.
use Rattle.std.proofs.Common.{◌≡◌, ◌∷◌, [], inl, inr, ℕ, List, Some, length, sym, ap, refl, ◌∙◌, subst}
use Rattle.std.specs.Prelude.{Option, Result, Ok, Err}
use Rattle.ae_base.specs.Source.{Source}
use Rattle.grading.specs.Grade.{IsGraded}
use Rattle.grading.specs.Pair.{AreGradable, HasOtherNames}
use Rattle.grading.specs.declared.report.GradeReport.{GradeReport}
use Rattle.grading.specs.declared.report.Mode.{Mode}
use Rattle.polarity.specs.Search.{Advised}
use Rattle.synth_core.specs.Asked.{HasOtherCount, HasTooMany, IsWithin, polarity_of}
use Rattle.synth_core.specs.Made.{IsMade, Texts}
use Rattle.synth_core.specs.Says.{source_says}
use Rattle.synth_core.specs.declared.fault.TextFault.{TextFault}
use Rattle.synth_core.specs.declared.settings.Settings.{Settings}
use Rattle.synth_cmd.specs.Asked.{Asked, Origin}
use Rattle.synth_cmd.specs.Asked.Asked.{Refused, Synth, Grade}
use Rattle.synth_cmd.specs.Asked.Origin.{File, Demo}
use Rattle.synth_cmd.specs.Complete.{Accepts}
use Rattle.synth_cmd.specs.Lines.{finding_status, status_of}
use Rattle.synth_cmd.specs.Outcome.{Makes, Objects, Product, grading_of, source_bytes, synthesis_of}
use Rattle.synth_cmd.specs.Reading.{IsFaulty, fault_as, reads_of}
use Rattle.synth_cmd.specs.declared.stop.Fault.{Fault}
use Rattle.synth_cmd.specs.declared.stop.Fault.TheVariants as fault
use Rattle.synth_cmd.specs.declared.stop.Refusal.{Refusal}
use Rattle.synth_cmd.specs.declared.stop.Refusal.TheVariants.{Words, ReadFault, TooLong, Text, NamesDiffer, BitCount, TooManyTerms}
use Rattle.synth_cmd.specs.declared.TheConstants.{REFUSED, TOO_MANY_TERMS, WORDS}

-- ---- faults of texts

err_of : {T F : Type 0} (f : F → Fault) (r : Result T (ℕ × F)) (x : ℕ × Fault) → fault_as f r ≡ Some x → (e : ℕ × F) × (r ≡ Err e)
err_of f (Ok t) x h = absurd (cc h)
err_of f (Err e) x h = (e, refl)

not_ok : {T F : Type 0} (f : F → Fault) (r : Result T (ℕ × F)) (x : ℕ × Fault) (t : T) → r ≡ Ok t → fault_as f r ≡ Some x → ⊥
not_ok f (Ok s) x t is h = cc h
not_ok f (Err e) x t is h = cc is

-- ---- a source

-- the polarity has another number of inputs
other_count : (settings : Settings) (bytes : List ℕ) (given wanted : ℕ) → HasOtherCount settings bytes given wanted → (s : Source) → source_says settings.kind bytes ≡ Ok s
    → (polarity_of settings.polarity (length s.inputs)).n ≡ length s.inputs → ⊥
other_count settings bytes given wanted other s says same =
    let sources : other.source ≡ s = (let both = sym other.says ∙ says in cc both) in
    let wants : wanted ≡ length s.inputs = other.wants ∙ ap (λ r. length r.inputs) sources in
    other.differ (other.gives ∙ ap (λ n. (polarity_of settings.polarity n).n) wants ∙ same ∙ sym wants)

-- why a source is refused, with the status
pub data SourceCause (settings : Settings) (bytes : List ℕ) (s : ℕ) : Type 0 where
  faulty : (e : ℕ × TextFault) → source_says settings.kind bytes ≡ Err e → s ≡ REFUSED → SourceCause settings bytes s
  counts : (given wanted : ℕ) → HasOtherCount settings bytes given wanted → s ≡ WORDS → SourceCause settings bytes s
  many : (output : ℕ) → HasTooMany settings bytes output → s ≡ TOO_MANY_TERMS → SourceCause settings bytes s

source_faulty : (settings : Settings) (source : Origin) (net vectors : List ℕ) (texts : List (List ℕ)) (name : List ℕ) (line : ℕ) (what : Fault)
    → IsFaulty (reads_of (Synth settings source net vectors)) texts name line what → (e : ℕ × TextFault) × (source_says settings.kind (source_bytes settings source texts) ≡ Err e)
source_faulty settings (Demo number) net vectors texts name line what is = absurd is
source_faulty settings (File file) net vectors [] name line what is = absurd is
source_faulty settings (File file) net vectors (bytes ∷ texts) name line what (inl is) = err_of (λ f. fault.Source f) (source_says settings.kind bytes) (line, what) is.1
source_faulty settings (File file) net vectors (bytes ∷ texts) name line what (inr later) = absurd later.1

source_many : (settings : Settings) (source : Origin) (net vectors : List ℕ) (texts : List (List ℕ)) (output : ℕ) → Objects (Synth settings source net vectors) texts (TooManyTerms output)
    → HasTooMany settings (source_bytes settings source texts) output
source_many settings (Demo number) net vectors texts output over = absurd over
source_many settings (File file) net vectors texts output over = over

cause_of : (settings : Settings) (source : Origin) (net vectors : List ℕ) (texts : List (List ℕ)) (r : Refusal) → Objects (Synth settings source net vectors) texts r
    → SourceCause settings (source_bytes settings source texts) (status_of r)
cause_of settings source net vectors texts Words objects = absurd objects
cause_of settings source net vectors texts (ReadFault name) objects = absurd objects
cause_of settings source net vectors texts (TooLong name) objects = absurd objects
cause_of settings source net vectors texts (Text name line what) objects =
    let found = source_faulty settings source net vectors texts name.now line what objects in
    faulty found.0 found.1 refl
cause_of settings source net vectors texts (NamesDiffer name) objects = absurd objects
cause_of settings source net vectors texts (BitCount given wanted) objects = counts given wanted objects refl
cause_of settings source net vectors texts (TooManyTerms output) objects = many output (source_many settings source net vectors texts output objects) refl

-- ---- a netlist and a vector file

grade_status : (mode : Mode) (net vectors : List ℕ) (texts : List (List ℕ)) (r : Refusal) → Objects (Grade mode net vectors) texts r → status_of r ≡ REFUSED
grade_status mode net vectors texts Words objects = absurd objects
grade_status mode net vectors texts (ReadFault name) objects = absurd objects
grade_status mode net vectors texts (TooLong name) objects = absurd objects
grade_status mode net vectors texts (Text name line what) objects = refl
grade_status mode net vectors texts (NamesDiffer name) objects = refl
grade_status mode net vectors texts (BitCount given wanted) objects = absurd objects
grade_status mode net vectors texts (TooManyTerms output) objects = absurd objects

words_status : (texts : List (List ℕ)) (r : Refusal) → Objects Refused texts r → status_of r ≡ WORDS
words_status texts Words objects = refl
words_status texts (ReadFault name) objects = absurd objects
words_status texts (TooLong name) objects = absurd objects
words_status texts (Text name line what) objects = absurd objects
words_status texts (NamesDiffer name) objects = absurd objects
words_status texts (BitCount given wanted) objects = absurd objects
words_status texts (TooManyTerms output) objects = absurd objects

module _ (same_names : (net_bytes vec_bytes : List ℕ) → AreGradable net_bytes vec_bytes → HasOtherNames net_bytes vec_bytes → ⊥)
    (mode : Mode) (net vectors net_bytes vec_bytes : List ℕ) (report : GradeReport) (graded : IsGraded mode net_bytes vec_bytes report) where
  not_faulty : (name : List ℕ) (line : ℕ) (what : Fault) → IsFaulty (reads_of (Grade mode net vectors)) (net_bytes ∷ vec_bytes ∷ []) name line what → ⊥
  not_faulty name line what (inl is) = not_ok _ _ (line, what) graded.net graded.pair.say.net_says is.1
  not_faulty name line what (inr (fine, inl is)) = not_ok _ _ (line, what) graded.file graded.pair.say.file_says is.1
  not_faulty name line what (inr (fine, inr none)) = none.1

  not_refused : (r : Refusal) → Objects (Grade mode net vectors) (net_bytes ∷ vec_bytes ∷ []) r → ⊥
  not_refused Words objects = objects
  not_refused (ReadFault name) objects = objects
  not_refused (TooLong name) objects = objects
  not_refused (Text name line what) objects = not_faulty name.now line what objects
  not_refused (NamesDiffer name) objects = same_names net_bytes vec_bytes (record { net = graded.net; file = graded.file; pair = graded.pair }) objects.1
  not_refused (BitCount given wanted) objects = objects
  not_refused (TooManyTerms output) objects = objects

-- ---- a command

module _ (apart : (settings : Settings) (bytes : List ℕ) (output : ℕ) → IsWithin settings bytes → HasTooMany settings bytes output → ⊥) where
  pub not_within : (settings : Settings) (bytes : List ℕ) (s : ℕ) → SourceCause settings bytes s → IsWithin settings bytes → ⊥
  not_within settings bytes s (faulty e says is) within = (let both = sym says ∙ within.expanded.says in cc both)
  not_within settings bytes s (counts given wanted other is) within = other_count settings bytes given wanted other within.source within.expanded.says within.expanded.expansions.inputs
  not_within settings bytes s (many output over is) within = apart settings bytes output within over

  one_cause : (settings : Settings) (bytes : List ℕ) (s t : ℕ) → SourceCause settings bytes s → SourceCause settings bytes t → s ≡ t
  one_cause settings bytes s t (faulty e says is) (faulty f also was) = is ∙ sym was
  one_cause settings bytes s t (counts given wanted other is) (counts g w also was) = is ∙ sym was
  one_cause settings bytes s t (many output over is) (many o also was) = is ∙ sym was
  one_cause settings bytes s t (faulty e says is) (counts given wanted other was) = absurd (let both = sym says ∙ other.says in cc both)
  one_cause settings bytes s t (faulty e says is) (many output over was) = absurd (let both = sym says ∙ over.expanded.says in cc both)
  one_cause settings bytes s t (counts given wanted other is) (faulty e says was) = absurd (let both = sym says ∙ other.says in cc both)
  one_cause settings bytes s t (counts given wanted other is) (many output over was) =
      absurd (other_count settings bytes given wanted other over.source over.expanded.says over.expanded.expansions.inputs)
  one_cause settings bytes s t (many output over is) (faulty e says was) = absurd (let both = sym says ∙ over.expanded.says in cc both)
  one_cause settings bytes s t (many output over is) (counts given wanted other was) =
      absurd (other_count settings bytes given wanted other over.source over.expanded.says over.expanded.expansions.inputs)

  -- two causes of texts have one status
  pub one_refusal : (asked : Asked) (texts : List (List ℕ)) (r q : Refusal) → Objects asked texts r → Objects asked texts q → status_of r ≡ status_of q
  one_refusal Refused texts r q x y = words_status texts r x ∙ sym (words_status texts q y)
  one_refusal (Synth settings source net vectors) texts r q x y =
      one_cause settings (source_bytes settings source texts) (status_of r) (status_of q) (cause_of settings source net vectors texts r x) (cause_of settings source net vectors texts q y)
  one_refusal (Grade mode net vectors) texts r q x y = grade_status mode net vectors texts r x ∙ sym (grade_status mode net vectors texts q y)

  module _ (same_names : (net_bytes vec_bytes : List ℕ) → AreGradable net_bytes vec_bytes → HasOtherNames net_bytes vec_bytes → ⊥) where
    -- texts of which something is made, and those that are accepted, are not refused
    pub made_or_refused : (asked : Asked) (before after : List Advised) (texts : List (List ℕ)) (p : Product) (r : Refusal) → Makes asked before after texts p → Objects asked texts r → ⊥
    made_or_refused Refused before after texts p r makes objects = makes
    made_or_refused (Synth settings source net vectors) before after texts p r makes objects =
        not_within settings (source_bytes settings source texts) (status_of r) (cause_of settings source net vectors texts r objects) makes.1.within
    made_or_refused (Grade mode net vectors) before after [] p r makes objects = makes
    made_or_refused (Grade mode net vectors) before after (n ∷ []) p r makes objects = makes
    made_or_refused (Grade mode net vectors) before after (n ∷ v ∷ []) p r makes objects = not_refused same_names mode net vectors n v makes.0 makes.1 r objects
    made_or_refused (Grade mode net vectors) before after (n ∷ v ∷ w ∷ ws) p r makes objects = makes

    pub accepted_or_refused : (asked : Asked) (texts : List (List ℕ)) (s : ℕ) (r : Refusal) → Accepts asked texts s → Objects asked texts r → ⊥
    accepted_or_refused Refused texts s r accepts objects = accepts
    accepted_or_refused (Synth settings source net vectors) texts s r accepts objects =
        not_within settings (source_bytes settings source texts) (status_of r) (cause_of settings source net vectors texts r objects) accepts.0
    accepted_or_refused (Grade mode net vectors) [] s r accepts objects = accepts
    accepted_or_refused (Grade mode net vectors) (n ∷ []) s r accepts objects = accepts
    accepted_or_refused (Grade mode net vectors) (n ∷ v ∷ []) s r accepts objects = not_refused same_names mode net vectors n v accepts.0 accepts.1 r objects
    accepted_or_refused (Grade mode net vectors) (n ∷ v ∷ w ∷ ws) s r accepts objects = accepts

module _ (one_grade : (mode : Mode) (net_bytes vec_bytes : List ℕ) (a b : GradeReport) → IsGraded mode net_bytes vec_bytes a → IsGraded mode net_bytes vec_bytes b → a ≡ b) where
  -- what is made of accepted texts has their status
  pub accepted_status : (asked : Asked) (before after : List Advised) (texts : List (List ℕ)) (s : ℕ) (p : Product) → Accepts asked texts s → Makes asked before after texts p → p.status ≡ s
  accepted_status Refused before after texts s p accepts makes = absurd makes
  accepted_status (Synth settings source net vectors) before after texts s p accepts makes = ap (λ q. q.status) makes.2 ∙ sym accepts.1
  accepted_status (Grade mode net vectors) before after [] s p accepts makes = absurd makes
  accepted_status (Grade mode net vectors) before after (n ∷ []) s p accepts makes = absurd makes
  accepted_status (Grade mode net vectors) before after (n ∷ v ∷ []) s p accepts makes =
      ap (λ q. q.status) makes.2 ∙ ap (λ r. finding_status r.wrong r.left) (one_grade mode n v makes.0 accepts.0 makes.1 accepts.1) ∙ sym accepts.2
  accepted_status (Grade mode net vectors) before after (n ∷ v ∷ w ∷ ws) s p accepts makes = absurd makes

  -- one thing is made of the same texts and the same advisors
  module _ (one : (settings : Settings) (bytes : List ℕ) (before after : List Advised) (a b : Texts) → IsMade settings bytes before after a → IsMade settings bytes before after b → a ≡ b) where
    pub one_product : (asked : Asked) (before after : List Advised) (texts : List (List ℕ)) (p q : Product) → Makes asked before after texts p → Makes asked before after texts q → p ≡ q
    one_product Refused before after texts p q x y = absurd x
    one_product (Synth settings source net vectors) before after texts p q x y =
        x.2 ∙ ap synthesis_of (one settings (source_bytes settings source texts) before after x.0 y.0 x.1 y.1) ∙ sym y.2
    one_product (Grade mode net vectors) before after [] p q x y = absurd x
    one_product (Grade mode net vectors) before after (n ∷ []) p q x y = absurd x
    one_product (Grade mode net vectors) before after (n ∷ v ∷ []) p q x y = x.2 ∙ ap (grading_of mode) (one_grade mode n v x.0 y.0 x.1 y.1) ∙ sym y.2
    one_product (Grade mode net vectors) before after (n ∷ v ∷ w ∷ ws) p q x y = absurd x
