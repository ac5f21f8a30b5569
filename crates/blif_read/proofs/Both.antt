-- What a text with external don't cares says.
use Rattle.std.proofs.Common.{◌≡◌, ℕ, Option, Some, None, Result, Ok, Err, List, [], false, refl, sym, ap, ap₂, subst, ◌∙◌}
use Rattle.std.specs.Prelude.{is_some}
use Rattle.std.specs.Option.{option_or}
use Rattle.ae_base.proofs.Results.{or_none}
use Rattle.ae_lex.specs.First.{first_fault, judged}
use Rattle.ae_lex.specs.Heads.{Word}
use Rattle.ae_lex.specs.Reads.{Gives, words_of}
use Rattle.ae_lex.specs.Words.{WordLine, word_lines, last_line}
use Rattle.ae_lex.specs.declared.errors.TextErr.{TextErr}
use Rattle.ae_lex.specs.declared.errors.TextErr.TheVariants as errors
use Rattle.ae_lex.specs.declared.text.Style.TheVariants.{Blif}
use Rattle.ae_net.specs.NetSource.{NetSource, FreesOutputs, IsValidSource}
use Rattle.ae_net.specs.Network.{Network}
use Rattle.blif_read.specs.Build.{ArePart, declared_in, lines_say, part_says}
use Rattle.blif_read.specs.Limits.{KeepsLimits}
use Rattle.blif_read.specs.Says.{Declared, model_of, faults, model_fault, model_net, model_says, blif_says}
use Rattle.blif_read.specs.Seen as spec
use Rattle.blif_read.specs.Seen.{Tells}
use Rattle.blif_read.specs.SourceSays.{declared_by, part_fault, part_net, as_source, both_say, parts_say, exdc_place, has_exdc, source_says}
use Rattle.blif_read.specs.declared.fault.BlifFault.{BlifFault}
use Rattle.blif_read.specs.declared.fault.NetLimits.TheVariants.{Source}
use Rattle.blif_read.specs.declared.seen.Seen.{Seen}
use Rattle.blif_read.proofs.Said.{no_fault, all_said, made_valid, made_keeps, made_model, made_frees, lines_made, part_are, declared_is, part_made}

abbrev source : Network → Option Network → NetSource
source net free = record { net = net; free = free }

abbrev pub IsFine : NetSource → Type 0
IsFine s = IsValidSource s × KeepsLimits Source s.net

-- ---- a model and its don't care part

-- what the lines of both say where none has a fault, and neither whole has
both_fine : (last : ℕ) (lines part : List WordLine) → let said = words_of lines in let model = declared_by said in
    first_fault (faults Source None) [] lines ≡ None → first_fault (faults Source (Some model)) [] part ≡ None → model_fault last lines ≡ None → part_fault model part ≡ None
    → IsFine (source (model_net said) (Some (part_net (model_of said) model (words_of part))))
both_fine last lines part none part_none whole part_whole =
    let said = words_of lines in
    let model = declared_by said in
    let net = model_net said in
    let name = model_of said in
    let free = part_net name model (words_of part) in
    let says : lines_say last lines ≡ Ok net = rw whole refl in
    let seen = spec.seen (Some model) (words_of part) in
    let m = (lines_made Source last lines net none says).2 in
    let f = part_made part seen name (part_are Source last lines part seen net none says part_none refl) part_whole m.named in (
      record {
        valid = made_valid Source _ _ _ net m;
        frees = λ other e. let is : free ≡ other = cc in subst (FreesOutputs net) is (made_frees Source Source _ _ _ net free m f);
      },
      made_keeps Source _ _ _ net m,
    )

pub both_ok : (last : ℕ) (lines part : List WordLine) (s : NetSource) → both_say last lines part ≡ Ok s → IsFine s
both_ok last lines part s h =
    let model = declared_by (words_of lines) in
    let first = first_fault (faults Source None) [] lines in
    let second = first_fault (faults Source (Some model)) [] part in
    let a = no_fault (option_or first second) (option_or (model_fault last lines) (part_fault model part)) _ s h in
    let each = or_none first second a.0 in
    let b = all_said (option_or (model_fault last lines) (part_fault model part)) _ s a.1 in
    let whole = or_none (model_fault last lines) (part_fault model part) b.0 in
    subst IsFine b.1 (both_fine last lines part each.0 each.1 whole.0 whole.1)

-- ---- a text

as_source_ok : (r : Result Network (ℕ × BlifFault)) (s : NetSource) → as_source r ≡ Ok s → (net : Network) × (r ≡ Ok net) × (source net None ≡ s)
as_source_ok (Ok net) s h = (let is : source net None ≡ s = cc in (net, refl, is))
as_source_ok (Err e) s h = absurd cc

model_ok : (last : ℕ) (lines : List WordLine) (net : Network) → model_says Source last lines ≡ Ok net → IsFine (source net None)
model_ok last lines net h =
    let p = no_fault (first_fault (faults Source None) [] lines) _ _ net h in
    let m = (lines_made Source last lines net p.0 p.1).2 in
    (record { valid = made_valid Source _ _ _ net m; frees = λ free e. absurd cc }, made_keeps Source _ _ _ net m)

parts_ok : (o : Option ℕ) (last : ℕ) (lines : List WordLine) (s : NetSource) → parts_say o last lines ≡ Ok s → IsFine s
parts_ok None last lines s h = (let a = as_source_ok (model_says Source last lines) s h in subst IsFine a.2 (model_ok last lines a.0 a.1))
parts_ok (Some k) last lines s h = both_ok last _ _ s h

pub source_ok : (text : List ℕ) (s : NetSource) → source_says text ≡ Ok s → IsFine s
unfolding source_says
source_ok text s h = parts_ok (exdc_place (word_lines Blif text)) (last_line text) (word_lines Blif text) s h

pub source_plain : (text : List ℕ) → has_exdc text ≡ false → source_says text ≡ as_source (blif_says Source text)
unfolding source_says blif_says
source_plain text h = pick (exdc_place (word_lines Blif text)) h
  where
    pick : (o : Option ℕ) → is_some o ≡ false → parts_say o (last_line text) (word_lines Blif text) ≡ as_source (model_says Source (last_line text) (word_lines Blif text))
    pick None h = refl
    pick (Some k) h = absurd cc

-- ---- for the reader

pub source_at : (text : List ℕ) (lines : List WordLine) (last k : ℕ) → lines ≡ word_lines Blif text → last ≡ last_line text → exdc_place lines ≡ Some k → source_says text ≡ parts_say (Some k) last lines
unfolding source_says
source_at text lines last k is at e = ap₂ (λ (ls : List WordLine) n. parts_say (exdc_place ls) n ls) (sym is) (sym at) ∙ ap (λ o. parts_say o last lines) e

-- a line of the part has a fault, and none of the model
pub part_line : (last : ℕ) (lines part : List WordLine) (e : TextErr BlifFault) → first_fault (faults Source None) [] lines ≡ None
    → Tells {X = Unit {0}} (first_fault (faults Source (Some (declared_by (words_of lines)))) [] part) (Unit {0}) (Err e) → Gives (both_say last lines part) (Err e)
part_line last lines part (errors.At n f) none found = rw (none, found) refl
part_line last lines part errors.Memory none found = tt

-- a network with what is said of its don't cares
abbrev onto : Network → Result Network (ℕ × BlifFault) → Result NetSource (ℕ × BlifFault)
onto net (Ok free) = Ok (source net (Some free))
onto net (Err fault) = Err fault

-- lines of a model that say a network, and those of a part, all without a fault
pub record AreRead (last : ℕ) (lines part : List WordLine) (seen : Seen) (net : Network) : Type 0 where
  pub none : first_fault (faults Source None) [] lines ≡ None
  pub says : lines_say last lines ≡ Ok net
  pub part_none : first_fault (faults Source (Some (declared_by (words_of lines)))) [] part ≡ None
  pub seen_is : seen ≡ spec.seen (Some (declared_by (words_of lines))) (words_of part)

pub read_part : (last : ℕ) (lines part : List WordLine) (seen : Seen) (net : Network) → AreRead last lines part seen net → ArePart part seen
read_part last lines part seen net r = part_are Source last lines part seen net r.none r.says r.part_none r.seen_is

both_is : (last : ℕ) (lines part : List WordLine) (seen : Seen) (net : Network) (name : List ℕ) → AreRead last lines part seen net → name ≡ net.model → both_say last lines part ≡ onto net (part_says name part seen)
both_is last lines part seen net name r is =
    let said = words_of lines in
    let model = declared_by said in
    let h = part_are Source last lines part seen net r.none r.says r.part_none r.seen_is in
    let same = declared_is part seen model h.faultless in
    let whole = all_said (model_fault last lines) (model_net said) net r.says in
    let named : model_of said ≡ name = sym (made_model Source _ _ _ net (lines_made Source last lines net r.none r.says).2) ∙ sym is in
    let each : Network → Word → Declared → Result NetSource (ℕ × BlifFault) = λ n m d. judged (part_fault d part) (source n (Some (part_net m d (words_of part)))) in
    rw (r.none, r.part_none, whole.0) refl ∙ ap₂ (λ n m. each n m model) whole.1 named ∙ ap (each net name) (sym same)
    ∙ judged_onto (part_fault (declared_in seen) part) (part_net name (declared_in seen) (words_of part))
  where
    judged_onto : (f : Option (ℕ × BlifFault)) (free : Network) → judged f (source net (Some free)) ≡ onto net (judged f free)
    judged_onto None free = refl
    judged_onto (Some f) free = refl

pub both_err : (last : ℕ) (lines part : List WordLine) (seen : Seen) (net : Network) (name : List ℕ) (e : TextErr BlifFault) → AreRead last lines part seen net → name ≡ net.model → Gives (part_says name part seen) (Err e) → Gives (both_say last lines part) (Err e)
both_err last lines part seen net name (errors.At n f) r is h = both_is last lines part seen net name r is ∙ ap (onto net) h
both_err last lines part seen net name errors.Memory r is h = tt

pub both_said : (last : ℕ) (lines part : List WordLine) (seen : Seen) (net : Network) (name : List ℕ) (free : Network) → AreRead last lines part seen net → name ≡ net.model → part_says name part seen ≡ Ok free → both_say last lines part ≡ Ok (source net (Some free))
both_said last lines part seen net name free r is h = both_is last lines part seen net name r is ∙ ap (onto net) h
