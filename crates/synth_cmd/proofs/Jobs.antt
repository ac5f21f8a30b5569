-- What is made of the texts that a command reads, or why nothing is; and what the files hold after texts are written.
use Rattle.std.proofs.Common.{◌≡◌, ◌⊎◌, ◌∙◌, ◌∷◌, [], ap, sym, subst, refl, inl, inr, Option, None, Some, List, ℕ}
use Rattle.std.specs.Prelude.{Err, Ok, Result, Vec}
use Rattle.std.specs.List.{zip}
use Rattle.std.specs.declared.alloc.Global.{Global}
use Rattle.ae_outside.specs.Counts.{Tally, CountsAt, RoseAt}
use Rattle.ae_outside.specs.Files.{Shelf, written, IsWrittenInPart}
use Rattle.blif_read.specs.Says.{blif_says}
use Rattle.blif_read.specs.declared.fault.BlifFault.{BlifFault}
use Rattle.blif_read.specs.declared.fault.NetLimits.TheVariants.{Written}
use Rattle.demo_source.specs.Demo.{demo_text}
use Rattle.grading.specs.Grade.{IsGraded}
use Rattle.grading.specs.Pair.{HasOtherNames, HasVectorFault}
use Rattle.grading.specs.declared.pair_error.PairErr.{PairErr}
use Rattle.grading.specs.declared.pair_error.PairErr.TheVariants as pair_err
use Rattle.grading.specs.declared.report.GradeReport.{GradeReport}
use Rattle.grading.specs.declared.report.Mode.{Mode}
use Rattle.polarity.specs.Search.{Advised}
use Rattle.synth_core.specs.Asked.{HasOtherCount, HasTooMany, IsWithin}
use Rattle.synth_core.specs.Errors.{of_text}
use Rattle.synth_core.specs.Made.{IsMade, Texts}
use Rattle.synth_core.specs.declared.error.SynthErr.{SynthErr}
use Rattle.synth_core.specs.declared.error.SynthErr.TheVariants as synth_err
use Rattle.synth_core.specs.declared.fault.TextFault.TheVariants as text
use Rattle.synth_core.specs.Says.{source_says}
use Rattle.synth_core.specs.Searched.{AdvisorsStand}
use Rattle.synth_core.specs.declared.fault.TextFault.{TextFault}
use Rattle.synth_core.specs.declared.settings.Settings.{Settings}
use Rattle.synth_core.specs.declared.settings.SourceKind.TheVariants.{Pla}
use Rattle.synth_cmd.specs.Asked.{Asked, Origin}
use Rattle.synth_cmd.specs.Asked.Asked.{Grade, Synth}
use Rattle.synth_cmd.specs.Asked.Origin.{File, Demo}
use Rattle.synth_cmd.specs.Ends.{WasText}
use Rattle.synth_cmd.specs.Outcome.{IsMadeOf, IsRefused, Makes, Objects, Product, StopsAt, Unread, all_written, grading_of, source_bytes, synthesis_of}
use Rattle.synth_cmd.specs.Outside.{World}
use Rattle.synth_cmd.specs.Reading.{ComesTo, HoldsText, HoldTexts, IsFaulty, fault_as, first_fault, names_read, names_written, reads_of}
use Rattle.synth_cmd.specs.Reading.Reader.{Netlist, Source, Vectors}
use Rattle.synth_cmd.specs.Stops.{of_pair, of_synth}
use Rattle.synth_cmd.specs.Telling.{Comes, Gives, GivesSource, ReadsTexts, WritesTexts}
use Rattle.synth_cmd.specs.Words.{HasKind, IsAcceptedDemo, name_of}
use Rattle.synth_cmd.specs.declared.stop.Fault.{Fault}
use Rattle.synth_cmd.specs.declared.stop.Fault.TheVariants as fault
use Rattle.synth_cmd.specs.declared.stop.Refusal.{Refusal}
use Rattle.synth_cmd.specs.declared.stop.Refusal.TheVariants.{Words, ReadFault, TooLong, Text, NamesDiffer, BitCount, TooManyTerms}
use Rattle.synth_cmd.specs.declared.stop.Stop.{Stop}
use Rattle.synth_cmd.specs.declared.stop.Stop.TheVariants as stop
use Rattle.synth_cmd.specs.declared.stop.Unmade.{Unmade}
use Rattle.synth_cmd.specs.declared.stop.Unmade.TheVariants as unmade
use Rattle.synth_cmd.specs.declared.TheConstants.{REFUSED, TOO_MANY_TERMS, WORDS}
use Rattle.vec_text.specs.declared.fault.VecFault.{VecFault}
use Rattle.synth_cmd.proofs.Answered.{SourceCause, not_within}
use Rattle.synth_cmd.proofs.Answered.SourceCause.{faulty, counts, many}
use Rattle.synth_cmd.proofs.Names.{rose_since}

-- ---- reading

-- a file that is not read, where others come after it
comes_first : (held : Option Shelf) (first : List ℕ) (names : List (List ℕ)) (name : List ℕ) → ComesTo held (first ∷ []) name → ComesTo held (first ∷ names) name
comes_first held first names name (inl e) = inl e
comes_first held first names name (inr later) = absurd later.1

pub unread_first : (held : Option Shelf) (before now : Tally) (first : List ℕ) (names : List (List ℕ)) (r : Refusal) → Unread held before now (first ∷ []) r → Unread held before now (first ∷ names) r
unread_first held before now first names (ReadFault file) unread = (comes_first held first names file.now unread.0, unread.1)
unread_first held before now first names (TooLong file) unread = (comes_first held first names file.now unread.0, unread.1)
unread_first held before now first names Words unread = absurd unread
unread_first held before now first names (Text file line what) unread = absurd unread
unread_first held before now first names (NamesDiffer file) unread = absurd unread
unread_first held before now first names (BitCount given wanted) unread = absurd unread
unread_first held before now first names (TooManyTerms output) unread = absurd unread

-- one that is not read after the first was
pub unread_later : (held mid : Option Shelf) (before between now : Tally) (first text : List ℕ) (names : List (List ℕ)) (r : Refusal) → mid ≡ held → CountsAt first before between → HoldsText held first text
    → Unread mid between now names r → Unread held before now (first ∷ names) r
unread_later held mid before between now first text names (ReadFault file) stays tally was unread =
    (inr ((text, was), subst (λ h. ComesTo h names file.now) stays unread.0), rose_since file.now first before between now tally unread.1)
unread_later held mid before between now first text names (TooLong file) stays tally was unread =
    let here = subst (λ h. Unread h between now names (TooLong file)) stays unread in
    (inr ((text, was), here.0), here.1)
unread_later held mid before between now first text names Words stays tally was unread = absurd unread
unread_later held mid before between now first text names (Text file line what) stays tally was unread = absurd unread
unread_later held mid before between now first text names (NamesDiffer file) stays tally was unread = absurd unread
unread_later held mid before between now first text names (BitCount given wanted) stays tally was unread = absurd unread
unread_later held mid before between now first text names (TooManyTerms output) stays tally was unread = absurd unread

pub reads_first : {T U : Type 0} (t : T → List (List ℕ)) (v : U → List (List ℕ)) (held : Option Shelf) (before now : Tally) (first : List ℕ) (names : List (List ℕ)) (u : Unmade)
    → ReadsTexts t held before now (first ∷ []) (Err u) → ReadsTexts v held before now (first ∷ names) (Err u)
reads_first t v held before now first names (unmade.Refused r) reads = unread_first held before now first names r reads
reads_first t v held before now first names unmade.Memory reads = tt

pub reads_later : {T U : Type 0} (t : T → List (List ℕ)) (v : U → List (List ℕ)) (held mid : Option Shelf) (before between now : Tally) (first text : List ℕ) (names : List (List ℕ)) (u : Unmade) → mid ≡ held
    → CountsAt first before between → HoldsText held first text → ReadsTexts t mid between now names (Err u) → ReadsTexts v held before now (first ∷ names) (Err u)
reads_later t v held mid before between now first text names (unmade.Refused r) stays tally was reads = unread_later held mid before between now first text names r stays tally was reads
reads_later t v held mid before between now first text names unmade.Memory stays tally was reads = tt

pub hold_two : (held mid : Option Shelf) (first second a b : List ℕ) → mid ≡ held → HoldsText held first a → HoldsText mid second b → HoldTexts held (first ∷ second ∷ []) (a ∷ b ∷ [])
hold_two held mid first second a b stays x y = (x, (subst (λ h. HoldsText h second b) stays y, tt))

-- ---- a source

-- the texts of which a source is one
abbrev pub source_texts : Origin → List ℕ → List (List ℕ)
source_texts (File name) bytes = bytes ∷ []
source_texts (Demo number) bytes = []

module _ (settings : Settings) (net vectors : List ℕ) (held : Option Shelf) where
  pub source_hold : (source : Origin) (bytes : List ℕ) → WasText settings held source bytes → HoldTexts held (names_read (Synth settings source net vectors)) (source_texts source bytes)
  source_hold (File name) bytes was = (was, tt)
  source_hold (Demo number) bytes was = tt

  pub source_is : (source : Origin) (bytes : List ℕ) → WasText settings held source bytes → source_bytes settings source (source_texts source bytes) ≡ bytes
  source_is (File name) bytes was = refl
  source_is (Demo number) bytes was = sym was

  -- a fault of its text; that of a demo has none
  pub source_faulty : (source : Origin) (bytes name : List ℕ) → name ≡ name_of source → IsAcceptedDemo settings.form source → HasKind settings source → WasText settings held source bytes
      → (line : ℕ) (what : TextFault) → source_says settings.kind bytes ≡ Err (line, what) → IsFaulty (reads_of (Synth settings source net vectors)) (source_texts source bytes) name line (fault.Source what)
  source_faulty (File file) bytes name is drawn kind was line what says = inl (is, ap (fault_as (λ f. fault.Source f)) says)
  source_faulty (Demo number) bytes name is drawn kind was line what says =
      absurd (drawn.0 line what (sym (ap (source_says Pla) was) ∙ subst (λ k. source_says k bytes ≡ Err (line, what)) kind says))

  source_many : (source : Origin) (bytes : List ℕ) → IsAcceptedDemo settings.form source → HasKind settings source → WasText settings held source bytes → (output : ℕ) → HasTooMany settings bytes output
      → Objects (Synth settings source net vectors) (source_texts source bytes) (TooManyTerms output)
  source_many (File file) bytes drawn kind was output over = over
  source_many (Demo number) bytes drawn kind was output over = absurd (drawn.1 settings output kind refl (subst (λ b. HasTooMany settings b output) was over))

-- where a source is refused, no advisor was asked
kept : (apart : (settings : Settings) (bytes : List ℕ) (output : ℕ) → IsWithin settings bytes → HasTooMany settings bytes output → ⊥)
    (settings : Settings) (bytes : List ℕ) (before after : List Advised) (s : ℕ) → AdvisorsStand settings (λ b. b ≡ bytes) before after → SourceCause settings bytes s → after ≡ before
kept apart settings bytes before after s (inl is) cause = is
kept apart settings bytes before after s (inr search) cause = absurd (not_within apart settings bytes s cause (subst (IsWithin settings) search.was search.within))

module _ (apart : (settings : Settings) (bytes : List ℕ) (output : ℕ) → IsWithin settings bytes → HasTooMany settings bytes output → ⊥)
    (settings : Settings) (source : Origin) (net vectors bytes : List ℕ) (old new : World) (drawn : IsAcceptedDemo settings.form source) (kind : HasKind settings source)
    (was : WasText settings old.held source bytes) (stays : new.held ≡ old.held) (stand : AdvisorsStand settings (λ b. b ≡ bytes) old.advisors new.advisors) where
  refused_for : (r : Refusal) (s : ℕ) → Objects (Synth settings source net vectors) (source_texts source bytes) r → SourceCause settings bytes s → IsRefused (Synth settings source net vectors) old new r
  refused_for r s objects cause = record {
    cause = inr (source_texts source bytes, source_hold settings net vectors old.held source bytes was, objects);
    held = stays;
    advisors = kept apart settings bytes old.advisors new.advisors s stand cause;
  }

  -- a source is refused for the cause that the error tells
  pub synth_unmade : {T : Type 0} (p : T → Product) (tells : ℕ → TextFault → Refusal) (e : SynthErr)
      → ((line : ℕ) (what : TextFault) → source_says settings.kind bytes ≡ Err (line, what) → Objects (Synth settings source net vectors) (source_texts source bytes) (tells line what))
      → ((line : ℕ) (what : TextFault) → e ≡ of_text line what → source_says settings.kind bytes ≡ Err (line, what))
      → ((given wanted : ℕ) → e ≡ synth_err.BitCount given wanted → HasOtherCount settings bytes given wanted) → ((output : ℕ) → e ≡ synth_err.TooManyTerms output → HasTooMany settings bytes output)
      → Gives p (Synth settings source net vectors) old new (Err (of_synth tells e))
  synth_unmade p tells (synth_err.Pla line what) objects says count most =
      let said = says line (text.Pla what) refl in
      refused_for (tells line (text.Pla what)) REFUSED (objects line (text.Pla what) said) (faulty (line, text.Pla what) said refl)
  synth_unmade p tells (synth_err.Blif line what) objects says count most =
      let said = says line (text.Blif what) refl in
      refused_for (tells line (text.Blif what)) REFUSED (objects line (text.Blif what) said) (faulty (line, text.Blif what) said refl)
  synth_unmade p tells (synth_err.BitCount given wanted) objects says count most =
      let other = count given wanted refl in
      refused_for (BitCount given wanted) WORDS (subst (λ b. HasOtherCount settings b given wanted) (sym (source_is settings net vectors old.held source bytes was)) other) (counts given wanted other refl)
  synth_unmade p tells (synth_err.TooManyTerms output) objects says count most =
      let over = most output refl in
      refused_for (TooManyTerms output) TOO_MANY_TERMS (source_many settings net vectors old.held source bytes drawn kind was output over) (many output over refl)
  synth_unmade p tells synth_err.Memory objects says count most = tt

  -- what is made of it
  pub synth_made : (made : Texts) → IsMade settings bytes old.advisors new.advisors made → IsMadeOf (Synth settings source net vectors) old new (synthesis_of made)
  synth_made made is = record {
    texts = source_texts source bytes;
    hold = source_hold settings net vectors old.held source bytes was;
    makes = (made, subst (λ b. IsMade settings b old.advisors new.advisors made) (sym (source_is settings net vectors old.held source bytes was)) is, refl);
  }

-- where a file is not read, nothing is made
pub unread_gives : {T U : Type 0} (t : U → List (List ℕ)) (p : T → Product) (asked : Asked) (old new : World) (u : Unmade) → new.held ≡ old.held → new.advisors ≡ old.advisors
    → ReadsTexts t old.held old.reads new.reads (names_read asked) (Err u) → Gives p asked old new (Err u)
unread_gives t p asked old new (unmade.Refused r) stays same unread = record { cause = inl unread; held = stays; advisors = same }
unread_gives t p asked old new unmade.Memory stays same unread = tt

pub source_gives : {T : Type 0} (p : T → Product) (settings : Settings) (source : Origin) (asked : Asked) (old new : World) (u : Unmade) → new.held ≡ old.held → new.advisors ≡ old.advisors
    → GivesSource settings source (names_read asked) old.held old.reads new.reads (Err u) → Gives p asked old new (Err u)
source_gives p settings source asked old new (unmade.Refused r) stays same unread = record { cause = inl unread; held = stays; advisors = same }
source_gives p settings source asked old new unmade.Memory stays same unread = tt

-- the bytes of a file are those of a source
pub file_gives : (settings : Settings) (name : List ℕ) (held : Option Shelf) (before now : Tally) (r : Result (Vec ℕ Global) Unmade) → ReadsTexts (λ bytes. bytes.items ∷ []) held before now (name ∷ []) r
    → GivesSource settings (File name) (name ∷ []) held before now r
file_gives settings name held before now (Ok bytes) reads = reads.0
file_gives settings name held before now (Err (unmade.Refused r)) reads = reads
file_gives settings name held before now (Err unmade.Memory) reads = tt

-- ---- a netlist and a vector file

module _ (mode : Mode) (net vectors net_bytes vec_bytes : List ℕ) (old new : World) (hold : HoldTexts old.held (net ∷ vectors ∷ []) (net_bytes ∷ vec_bytes ∷ [])) (stays : new.held ≡ old.held) (same : new.advisors ≡ old.advisors) where
  pair_refused_for : (r : Refusal) → Objects (Grade mode net vectors) (net_bytes ∷ vec_bytes ∷ []) r → IsRefused (Grade mode net vectors) old new r
  pair_refused_for r objects = record { cause = inr (net_bytes ∷ vec_bytes ∷ [], hold, objects); held = stays; advisors = same }

  -- a pair is refused for the cause that the error tells
  pub grade_unmade : {T : Type 0} (p : T → Product) (in_net in_vectors : ℕ → Fault → Refusal) (differ : Refusal) (e : PairErr)
      → ((line : ℕ) (what : Fault) → first_fault Netlist net_bytes ≡ Some (line, what) → Objects (Grade mode net vectors) (net_bytes ∷ vec_bytes ∷ []) (in_net line what))
      → ((line : ℕ) (what : Fault) → first_fault Netlist net_bytes ≡ None → first_fault Vectors vec_bytes ≡ Some (line, what) → Objects (Grade mode net vectors) (net_bytes ∷ vec_bytes ∷ []) (in_vectors line what))
      → (HasOtherNames net_bytes vec_bytes → Objects (Grade mode net vectors) (net_bytes ∷ vec_bytes ∷ []) differ)
      → ((line : ℕ) (what : BlifFault) → e ≡ pair_err.Blif line what → blif_says Written net_bytes ≡ Err (line, what))
      → ((line : ℕ) (what : VecFault) → e ≡ pair_err.Vector line what → HasVectorFault net_bytes vec_bytes line what) → (e ≡ pair_err.NamesDiffer → HasOtherNames net_bytes vec_bytes)
      → Gives p (Grade mode net vectors) old new (Err (of_pair in_net in_vectors differ e))
  grade_unmade p in_net in_vectors differ (pair_err.Blif line what) first second third says vec names =
      pair_refused_for (in_net line (fault.Source (text.Blif what))) (first line (fault.Source (text.Blif what)) (ap (fault_as (λ f. fault.Source (text.Blif f))) (says line what refl)))
  grade_unmade p in_net in_vectors differ (pair_err.Vector line what) first second third says vec names =
      let found = vec line what refl in
      pair_refused_for (in_vectors line (fault.Vectors what))
      (second line (fault.Vectors what) (ap (fault_as (λ f. fault.Source (text.Blif f))) found.net_says) (ap (fault_as (λ f. fault.Vectors f)) found.file_says))
  grade_unmade p in_net in_vectors differ pair_err.NamesDiffer first second third says vec names = pair_refused_for differ (third (names refl))
  grade_unmade p in_net in_vectors differ pair_err.Memory first second third says vec names = tt

  pub grade_made : (report : GradeReport) → IsGraded mode net_bytes vec_bytes report → IsMadeOf (Grade mode net vectors) old new (grading_of mode report)
  grade_made report graded = record { texts = net_bytes ∷ vec_bytes ∷ []; hold = hold; makes = (report, graded, refl) }

-- ---- writing

module _ (net vectors net_text vec_text : List ℕ) (old new : Option Shelf) where
  abbrev files : List (List ℕ × List ℕ)
  files = (net, net_text) ∷ (vectors, vec_text) ∷ []

  pub stops_first : IsWrittenInPart old net net_text new → StopsAt net files old new
  stops_first part = record { before = []; text = net_text; after = (vectors, vec_text) ∷ []; order = refl; in_part = part }

  pub stops_second : (mid : Option Shelf) → mid ≡ written old net net_text → IsWrittenInPart mid vectors vec_text new → StopsAt vectors files old new
  stops_second mid is part = record { before = (net, net_text) ∷ []; text = vec_text; after = []; order = refl; in_part = subst (λ h. IsWrittenInPart h vectors vec_text new) is part }

moved : (asked : Asked) (old mid new : World) (p : Product) → new.advisors ≡ mid.advisors → IsMadeOf asked old mid p → IsMadeOf asked old new p
moved asked old mid new p same made = record { texts = made.texts; hold = made.hold; makes = subst (λ after. Makes asked old.advisors after made.texts p) (sym same) made.makes }

-- what is made and then written, or written in part
module _ {T : Type 0} (product : T → Product) (t : T) (asked : Asked) (old mid new : World) (same : new.advisors ≡ mid.advisors) (stays : mid.held ≡ old.held) (made : IsMadeOf asked old mid (product t)) where
  abbrev pairs : List (List ℕ × List ℕ)
  pairs = zip (names_written asked) (product t).texts

  pub comes_written : new.held ≡ all_written mid.held pairs → new.reads ≡ old.reads → new.writes ≡ old.writes → Comes product asked old new (Ok t)
  comes_written whole reads writes = (moved asked old mid new (product t) same made, whole ∙ ap (λ h. all_written h pairs) stays, reads, writes)

  pub comes_stopped : (s : Stop) → mid.writes ≡ old.writes → WritesTexts (names_written asked) (product t).texts mid.writes new.writes mid.held new.held (Err s) → Comes product asked old new (Err s)
  comes_stopped (stop.Refused r) tally writes = absurd writes
  comes_stopped (stop.WriteFault file) tally writes =
      (product t, (writes.0, subst (λ b. RoseAt file.now b new.writes) tally writes.1, moved asked old mid new (product t) same made, subst (λ h. StopsAt file.now pairs h new.held) stays writes.2))
  comes_stopped stop.Memory tally writes = inr (writes.0, product t, moved asked old mid new (product t) same made, subst (λ h. StopsAt writes.0 pairs h new.held) stays writes.1)

-- what becomes of advisors in a synthesis of the bytes that a source was
pub advisors_of : (settings : Settings) (Was : List ℕ → Type 0) (bytes : List ℕ) (before after : List Advised) → Was bytes
    → AdvisorsStand settings (λ b. b ≡ bytes) before after → AdvisorsStand settings Was before after
advisors_of settings Was bytes before after was (inl kept) = inl kept
advisors_of settings Was bytes before after was (inr search) =
    inr (record { asked = search.asked; bytes = bytes; was = was; within = subst (IsWithin settings) search.was search.within; stand = search.stand })
