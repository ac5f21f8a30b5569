-- What is read of a cover and of a network is what the source says.
use Rattle.std.proofs.Common.{◌≡◌, ◌≢◌, ◌≤◌, ◌-◌, ℕ, Bool, true, List, length, get_or, refl, sym, ap, ◌∙◌, subst, arith, inl, inr}
use Rattle.std.specs.Prelude.{All, Some, None, Result, Ok, Err, IsErrAnd, slice_get}
use Rattle.ae_base.proofs.Results.{passed_on}
use Rattle.std.proofs.lemmas.Bool.{and_parts, leb-true}
use Rattle.std.proofs.lemmas.Option.{slice_get-get_or}
use Rattle.std.proofs.lemmas.List.{length-map}
use Rattle.std.proofs.lemmas.List.Elements.{All-weaker}
use Rattle.ae_base.specs.Mask.{Set}
use Rattle.ae_base.specs.Cube.{Signs}
use Rattle.ae_base.specs.Name.{is_name, is_source_name}
use Rattle.ae_base.specs.Source.{Source, on_set}
use Rattle.ae_base.specs.declared.limits.TheConstants.{SOURCE_NAME_BYTES}
use Rattle.ae_net.specs.Names.{IsNames}
use Rattle.ae_net.specs.Network.{Network, gate_at}
use Rattle.ae_net.specs.Source.{source_of}
use Rattle.ae_net.specs.Valid.{IsValid}
use Rattle.blif_read.specs.Limits.{KeepsLimits}
use Rattle.blif_read.specs.declared.fault.NetLimits.TheVariants.{Source as source_limits}
use Rattle.fn_store.specs.Functions.{Functions, IsLive, Shows}
use Rattle.net_fn.specs.Refs.{ShowEach}
use Rattle.fn_store.specs.declared.store.FnRef.{FnRef}
use Rattle.expansion.specs.Stores.{expanded}
use Rattle.expansion.specs.Functions.{AreExpansions}
use Rattle.expansion.specs.Kept.{KeepsFunctions}
use Rattle.expansion.specs.Terms.{Terms, cost, PassesAt}
use Rattle.polarity.specs.Search.{Advised}
use Rattle.polarity.specs.Makers.{OfEachSource}
use Rattle.cascade.specs.Shows.{Fits}
use Rattle.expansion.specs.declared.functions.ExpandErr.{ExpandErr}
use Rattle.expansion.specs.declared.functions.ExpandErr.TheVariants as expand_err
use Rattle.synth_core.specs.declared.error.SynthErr.TheVariants as err
use Rattle.synth_core.specs.Errors.{of_expand}
use Rattle.synth_core.specs.declared.error.SynthErr.{SynthErr}
use Rattle.synth_core.specs.declared.settings.Settings.{Settings}
use Rattle.synth_core.specs.Asked.{HasOtherCount, polarity_of, terms_limit}
use Rattle.synth_core.specs.Says.{source_says}
use Rattle.synth_core.specs.Made.{IsSynthesised, Texts, names_of}
use Rattle.synth_core.specs.Sourced.{Parts, IsSourced, IsWhole}
use Rattle.synth_core.specs.Steps.{ComesOf, HasFewTerms, IsMadeOf, OnlyAsked, OnlySearched, TooMany}
use Rattle.synth_core.specs.declared.settings.Choice.{Choice}
use Rattle.ae_base.specs.declared.form.Form.{Form}
use Rattle.synth_core.proofs.Shown.{listed_distinct, all_listed}

-- ---- names

name_of : (name : List ℕ) → is_source_name name ≡ true → (is_name name ≡ true) × (length name ≤ SOURCE_NAME_BYTES)
name_of name h = ((and_parts _ _ h).0, leb-true _ _ (and_parts _ _ h).1)

pub net_named : (n : Network) → IsValid n → KeepsLimits source_limits n → IsNames (names_of (source_of n))
net_named n valid keeps = record {
  model_named = valid.model_named;
  some_input = valid.some_input;
  few_inputs = keeps.few_inputs;
  some_output = omega (arith, valid.some_output, length-map n.outputs (λ s. (gate_at n (s - length n.inputs)).out));
  few_outputs = omega (arith, keeps.few_outputs, length-map n.outputs (λ s. (gate_at n (s - length n.inputs)).out));
  distinct = listed_distinct n valid;
  each = all_listed n valid (λ name. (is_name name ≡ true) × (length name ≤ SOURCE_NAME_BYTES)) (All-weaker (λ name. is_source_name name ≡ true) _ name_of _ keeps.named);
}

-- ---- what is expanded

module _ (s : Source) (p : Signs) (r : Parts) (is : IsSourced s p r)
    (law : (source : Source) (s : Functions) (refs : List FnRef) → s.polarity.n ≡ length source.inputs → length refs ≡ length source.outputs
    → ((o : ℕ) (r : FnRef) → slice_get refs o ≡ Some r → Shows s r (on_set source o)) → AreExpansions source s.polarity (expanded s refs)) where
  are_expansions : AreExpansions s p (expanded r.functions r.outputs)
  are_expansions =
      subst (λ q. AreExpansions s q (expanded r.functions r.outputs)) is.polarity
      (law s r.functions r.outputs (ap (λ q. q.n) is.polarity ∙ is.inputs) is.count is.shows.each)

  pub is_too_many : (form : Form) (limit output : ℕ) → limit ≡ terms_limit form → PassesAt limit (expanded r.functions r.outputs).outs output → TooMany form s p output
  is_too_many form limit output is passes =
      record { expansions = expanded r.functions r.outputs; are = are_expansions; passes = subst (λ k. PassesAt k (expanded r.functions r.outputs).outs output) is passes }

  -- the expansions at which terms are counted
  module _ (start : Terms) (start_is : start ≡ expanded r.functions r.outputs) where
    are_start : AreExpansions s p start
    are_start = rw start_is are_expansions

    own_start : AreExpansions s start.polarity start
    own_start = subst (λ q. AreExpansions s q start) (sym are_start.polarity) are_start

    pub few_terms : (form : Form) (limit : ℕ) → limit ≡ terms_limit form → cost start ≤ limit → HasFewTerms form s p
    few_terms form limit same cheap = record { expansions = start; are = are_start; within = subst (λ k. cost start ≤ k) same cheap }

    -- those at the polarity that is asked for
    module _ (e : Terms) (keeps : KeepsFunctions start e) where
      pub fits_of : Fits r.names e
      fits_of =
          let are : AreExpansions s e.polarity e = keeps s own_start in
          record { inputs = are.inputs ∙ ap (λ names. length names.inputs) (sym is.names); outputs = are.outputs ∙ ap (λ names. length names.outputs) (sym is.names) }

      pub is_made_of : (settings : Settings) (limit : ℕ) (before after : List Advised) (texts : Texts) → limit ≡ terms_limit settings.form → cost start ≤ limit
          → OfEachSource start (λ s. ComesOf settings.polarity limit s start.polarity before after e.polarity)
          → ((s : Source) → r.names ≡ names_of s → AreExpansions s e.polarity e → IsSynthesised settings.form e.polarity s e texts) → IsMadeOf settings s p before after texts
      is_made_of settings limit before after texts same cheap comes law = record {
        few = few_terms settings.form limit same cheap;
        polarity = e.polarity;
        comes = subst (λ k. ComesOf settings.polarity k s p before after e.polarity) same (subst (λ q. ComesOf settings.polarity limit s q before after e.polarity) are_start.polarity (comes s own_start));
        expansions = e;
        are = keeps s own_start;
        is_synthesised = law s is.names (keeps s own_start);
      }

-- a search begins where the expansions are few enough
pub only_searched : (r : Parts) (law : (source : Source) (s : Functions) (refs : List FnRef) → s.polarity.n ≡ length source.inputs → length refs ≡ length source.outputs
    → ((o : ℕ) (r : FnRef) → slice_get refs o ≡ Some r → Shows s r (on_set source o)) → AreExpansions source s.polarity (expanded s refs))
    (start : Terms) → start ≡ expanded r.functions r.outputs → (settings : Settings) (limit : ℕ) → limit ≡ terms_limit settings.form → cost start ≤ limit → (before after : List Advised)
    → OnlyAsked settings.polarity before after → OnlySearched settings r before after
only_searched r law start same settings limit is cheap before after (inl kept) = inl kept
only_searched r law start same settings limit is cheap before after (inr (asked, stand)) = inr (asked, stand, λ s p of. few_terms s p r of law start same settings.form limit is cheap)

pub are_live : (functions : Functions) (refs : List FnRef) (fs : ℕ → Set → Bool) → ShowEach functions refs fs → All (IsLive functions) refs
are_live functions refs fs shows = λ k d l. (shows.each k (get_or refs k d) (slice_get-get_or refs k d l)).live

pub too_many_of : (e : ExpandErr) (output : ℕ) → of_expand e ≡ err.TooManyTerms output → e ≡ expand_err.TooManyTerms output
too_many_of (expand_err.TooManyTerms o) output h = let same : o ≡ output = cc h in ap (λ k. expand_err.TooManyTerms k) same
too_many_of expand_err.Memory output h = absurd (cc h)

-- ---- a polarity of another number of inputs

pub other_count : {T : Type 0} (settings : Settings) (bytes : List ℕ) (s : Source) (n : ℕ) (e : SynthErr) (r : Result T SynthErr)
    → source_says settings.kind bytes ≡ Ok s → n ≡ length s.inputs → e ≡ err.BitCount (polarity_of settings.polarity n).n n → (polarity_of settings.polarity n).n ≢ n
    → IsErrAnd r (λ y. y ≡ e) → (given wanted : ℕ) → r ≡ Err (err.BitCount given wanted) → HasOtherCount settings bytes given wanted
other_count settings bytes s n e r says count is differ was given wanted answer =
    let same : err.BitCount (polarity_of settings.polarity n).n n ≡ err.BitCount given wanted = (let both = sym (passed_on r e was ∙ ap Err is) ∙ answer in cc both) in
    let wants : n ≡ wanted = cc same in
    let gives : (polarity_of settings.polarity n).n ≡ given = cc same in
    record {
      source = s;
      says = says;
      wants = sym wants ∙ count;
      gives = sym gives ∙ ap (λ m. (polarity_of settings.polarity m).n) wants;
      differ = λ e. differ (gives ∙ e ∙ sym wants);
    }
