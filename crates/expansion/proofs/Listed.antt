-- The expansions of a store's functions, reference by reference.
use Rattle.std.proofs.Common.{◌≡◌, ◌<◌, ◌+◌, ℕ, suc, Some, None, Option, List, [], ◌∷◌, ◌++◌, length, take, option_map, get_or, refl, sym, ap, ◌∙◌, arith}
use Rattle.std.specs.Prelude.{Bool, true, ◌^◌, All, slice_get}
use Rattle.std.specs.List.{sum_by}
use Rattle.std.proofs.lemmas.List.{get_or-map, length-map, length-take-le, map-append, take-map}
use Rattle.std.proofs.lemmas.List.Elements.{All-map, All-weaker}
use Rattle.std.proofs.lemmas.List.Sums.{sum_by-append, sum_by-cons}
use Rattle.std.proofs.lemmas.Option.{get_or_from_slice_get, slice_get-get_or, slice_get_within}
use Rattle.std.proofs.Math.Seq.{take-length, take-suc}
use Rattle.ae_base.specs.Mask.{Set, first, inside}
use Rattle.ae_base.specs.Cube.{Signs, IsSigns}
use Rattle.ae_base.specs.Source.{Source, on_set}
use Rattle.ae_base.specs.Terms.{IsInOrder}
use Rattle.fn_store.specs.Davio.{IsExpansion}
use Rattle.fn_store.specs.Functions.{Functions, IsLive, Shows, AllShow}
use Rattle.fn_store.specs.declared.store.FnRef.{FnRef}
use Rattle.expansion.specs.Functions.{AreExpansions}
use Rattle.expansion.specs.Stores.{expanded}
use Rattle.expansion.specs.Terms.{PassesAt, cost}
use Rattle.expansion.specs.Kept.{IsTerms}
use Rattle.expansion.specs.declared.limits.TheConstants.{LISTS}

-- the lists of the first k references, and the number of terms that the limit leaves
pub record Listed (s : Functions) (refs : List FnRef) (limit k : ℕ) (outs : List (List Set)) (left : ℕ) : Type 0 where
  pub lists : outs ≡ (expanded s (take k refs)).outs
  pub sum : sum_by length outs + left ≡ limit

-- the loop at reference k
module _ (s : Functions) (refs : List FnRef) (limit k : ℕ) (outs : List (List Set)) (left : ℕ) (had : Listed s refs limit k outs left) (within : k < length refs) where
  pub listed_count : length outs ≡ k
  listed_count = ap length had.lists ∙ length-map (take k refs) (λ r. s.terms r.at) ∙ length-take-le k refs (omega (arith, within))

  pub passes_at : (r : FnRef) → left < length (s.terms (get_or refs k r).at) → PassesAt limit (expanded s refs).outs k
  passes_at r many =
      let terms : List Set = s.terms (get_or refs k r).at in
      let front : take k (expanded s refs).outs ≡ outs = take-map (λ q. s.terms q.at) k refs ∙ sym had.lists in
      let through : take (suc k) (expanded s refs).outs ≡ outs ++ terms ∷ [] =
      take-map (λ q. s.terms q.at) (suc k) refs
      ∙ ap (λ (qs : List FnRef). (expanded s qs).outs) (take-suc refs k r within)
      ∙ map-append (λ q. s.terms q.at) (take k refs) (get_or refs k r ∷ [])
      ∙ ap (λ lists. lists ++ terms ∷ []) (sym had.lists) in
      record {
        is_place = omega (arith, length-map refs (λ q. s.terms q.at), within);
        before = omega (arith, ap (λ lists. sum_by length lists) front, had.sum);
        past = omega (arith, ap (λ lists. sum_by length lists) through, sum_by-append length outs (terms ∷ []), sum_by-cons length terms [], had.sum, many);
      }

-- the loop after all references
pub all_listed : (s : Functions) (refs : List FnRef) (limit k : ℕ) (outs : List (List Set)) (left : ℕ) (p : Signs) → Listed s refs limit k outs left → k ≡ length refs → p ≡ s.polarity
    → record { polarity = p; outs = outs } ≡ expanded s refs
all_listed s refs limit k outs left p had all p_is =
    let lists : outs ≡ (expanded s refs).outs = had.lists ∙ ap (λ (qs : List FnRef). (expanded s qs).outs) (ap (λ n. take n refs) all ∙ take-length refs) in
    rw (p_is, lists) refl

pub are_terms : (s : Functions) (refs : List FnRef) → AllShow s → ((p : Signs) (f : Set → Bool) (ts : List Set) → IsExpansion p f ts → All (λ t. inside t (first p.n) ≡ true) ts)
    → All (IsLive s) refs → IsSigns s.polarity → length refs < LISTS → cost (expanded s refs) < 2 ^ 61 → IsTerms (expanded s refs)
are_terms s refs all inside_law live signs few cheap = record {
  signs = signs;
  below =
      All-map (λ ts. All (λ t. inside t (first s.polarity.n) ≡ true) ts) (λ r. s.terms r.at) refs
      (All-weaker (IsLive s) (λ r. All (λ t. inside t (first s.polarity.n) ≡ true) (s.terms r.at)) (λ r l. inside_law s.polarity _ (s.terms r.at) (all r l).is) refs live);
  order = All-map IsInOrder (λ r. s.terms r.at) refs (All-weaker (IsLive s) (λ r. IsInOrder (s.terms r.at)) (λ r l. (all r l).is.order) refs live);
  few_lists = omega (arith, length-map refs (λ r. s.terms r.at), few);
  few_terms = omega (arith, cheap);
}

-- ---- what references show

pub all_live : (source : Source) (s : Functions) (refs : List FnRef) → ((o : ℕ) (r : FnRef) → slice_get refs o ≡ Some r → Shows s r (on_set source o)) → All (IsLive s) refs
all_live source s refs shows = λ o r l. (shows o (get_or refs o r) (slice_get-get_or refs o r l)).live

pub source_expanded : (source : Source) (s : Functions) (refs : List FnRef) → s.polarity.n ≡ length source.inputs → length refs ≡ length source.outputs
    → ((o : ℕ) (r : FnRef) → slice_get refs o ≡ Some r → Shows s r (on_set source o)) → AreExpansions source s.polarity (expanded s refs)
source_expanded source s refs inputs count shows = record {
  inputs = inputs;
  polarity = refl;
  outputs = length-map refs (λ q. s.terms q.at) ∙ count;
  each = λ o ts e.
      let none : FnRef = record { at = 0 } in
      let within : o < length refs = omega (arith, slice_get_within (expanded s refs).outs o ts e, length-map refs (λ q. s.terms q.at)) in
      rw (sym (get_or_from_slice_get (expanded s refs).outs o ts [] e) ∙ get_or-map (λ q. s.terms q.at) refs o none [] within) (shows o _ (slice_get-get_or refs o none within)).is;
}
