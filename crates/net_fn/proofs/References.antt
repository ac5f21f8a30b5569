-- Lists of references in a store that is kept, and with one more reference at the end.
use Rattle.std.proofs.Common.{rules, Bool, List, [], ◌∷◌, ◌++◌, Some, ◌⊎◌, arith, inl, inr, length, refl, suc, zero, ℕ, ◌+◌, ◌∙◌, ◌≡◌, ap}
use Rattle.std.specs.List.{slice_get}
use Rattle.std.proofs.lemmas.List.{length_push}
use Rattle.ae_base.specs.Mask.{Set}
use Rattle.fn_store.specs.declared.store.FnRef.{FnRef}
use Rattle.fn_store.specs.Functions.{Functions, IsLive, Shows, Keeps}
use Rattle.net_fn.proofs.Kept.{Shows-kept, Shows-same}
use Rattle.net_fn.specs.Refs.{AreLive, ShowEach}

-- an element of a list with one more at its end
one_more : {X : Type 0} (xs : List X) (y z : X) (i : ℕ) → slice_get (xs ++ y ∷ []) i ≡ Some z → (slice_get xs i ≡ Some z) ⊎ ((i ≡ length xs) × (y ≡ z))
one_more [] y z zero e = inr (refl, cc e)
one_more [] y z (suc i) e = absurd (cc e)
one_more (x ∷ xs) y z zero e = inl e
one_more (x ∷ xs) y z (suc i) e = elim (one_more xs y z i e) [ inl h ↦ inl h | inr h ↦ inr (omega (arith, h.0), h.1) ]

pub AreLive-kept : (s t : Functions) (refs : List FnRef) → Keeps s t → AreLive s refs → AreLive t refs
AreLive-kept s t refs k live = record { each = λ i r at. k.live r (live.each i r at) }

pub ShowEach-kept : (s t : Functions) (refs : List FnRef) (fs : ℕ → Set → Bool) → Keeps s t → ShowEach s refs fs → ShowEach t refs fs
ShowEach-kept s t refs fs k show = record { each = λ i r at. Shows-kept s t k r (fs i) (show.each i r at) }

pub AreLive-push : (s : Functions) (refs : List FnRef) (r : FnRef) → AreLive s refs → IsLive s r → AreLive s (refs ++ r ∷ [])
AreLive-push s refs r live here = record { each = λ i q at. elim (one_more refs r q i at) [ inl earlier ↦ live.each i q earlier | inr last ↦ rw (← last.1) here ] }

pub ShowEach-push : (s : Functions) (refs : List FnRef) (r : FnRef) (fs : ℕ → Set → Bool) → ShowEach s refs fs → Shows s r (fs (length refs)) → ShowEach s (refs ++ r ∷ []) fs
ShowEach-push s refs r fs show here = record { each = λ i q at. elim (one_more refs r q i at) [ inl earlier ↦ show.each i q earlier | inr last ↦ rw (last.0, ← last.1) here ] }

pub ShowEach-same : (s : Functions) (refs : List FnRef) (fs gs : ℕ → Set → Bool) → ((k : ℕ) (x : Set) → fs k x ≡ gs k x) → ShowEach s refs fs → ShowEach s refs gs
ShowEach-same s refs fs gs same show = record { each = λ i r at. Shows-same s r (fs i) (gs i) (same i) (show.each i r at) }

-- ---- references that are made one after the other

-- the first k functions are shown
pub record Shown (start now : Functions) (refs : List FnRef) (fs : ℕ → Set → Bool) (k : ℕ) : Type 0 where
  pub count : length refs ≡ k
  pub keeps : Keeps start now
  pub shows : ShowEach now refs fs

pub Shown-push : (start now next : Functions) (refs : List FnRef) (r : FnRef) (fs : ℕ → Set → Bool) (k : ℕ) → Shown start now refs fs k → Keeps now next → Shows next r (fs k) → Shown start next (refs ++ r ∷ []) fs (k + 1)
Shown-push start now next refs r fs k shown keeps here = record {
  count = length_push refs r ∙ ap (λ n. n + 1) shown.count;
  keeps = search rules;
  shows = ShowEach-push next refs r fs (ShowEach-kept now next refs fs keeps shown.shows) (rw shown.count here);
}
