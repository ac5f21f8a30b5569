-- Functions in a store that is kept, and functions that are equal everywhere.
use Rattle.std.proofs.Common.{rules, Bool, ◌≡◌, subst}
use Rattle.ae_base.specs.Mask.{Set}
use Rattle.fn_store.specs.declared.store.FnRef.{FnRef}
use Rattle.fn_store.specs.Functions.{Functions, Shows, Keeps}

pub Shows-kept : (s t : Functions) → Keeps s t → (r : FnRef) (f : Set → Bool) → Shows s r f → Shows t r f
Shows-kept s t keeps r f shows = search rules

pub Shows-same : (s : Functions) (r : FnRef) (f g : Set → Bool) → ((x : Set) → f x ≡ g x) → Shows s r f → Shows s r g
Shows-same s r f g same shows = subst (Shows s r) (λ i x. same x i) shows
