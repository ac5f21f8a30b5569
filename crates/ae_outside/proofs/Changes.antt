-- What writes and pieces one after another leave.
use Rattle.std.proofs.Common.{◌≡◌, ◌≢◌, ℕ, List, [], ◌++◌, Option, Some, None, IfSome, refl, ◌∙◌, ap, append_assoc}
use Rattle.std.proofs.lemmas.List.{append-nil}
use Rattle.std.specs.FinMap.{get}
use Rattle.ae_outside.specs.Files.{Shelf, written, added}
use Rattle.ae_outside.proofs.Shelves.{get_same, get_other}

-- a name that was written holds the bytes
pub get_written : (held : Option Shelf) (name bytes : List ℕ) → IfSome (written held name bytes) (λ m. get m name ≡ Some bytes)
unfolding written
get_written None name bytes = tt
get_written (Some m) name bytes = get_same m name bytes

pub still_holds : (held : Option Shelf) (name q bytes wanted : List ℕ) → q ≢ name → IfSome held (λ m. get m q ≡ Some wanted) → IfSome (written held name bytes) (λ m. get m q ≡ Some wanted)
unfolding written
still_holds None name q bytes wanted apart had = tt
still_holds (Some m) name q bytes wanted apart had = get_other m name q bytes apart ∙ had

pub added-added : (taken : Option (List ℕ)) (xs ys : List ℕ) → added (added taken xs) ys ≡ added taken (xs ++ ys)
unfolding added
added-added None xs ys = refl
added-added (Some old) xs ys = ap Some (append_assoc old xs ys)

pub added-nil : (taken : Option (List ℕ)) → added taken [] ≡ taken
unfolding added
added-nil None = refl
added-nil (Some old) = ap Some (append-nil old)
