-- The plain store, as contracts see it.
use Rattle.std.specs.Prelude.{true, false, List, [], length, nat_lt, slice_index_or}
use Rattle.ae_base.specs.Mask.{Set}
use Rattle.ae_base.specs.Cube.{Signs}
use Rattle.fn_store.specs.Functions.{Functions, Shows, AllShow}
use Rattle.fn_store.specs.declared.store.FnRef.{FnRef}

-- the polarity, the references of 0 and of 1, and for each reference in order its terms
pub record Lists : Type 0 where
  pub polarity : Signs
  pub zero : FnRef
  pub one : FnRef
  pub lists : List (List Set)

abbrev pub functions_of : Lists → Functions
functions_of s = record { polarity = s.polarity; live = λ r. nat_lt r (length s.lists); terms = λ r. slice_index_or s.lists r [] }

-- Each list is the expansion of a function, and two of them are those of 0 and of 1.
pub record IsLists (s : Lists) : Type 0 where
  pub zero : Shows (functions_of s) s.zero (λ x. false)
  pub one : Shows (functions_of s) s.one (λ x. true)
  pub all : AllShow (functions_of s)
