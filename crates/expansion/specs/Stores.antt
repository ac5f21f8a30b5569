-- The expansions of a store's functions.
use Rattle.std.specs.Prelude.{List, map}
use Rattle.fn_store.specs.Functions.{Functions}
use Rattle.fn_store.specs.declared.store.FnRef.{FnRef}
use Rattle.expansion.specs.Terms.{Terms}

-- for each reference in order the expansion of its function
abbrev pub expanded : Functions → List FnRef → Terms
expanded s refs = record { polarity = s.polarity; outs = map (λ r. s.terms r.at) refs }
