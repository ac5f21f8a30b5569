-- The counts of a grading by the outputs as they are worked out. For private contracts alone.
use Rattle.std.specs.Prelude.{ℕ, ◌==◌, Bool, not, Some, None, List}
use Rattle.std.specs.List.{count_by, list_any}
use Rattle.ae_base.specs.Mask.{Set}
use Rattle.ae_net.specs.Network.{Network}
use Rattle.ae_net.specs.Out.{out}
use Rattle.ae_net.specs.declared.net.Fault.{Fault}
use Rattle.vec_text.specs.declared.file.Vector.{Vector}

-- the response that is listed is not the one that the network shows at the whole point, the control too
abbrev pub is_wrong : Network → Vector → Bool
is_wrong n v = not (v.outs == out n None v.point)

-- at the point the outputs with the fault are not those without it
abbrev pub differs_at : Network → Fault → Set → Bool
differs_at n fault x = not (out n (Some fault) x == out n None x)

-- one of the points detects the fault
abbrev pub is_detected : Network → List Set → Fault → Bool
is_detected n points fault = list_any (differs_at n fault) points

-- the number of vectors whose response is not the network's
unfoldable pub wrong_count : Network → List Vector → ℕ
wrong_count n vectors = count_by (is_wrong n) vectors
