-- Lists of operations, which are tested one after the other, and the references that they give.
use Rattle.std.proofs.Common.{◌≡◌, ℕ, ◌+◌, ◌<◌, List, length, get_or, slice_get, Some, subst, arith}
use Rattle.std.proofs.lemmas.Option.{slice_get_within, slice_get-get_or, get_or_from_slice_get}
use Rattle.fn_store.specs.declared.operations.Op.{Op}
use Rattle.fn_store.specs.declared.operations.Op.TheVariants.{Literal}
use Rattle.fn_store.specs.declared.store.FnRef.{FnRef}
use Rattle.fn_store.specs.Functions.{Functions, IsLive}
use Rattle.fn_store.specs.Replay.{AreResults, IsOp, ref_at}
use Rattle.net_fn.specs.Refs.{AreLive}

-- the first i operations are on inputs below n and on places of something earlier
pub record AreOpsTo (n : ℕ) (ops : List Op) (i : ℕ) : Type 0 where
  pub each : (k : ℕ) (op : Op) → slice_get ops k ≡ Some op → k < i → IsOp n (k + 2) op

-- each reference of a result is live
pub results_live : (s : Functions) (ops : List Op) (refs : List FnRef) → AreResults s ops refs → AreLive s refs
results_live s ops refs made = record { each = λ k r at. live_at k r at }
  where
    live_at : (k : ℕ) (r : FnRef) → slice_get refs k ≡ Some r → IsLive s r
    live_at k r at =
        let within : k < length ops = omega (arith, slice_get_within refs k r at, made.count) in
        let shown : IsLive s (ref_at refs k) = (made.each k (get_or ops k (Literal 0)) (slice_get-get_or ops k (Literal 0) within)).live in
        subst (λ (q : FnRef). IsLive s q) (get_or_from_slice_get refs k r (record { at = 0 }) at) shown
