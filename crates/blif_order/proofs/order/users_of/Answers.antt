use Rattle.std.proofs.Common.{◌≡◌, ℕ, ◌<◌, ◌+◌, List, [], cond, ltb, eqb, length, get_or, ap, ◌∙◌, arith}
use Rattle.std.proofs.lemmas.List.{get_or_read}
use Rattle.blif_order.specs.Kept.{count}
use Rattle.blif_order.proofs.Counts.{users_none, users_more, users_all}
use Rattle.blif_order.proofs.order.users_of.Goals as goal

pub loop-i-init : goal.loop-i-init
loop-i-init c = record {
  len = c.in_ok-users.ensures.len;
  users = λ d j. users_none _ j _ (c.in_ok-users.ensures.empty d j);
}

pub loop-i-preserved : goal.loop-i-preserved
loop-i-preserved c =
    let i = c.loop-i.i in
    let needs = c.args.needs.now in
    let lt : i < length needs = omega arith in
    let here : c.as_slice.result.now ≡ get_or needs i [] = c.as_slice.ensures ∙ get_or_read needs i c.index-needs-i.result lt c.index-needs-i.is [] in
    record {
      len = c.push_user.ensures.len ∙ c.loop-i.invariant.len;
      users = λ d j. users_more (λ k. count d (get_or needs k [])) _ _ i j (c.loop-i.invariant.users d j)
          (c.in_ok-push_user.ensures.counts d j ∙ ap (λ (xs : List ℕ). count j (get_or c.loop-i.users.items d []) + cond (eqb i j) (count d xs) 0) here);
    }

pub returns-clause-users : goal.returns-clause-users
returns-clause-users c = λ d i lt.
    let end : c.loop-i.i ≡ length c.args.needs.now = omega arith in
    users_all c.args.needs.now d i _ (c.loop-i.invariant.users d i ∙ ap (λ (n : ℕ). cond (ltb i n) (count d (get_or c.args.needs.now i [])) 0) end)
