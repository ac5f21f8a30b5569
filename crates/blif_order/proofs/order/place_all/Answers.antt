use Rattle.std.proofs.Common.{◌≡◌, ℕ, suc, ◌+◌, ◌-◌, ◌<◌, ◌≤◌, ◌||◌, ◌&&◌, ltb, eqb, List, [], ◌∷◌, ◌++◌, length, get_or, inl, inr, sym, ap, subst, ◌∙◌, arith}
use Rattle.std.specs.List.{list_any}
use Rattle.std.specs.Ordering.{nat_cmp}
use Rattle.std.specs.BTreeMap.{is_at}
use Rattle.std.proofs.lemmas.Bool.{cases_lt, false≢true}
use Rattle.std.proofs.lemmas.List.{nil_from_length, get_or_read, get_or_default}
use Rattle.blif_order.specs.Kept.{count, has, IsState}
use Rattle.blif_order.specs.Order.{place}
use Rattle.blif_order.proofs.Steps.{upto_is, in_range, next_is, next_none, place_some, place_stops, place_done, user_in, enough, step_state}
use Rattle.blif_order.proofs.order.place_all.Goals as goal

pub returns-in-None : goal.returns-in-None
returns-in-None c =
    let keys = c.loop.ready.keys in
    let none : length keys ≡ 0 = elim (cases_lt 0 (length keys)) [ inl lt ↦ absurd (false≢true (c.in-None.ensures.variant.1 lt)) | inr le ↦ omega arith ] in
    let empty = nil_from_length keys none in
    let left = length c.args.needs.now - c.loop.counter in
    sym (place_stops c.args.needs.now left c.loop.placed.items (next_none c.args.needs.now c.loop.placed.items c.loop.ready c.loop.invariant.state.ready_are (λ q. ap (λ (ks : List ℕ). list_any (is_at (nat_cmp q)) ks) empty)))
    ∙ c.loop.invariant.so_far

pub release-requires-clause-within : goal.release-requires-clause-within
release-requires-clause-within c =
    let needs = c.args.needs.now in
    let users = c.args.users.now in
    let i = c.in-Some.i in
    let lt : i < length needs = in_range needs c.loop.placed.items c.loop.ready c.loop.invariant.state.ready_are i c.in-Some.ensures.member in
    let in' : i < length users = omega arith in
    let here : c.as_slice.result.now ≡ get_or users i [] = c.as_slice.ensures ∙ get_or_read users i c.index-users-i.result in' c.index-users-i.is [] in
    λ k d h.
    let long : k < length (get_or users i []) = subst (λ (xs : List ℕ). k < length xs) here h in
    let below = user_in needs users i c.requires.users lt k long in
    let same : get_or c.as_slice.result.now k d ≡ get_or (get_or users i []) k 0 = get_or_default c.as_slice.result.now k d 0 h ∙ ap (λ (xs : List ℕ). get_or xs k 0) here in
    omega arith

pub release-requires-clause-enough : goal.release-requires-clause-enough
release-requires-clause-enough c =
    let needs = c.args.needs.now in
    let users = c.args.users.now in
    let i = c.in-Some.i in
    let lt : i < length needs = in_range needs c.loop.placed.items c.loop.ready c.loop.invariant.state.ready_are i c.in-Some.ensures.member in
    let in' : i < length users = omega arith in
    let here : c.as_slice.result.now ≡ get_or users i [] = c.as_slice.ensures ∙ get_or_read users i c.index-users-i.result in' c.index-users-i.is [] in
    subst (λ (xs : List ℕ). (j : ℕ) → count j xs ≤ get_or c.loop.missing j 0) (sym here)
    (enough needs users c.loop.placed.items c.loop.missing c.loop.ready i c.requires.users c.loop.invariant.state c.in-Some.ensures.member)

pub loop-preserved : goal.loop-preserved
loop-preserved c =
    let needs = c.args.needs.now in
    let users = c.args.users.now in
    let placed = c.loop.placed.items in
    let state = c.loop.invariant.state in
    let i = c.in-Some.i in
    let member = c.in-Some.ensures.member in
    let lt : i < length needs = in_range needs placed c.loop.ready state.ready_are i member in
    let in' : i < length users = omega arith in
    let here : c.as_slice.result.now ≡ get_or users i [] = c.as_slice.ensures ∙ get_or_read users i c.index-users-i.result in' c.index-users-i.is [] in
    let pushed : c.push.new.self.items ≡ placed ++ i ∷ [] = c.in_ok-push-in-Some.ensures.items in
    let released = c.in_ok-release-in-Some.ensures in
    let steps = length needs - (c.loop.counter + 1) in
    let one : suc steps ≡ length needs - c.loop.counter = omega arith in
    record {
      state = subst (λ (ps : List ℕ). IsState needs ps c.release.new.missing c.release.new.ready) (sym pushed)
          (step_state needs users placed c.loop.missing c.release.new.missing c.loop.ready c.pop_first.new.self c.release.new.ready i c.requires.users state member c.in-Some.ensures.updates.0
          (λ j. ap (λ (xs : List ℕ). get_or c.release.new.missing j 0 + count j xs) (sym here) ∙ released.missing j)
          (λ j. released.ready j ∙ ap (λ (xs : List ℕ). has c.pop_first.new.self j || (ltb 0 (count j xs) && eqb (get_or c.release.new.missing j 0) 0)) here));
      so_far = ap (place needs steps) pushed
          ∙ sym (place_some needs steps placed i (next_is needs placed c.loop.ready i state.ready_are member (λ q t. upto_is i q (c.in-Some.ensures.least q t))))
          ∙ ap (λ s. place needs s placed) one ∙ c.loop.invariant.so_far;
    }

pub returns : goal.returns
returns c =
    let none : length c.args.needs.now - c.loop.counter ≡ 0 = omega arith in
    sym (place_done c.args.needs.now c.loop.placed.items) ∙ ap (λ s. place c.args.needs.now s c.loop.placed.items) (sym none) ∙ c.loop.invariant.so_far
