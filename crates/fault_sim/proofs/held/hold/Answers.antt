use Rattle.std.proofs.Common.{◌≡◌, ◌≢◌, ℕ, ◌<◌, ◌+◌, ◌∷◌, [], ◌++◌, length, length-append, ap, sym, subst, ◌∙◌, arith}
use Rattle.std.specs.Prelude.{slice_index}
use Rattle.fault_sim.specs.Sites.{site, sites}
use Rattle.fault_sim.proofs.Holding.{held-more, refilled}
use Rattle.fault_sim.proofs.held.hold.Goals as goal

pub returns-clause-held : goal.returns-clause-held
returns-clause-held c =
    let n = c.args.net.now in
    let held = c.args.held.now in
    let s : ℕ = c.site_of-s.result in
    let is : s ≡ site n c.args.fault.place = c.site_of-s.ensures in
    let old = held.last.items in
    let value : c.as_mut_slice.result.now ≡ old = c.as_mut_slice.ensures.value in
    let new = refilled held.last c.set_at.new.last (c.set_at.ensures.len ∙ ap length value) in
    let count : length c.set_at.new.last ≡ sites n = c.set_at.ensures.len ∙ ap length value ∙ c.requires.held.count in
    let faults : c.push-2.new.self.items ≡ held.faults.items ++ c.args.fault ∷ [] = c.in_ok-push-2.ensures.items in
    let more : length c.push-2.new.self.items ≡ length held.faults.items + 1 = ap length faults ∙ length-append held.faults.items (c.args.fault ∷ []) in
    held-more n held _ c.args.fault c.requires.held (omega (arith, more)) (omega (arith, more, c.requires.few)) faults
    (c.in_ok-push.ensures.items ∙ ap (λ b. held.before.items ++ b ∷ []) (c.last_at.ensures ∙ ap (λ xs. slice_index xs s) c.as_slice.ensures.value ∙ ap (slice_index old) is))
    (ap length new ∙ count)
    (λ t ne. ap (λ xs. slice_index xs t) new ∙ c.set_at.ensures.others t (λ e. ne (e ∙ is)) ∙ ap (λ xs. slice_index xs t) value)
    (λ within. ap (λ xs. slice_index xs (site n c.args.fault.place)) new ∙ ap (slice_index c.set_at.new.last) (sym is) ∙ c.set_at.ensures.here (omega (arith, within, is, ap length value, c.requires.held.count)) ∙ omega (arith, c.len-e.ensures))
