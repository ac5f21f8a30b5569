use Rattle.std.proofs.Common.{◌≡◌, ◌<◌, ◌+◌, ◌∷◌, [], ◌++◌, ℕ, List, cond, length, map, take, get_or, sym, ap, ap₂, subst, ◌∙◌, arith}
use Rattle.std.proofs.lemmas.List.{map_more}
use Rattle.ae_base.specs.Twins.{is_among}
use Rattle.blif_read.specs.Build.{idle, zero_gate, port_of, shown_by}
use Rattle.blif_read.proofs.Idle.{few_before, next_gates, next_port}
use Rattle.blif_read.proofs.ports.add_ports.Goals as goal

pub add_port-requires-clause-room : goal.add_port-requires-clause-room
add_port-requires-clause-room c =
    let seen = c.args.seen.now in
    let names : c.as_slice-name-items.result.now ≡ seen.outputs = c.as_slice-name-items.ensures in
    let lt = subst (λ (ws : List (List ℕ)). c.loop-name.name-index < length ws) names c.loop-name-test.true in
    let had = subst (λ (ws : List (List ℕ)). c.loop-name.gates ≡ c.args.gates.now ++ map zero_gate (idle seen (take c.loop-name.name-index ws))) names c.loop-name.invariant.gates in
    omega (arith, few_before seen c.args.gates.now c.loop-name.gates c.loop-name.name-index lt had, c.requires.ports.room)

pub loop-name-preserved : goal.loop-name-preserved
loop-name-preserved c =
    let seen = c.args.seen.now in
    let start = c.args.gates.now in
    let k = c.loop-name.name-index in
    let names : c.as_slice-name-items.result.now ≡ seen.outputs = c.as_slice-name-items.ensures in
    let lt = subst (λ (ws : List (List ℕ)). k < length ws) names c.loop-name-test.true in
    let had = subst (λ (ws : List (List ℕ)). c.loop-name.gates ≡ start ++ map zero_gate (idle seen (take k ws))) names c.loop-name.invariant.gates in
    let ports = subst (λ (ws : List (List ℕ)). c.loop-name.ports ≡ map (shown_by seen c.args.ranks.now (length start)) (take k ws)) names c.loop-name.invariant.ports in
    let item : c.name-item.result ≡ get_or seen.outputs k c.name-item.result = c.name-item.is ∙ ap (λ (ws : List (List ℕ)). get_or ws k c.name-item.result) names in
    let w = c.name-item.result in
    let port = λ (v : List ℕ). cond (is_among v seen.driven) (port_of seen c.args.ranks.now v) (length seen.inputs + length c.loop-name.gates) in
    let shown = shown_by seen c.args.ranks.now (length start) in
    record {
      gates = c.in_ok-add_port.ensures.gates ∙ ap (λ v. c.loop-name.gates ++ map zero_gate (idle seen (v ∷ []))) item ∙ next_gates seen start c.loop-name.gates k w lt had
          ∙ ap (λ (ws : List (List ℕ)). start ++ map zero_gate (idle seen (take (k + 1) ws))) (sym names);
      ports = c.in_ok-add_port.ensures.ports ∙ ap₂ (λ (ps : List ℕ) (v : List ℕ). ps ++ port v ∷ []) ports item ∙ ap (λ s. map shown (take k seen.outputs) ++ s ∷ []) (next_port seen c.args.ranks.now start c.loop-name.gates k w c.requires.ports lt had)
          ∙ sym (map_more shown seen.outputs k w lt) ∙ ap (λ (ws : List (List ℕ)). map shown (take (k + 1) ws)) (sym names);
    }
