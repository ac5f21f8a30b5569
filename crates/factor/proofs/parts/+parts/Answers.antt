use Rattle.std.proofs.Common.{◌≡◌, ◌+◌, ◌∙◌, List, [], ◌++◌, ap, sym, length, length-append, append-nil, arith}
use Rattle.std.proofs.lemmas.Result.{on_ok_weaker}
use Rattle.factor.specs.declared.parts.Factor.{Factor}
use Rattle.factor.specs.Cells.{Parts, parts, sum_part, before}
use Rattle.factor.specs.Seen.{seen}
use Rattle.factor.specs.Sums.Summands.{literals, factored}
use Rattle.factor.proofs.Sizes.{part_cells, part_factors, factored_cells, factored_signal, literals_part, factored_part, sum_cells, sum_signal, parts-end, parts-literals, parts-factored, parts_bound, sum_bound, length-factors}
use Rattle.factor.proofs.parts.+parts.Goals as goal

pub push_parts-returns-in-End : goal.push_parts-returns-in-End
push_parts-returns-in-End t c =
    let old = c.args.cells.now.items in
    let none : parts c.args.wires.now (c.args.first + length old) (seen c.args.sum.now) ≡ record { cells = []; factors = [] } = ap (λ s. parts c.args.wires.now (c.args.first + length old) (seen s)) c.in-End.is ∙ parts-end _ _ _ in
    record { cells = sym (ap (λ (p : Parts). old ++ p.cells) none ∙ append-nil old); factors = sym (ap (λ (p : Parts). c.args.factors.now.items ++ p.factors) none ∙ append-nil c.args.factors.now.items) }

pub push_parts-returns-in_ok-push_factor-in-Literals : goal.push_parts-returns-in_ok-push_factor-in-Literals
push_parts-returns-in_ok-push_factor-in-Literals t c =
    let w = c.args.wires.now in
    let old = c.args.cells.now.items in
    let k = c.args.first + length old in
    let ls = c.in-Literals.literals in
    let rest = seen c.deref.result.now in
    let is : parts w k (seen c.args.sum.now) ≡ before ls (literals_part w k ls) (parts w (k + length (literals_part w k ls).cells) rest) =
    ap (λ s. parts w k (seen s)) c.in-Literals.is ∙ ap (λ s. parts w k (literals ls (seen s))) (sym c.deref.ensures) ∙ parts-literals w k ls rest in
    let own = c.in_ok-signal-in-Literals.ensures in
    record {
      cells = rw (part_cells w c.args.first ls (literals_part w k ls) (seen c.args.sum.now) rest old c.push_product.new.cells.items is own.cells) at c.push_parts.ensures.cells;
      factors = rw (part_factors w c.args.first ls (literals_part w k ls) (seen c.args.sum.now) rest old c.push_product.new.cells.items c.args.factors.now.items c.push_factor.new.factors.items _ is own.cells own.signal c.in_ok-push_factor-in-Literals.ensures) at c.push_parts.ensures.factors;
    }

pub push_parts-returns-in_ok-push_factor-in-Factored : goal.push_parts-returns-in_ok-push_factor-in-Factored
push_parts-returns-in_ok-push_factor-in-Factored t c =
    let w = c.args.wires.now in
    let old = c.args.cells.now.items in
    let k = c.args.first + length old in
    let ls = c.in-Factored.literals in
    let inner = seen c.deref-in-Factored.result.now in
    let rest = seen c.deref-in-Factored-2.result.now in
    let is : parts w k (seen c.args.sum.now) ≡ before ls (factored_part w k ls inner) (parts w (k + length (factored_part w k ls inner).cells) rest) =
    ap (λ s. parts w k (seen s)) c.in-Factored.is ∙ ap (λ s. parts w k (factored ls (seen s) (seen c.in-Factored.rest.value))) (sym c.deref-in-Factored.ensures) ∙ ap (λ s. parts w k (factored ls inner (seen s))) (sym c.deref-in-Factored-2.ensures) ∙ parts-factored w k ls inner rest in
    let line = c.in_ok-line-in-Factored.ensures in
    let own = factored_cells w c.args.first ls inner rest old c.push_sum.new.cells.items c.push_and.new.cells.items c.in_ok-line-in-Factored.line line.cells line.signal c.in_ok-signal-in-Factored.ensures.cells in
    let signal = factored_signal w c.args.first ls inner old c.push_sum.new.cells.items c.in_ok-signal-in-Factored.signal line.cells c.in_ok-signal-in-Factored.ensures.signal in
    record {
      cells = rw (part_cells w c.args.first ls (factored_part w k ls inner) (seen c.args.sum.now) rest old c.push_and.new.cells.items is own) at c.push_parts-in-Factored.ensures.cells;
      factors = rw (part_factors w c.args.first ls (factored_part w k ls inner) (seen c.args.sum.now) rest old c.push_and.new.cells.items c.args.factors.now.items c.push_factor-in-Factored.new.factors.items _ is own signal c.in_ok-push_factor-in-Factored.ensures) at c.push_parts-in-Factored.ensures.factors;
    }

pub push_sum-push_closing-requires : goal.push_sum-push_closing-requires
push_sum-push_closing-requires t c =
    let w = c.args.wires.now in
    let k = c.args.first + length c.args.cells.now.items in
    let s = seen c.args.sum.now in
    let factors : c.as_slice.result.now ≡ (parts w k s).factors = c.as_slice.ensures.value ∙ c.in_ok-push_parts.ensures.factors ∙ ap (λ (fs : List Factor). fs ++ (parts w k s).factors) c.new-factors.ensures.items in
    record { room = omega (arith, c.requires.room, ap length c.in_ok-push_parts.ensures.cells, length-append c.args.cells.now.items (parts w k s).cells, parts_bound w k s, ap length factors, length-factors w k s) }

pub push_sum-returns : goal.push_sum-returns
push_sum-returns t c =
    let w = c.args.wires.now in
    let old = c.args.cells.now.items in
    let k = c.args.first + length old in
    let s = seen c.args.sum.now in
    let factors : c.as_slice.result.now ≡ (parts w k s).factors = c.as_slice.ensures.value ∙ c.in_ok-push_parts.ensures.factors ∙ ap (λ (fs : List Factor). fs ++ (parts w k s).factors) c.new-factors.ensures.items in
    let cells = rw (factors, c.has_constant.ensures, sum_cells w c.args.first s old c.push_parts.new.cells.items c.in_ok-push_parts.ensures.cells) at c.push_closing.ensures.cells in
    record {
      cells = cells;
      few = on_ok_weaker c.push_closing.result (λ (e : c.push_closing.new.cells.items ≡ old ++ (sum_part w k s).cells). omega (arith, ap length e, length-append old (sum_part w k s).cells, sum_bound w k s)) cells;
      signal = rw (factors, c.has_constant.ensures, sum_signal w c.args.first s old c.push_parts.new.cells.items c.in_ok-push_parts.ensures.cells) at c.push_closing.ensures.signal;
    }
