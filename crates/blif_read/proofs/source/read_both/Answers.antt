use Rattle.std.proofs.Common.{Some, None}
use Rattle.std.proofs.lemmas.Result.{err_from_is_err_and}
use Rattle.ae_lex.specs.Reads.{words_of}
use Rattle.blif_read.specs.SourceSays.{declared_by}
use Rattle.blif_read.proofs.Both.{part_line, read_part, both_err, both_said, both_ok}
use Rattle.blif_read.proofs.source.read_both.Goals as goal

pub returns-in_err-read_lines-2 : goal.returns-in_err-read_lines-2
returns-in_err-read_lines-2 c =
    let said = words_of c.args.lines.now in
    let first = c.in_ok-read_lines.ensures None c.new-seen.ensures in
    let start = c.into_part-part_seen.ensures said first.1 in
    let p = err_from_is_err_and c.from_residual-in_err-read_lines-2.result c.from_residual-in_err-read_lines-2.ensures.1 in
    rw (p.1, p.2) (part_line c.args.last c.args.lines.now c.args.part.now _ first.0 (c.in_err-read_lines-2.ensures (Some (declared_by said)) start))

pub part_said-requires-clause-part : goal.part_said-requires-clause-part
part_said-requires-clause-part c =
    let said = words_of c.args.lines.now in
    let first = c.in_ok-read_lines.ensures None c.new-seen.ensures in
    let second = c.in_ok-read_lines-2.ensures (Some (declared_by said)) (c.into_part-part_seen.ensures said first.1) in
    read_part c.args.last c.args.lines.now c.args.part.now c.read_lines-2.new.seen c.in_ok-net.net (record { none = first.0; says = c.in_ok-net.ensures; part_none = second.0; seen_is = second.1 })

pub returns-in_err-free : goal.returns-in_err-free
returns-in_err-free c =
    let said = words_of c.args.lines.now in
    let first = c.in_ok-read_lines.ensures None c.new-seen.ensures in
    let second = c.in_ok-read_lines-2.ensures (Some (declared_by said)) (c.into_part-part_seen.ensures said first.1) in
    let p = err_from_is_err_and c.from_residual-in_err-free.result c.from_residual-in_err-free.ensures.1 in
    rw (p.1, p.2)
    (both_err c.args.last c.args.lines.now c.args.part.now c.read_lines-2.new.seen c.in_ok-net.net c.model.result.now _
    (record { none = first.0; says = c.in_ok-net.ensures; part_none = second.0; seen_is = second.1 }) c.model.ensures.model c.in_err-free.ensures)

pub invariant_of-result : goal.invariant_of-result
invariant_of-result c =
    let said = words_of c.args.lines.now in
    let first = c.in_ok-read_lines.ensures None c.new-seen.ensures in
    let second = c.in_ok-read_lines-2.ensures (Some (declared_by said)) (c.into_part-part_seen.ensures said first.1) in
    let says =
    both_said c.args.last c.args.lines.now c.args.part.now c.read_lines-2.new.seen c.in_ok-net.net c.model.result.now c.in_ok-free.free
    (record { none = first.0; says = c.in_ok-net.ensures; part_none = second.0; seen_is = second.1 }) c.model.ensures.model c.in_ok-free.ensures in
    (both_ok c.args.last c.args.lines.now c.args.part.now _ says).0

pub returns : goal.returns
returns c =
    let said = words_of c.args.lines.now in
    let first = c.in_ok-read_lines.ensures None c.new-seen.ensures in
    let second = c.in_ok-read_lines-2.ensures (Some (declared_by said)) (c.into_part-part_seen.ensures said first.1) in
    both_said c.args.last c.args.lines.now c.args.part.now c.read_lines-2.new.seen c.in_ok-net.net c.model.result.now c.in_ok-free.free
    (record { none = first.0; says = c.in_ok-net.ensures; part_none = second.0; seen_is = second.1 }) c.model.ensures.model c.in_ok-free.ensures
