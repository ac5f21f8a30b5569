use Rattle.std.proofs.Common.{arith}
use Rattle.ae_lex.specs.declared.text.Style.TheVariants.{Pla}
use Rattle.demo_source.proofs.Said.{few_of, is_short, says_cover}
use Rattle.demo_source.proofs.Terms.{never_past}
use Rattle.demo_source.proofs.laws.demo_law.Goals as goal

pub returns-clause-short : goal.returns-clause-short
returns-clause-short c = is_short

pub returns-clause-said : goal.returns-clause-said
returns-clause-said c = says_cover (c.written_lines.ensures.lines Pla)

pub returns-clause-few : goal.returns-clause-few
returns-clause-few c = few_of (c.written_lines.ensures.lines Pla) c.expansion_law.ensures.few

pub returns-clause-none_past : goal.returns-clause-none_past
returns-clause-none_past c = λ seed form table p e limit output says are le past. never_past e.outs limit output (omega (arith, le, few_of (c.written_lines.ensures.lines Pla) c.expansion_law.ensures.few seed form table p e says are)) past
