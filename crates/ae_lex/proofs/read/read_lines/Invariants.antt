use Rattle.std.proofs.Common.{◌≡◌, ◌++◌, [], drop, take}
use Rattle.std.specs.Prelude.{option_map}
use Rattle.std.specs.List.{before_first, find}
use Rattle.ae_lex.specs.First.{first_fault}
use Rattle.ae_lex.specs.Reads.{words_of}
use Rattle.ae_lex.proofs.read.read_lines.Given as goal

-- the draft is what the lines so far say, and none of them has a fault or ends the text
abbrev pub invariant-loop-line : goal.invariant-loop-line
invariant-loop-line g l = record {
  says : g.D.Draft.says (words_of (take l.line-index l.lines)) l.draft;
  rest : first_fault g.D.Draft.faults (words_of (take l.line-index l.lines)) (before_first (λ line. g.D.Draft.ends line.words) (drop l.line-index l.lines)) ≡ first_fault g.D.Draft.faults [] (before_first (λ line. g.D.Draft.ends line.words) l.lines);
  read : take l.line-index l.lines ++ before_first (λ line. g.D.Draft.ends line.words) (drop l.line-index l.lines) ≡ before_first (λ line. g.D.Draft.ends line.words) l.lines;
  last : option_map (λ line. line.number) (find (λ line. g.D.Draft.ends line.words) (drop l.line-index l.lines)) ≡ option_map (λ line. line.number) (find (λ line. g.D.Draft.ends line.words) l.lines);
}
