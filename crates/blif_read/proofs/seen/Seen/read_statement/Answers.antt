use Rattle.std.proofs.Common.{◌≡◌, false, codes, get_or, sym, ◌∙◌}
use Rattle.std.specs.Prelude.{bytes_eq}
use Rattle.std.proofs.lemmas.Bool.{eq-eqb}
use Rattle.ae_lex.specs.Slices.{texts}
use Rattle.blif_read.specs.Seen.{faults_in}
use Rattle.blif_read.proofs.seen.Seen.read_statement.Goals as goal

pub returns-else-is_word-5 : goal.returns-else-is_word-5
unfolding faults_in
returns-else-is_word-5 c =
    let head = c.args.head.now in
    let model : bytes_eq head (codes ".model") ≡ false = sym c.is_word.ensures ∙ c.if-is_word.false in
    let end' : bytes_eq head (codes ".end") ≡ false = sym c.is_word-else-is_word.ensures ∙ c.if-is_word-2.false in
    let inputs : bytes_eq head (codes ".inputs") ≡ false = sym c.is_word-else-self.ensures ∙ c.if-is_word-3.false in
    let outputs : bytes_eq head (codes ".outputs") ≡ false = sym c.is_word-else-is_word-3.ensures ∙ c.if-is_word-4.false in
    let names : bytes_eq head (codes ".names") ≡ false = sym c.is_word-else-is_word-4.ensures ∙ c.if-is_word-5.false in
    rw (model, end', c.if-self.false, inputs, outputs, names, eq-eqb (get_or head 0 0) 46 c.requires) (c.other_fault.ensures (texts c.args.words.now))
