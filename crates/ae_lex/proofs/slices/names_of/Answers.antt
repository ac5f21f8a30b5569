use Rattle.std.proofs.Common.{◌≡◌, List, [], ℕ, length, ap, sym, ◌∙◌, arith}
use Rattle.std.specs.Borrow.{Bor}
use Rattle.std.proofs.lemmas.List.{get_or-map, length-map}
use Rattle.std.proofs.lemmas.List.Sums.{AllPass-from_list_all}
use Rattle.ae_base.specs.Name.{is_name}
use Rattle.ae_lex.specs.Slices.{texts}
use Rattle.ae_lex.proofs.slices.names_of.Goals as goal

pub known-requires : goal.known-requires
known-requires c =
    let words = c.args.words.now in
    let now : Bor (List ℕ) → List ℕ = λ w. w.now in
    let size : length (texts words) ≡ length words = length-map words now in
    ap is_name (sym (get_or-map now words c.loop-word.word-index _ [] c.loop-word-test.true)) ∙ AllPass-from_list_all is_name (texts words) c.requires c.loop-word.word-index [] (omega (arith, size, c.loop-word-test.true))
