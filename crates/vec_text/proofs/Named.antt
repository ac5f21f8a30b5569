-- Words that are names.
use Rattle.std.proofs.Common.{◌≡◌, true, ◌&&◌, leb, List, length}
use Rattle.std.specs.List.{list_all}
use Rattle.std.proofs.lemmas.Bool.{and_parts, leb-true}
use Rattle.std.proofs.lemmas.List.Sums.{AllPass-from_list_all}
use Rattle.ae_base.specs.declared.limits.TheConstants.{WRITTEN_LINES}
use Rattle.ae_base.specs.Name.{is_name}
use Rattle.ae_lex.specs.Heads.{Word}
use Rattle.vec_text.specs.Sound.{AreLabels}
use Rattle.vec_text.specs.Words.{are_names}

pub labels : (names : List Word) → are_names names ≡ true → (list_all is_name names ≡ true) × AreLabels names
unfolding are_names
labels names h =
    let outer = and_parts (leb 1 (length names) && leb (length names) WRITTEN_LINES) (list_all is_name names) h in
    let counted = and_parts (leb 1 (length names)) (leb (length names) WRITTEN_LINES) outer.0 in
    (outer.1, record { named = AllPass-from_list_all is_name names outer.1; some = leb-true _ _ counted.0; few = leb-true _ _ counted.1 })
