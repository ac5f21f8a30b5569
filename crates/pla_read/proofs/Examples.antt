-- What the definitions say of small texts.
use Rattle.std.proofs.Common.{◌≡◌, codes, refl}
use Rattle.std.specs.Prelude.{Err}
use Rattle.ae_lex.specs.Words.{word_lines, last_line}
use Rattle.ae_base.specs.Mask.{len, members, both, with, empty}
use Rattle.ae_base.specs.Cube.{meet}
use Rattle.ae_cover.specs.Clash.{has_clash}
use Rattle.pla_read.specs.declared.fault.PlaFault.TheVariants.{NoI, BadWidth, Clash}
use Rattle.ae_base.specs.Digits.{value, is_number, cube_said}
use Rattle.pla_read.specs.Words.{are_names, row_of}
use Rattle.pla_read.specs.Pla.{line_faults, cover_of, pla_says}

rows_clash : pla_says (codes ".i 2\n.o 1\n.type fr\n1- 1\n-1 0\n.e") ≡ Err (6, Clash)
unfolding pla_says word_lines last_line line_faults cover_of value is_number cube_said are_names row_of meet has_clash len members both with empty
rows_clash = refl

no_text : pla_says (codes "") ≡ Err (0, NoI)
unfolding pla_says word_lines last_line line_faults cover_of value is_number cube_said are_names row_of
no_text = refl

short_row : pla_says (codes ".i 2\n.o 1\n11\n.e") ≡ Err (3, BadWidth)
unfolding pla_says word_lines last_line line_faults cover_of value is_number cube_said are_names row_of
short_row = refl
