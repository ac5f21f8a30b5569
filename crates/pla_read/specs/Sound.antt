-- For private contracts alone: what is true of what lines without a fault say.
use Rattle.std.specs.Prelude.{◌≡◌, ◌≢◌, ◌≤◌, List, length, Some, IfSome, unwrap_or, true, All, AllPairs}
use Rattle.ae_base.specs.Name.{is_source_name}
use Rattle.ae_cover.specs.declared.cover.TheConstants.{PLA_ROWS}
use Rattle.ae_cover.specs.Cover.{IsCount, IsRow}
use Rattle.ae_lex.specs.Heads.{Word}
use Rattle.pla_read.specs.Seen.{Seen}

-- names of a source, all different
pub record AreLabels (names : List Word) : Type 0 where
  pub named : All (λ name. is_source_name name ≡ true) names
  pub distinct : AllPairs (λ name other. name ≢ other) names

pub record IsSound (seen : Seen) : Type 0 where
  pub inputs : IfSome seen.inputs IsCount
  pub outputs : IfSome seen.outputs IsCount
  pub input_names : IfSome seen.input_names (λ names. (seen.inputs ≡ Some (length names)) × AreLabels names)
  pub output_names : IfSome seen.output_names (λ names. (seen.outputs ≡ Some (length names)) × AreLabels names)
  pub few : length seen.rows ≤ PLA_ROWS
  pub rows : All (IsRow (unwrap_or seen.inputs 0) (unwrap_or seen.outputs 0)) seen.rows
