-- Clashes of a cover.
use Rattle.std.specs.Prelude.{◌≡◌, ◌<◌, Bool, true, false, ◌&&◌, length, slice_get, Some, zip}
use Rattle.std.specs.List.{list_any}
use Rattle.ae_base.specs.Mask.{Set}
use Rattle.ae_base.specs.Cube.{holds, meet}
use Rattle.ae_base.specs.Terms.{IsPoint}
use Rattle.ae_cover.specs.declared.parts.Kind.{Kind}
use Rattle.ae_cover.specs.declared.parts.Kind.TheVariants.{F, Fd, Fr, Fdr}
use Rattle.ae_cover.specs.declared.parts.Mark.TheVariants.{One, Zero}
use Rattle.ae_cover.specs.declared.parts.Row.{Row}
use Rattle.ae_cover.specs.declared.parts.Clash.{Clash}
use Rattle.ae_cover.specs.Cover.{Table, is_one, is_zero}

-- Zero means Off in covers of this kind
abbrev pub zero_is_off : Kind → Bool
zero_is_off F = false
zero_is_off Fd = false
zero_is_off Fr = true
zero_is_off Fdr = true

-- Zero means Off, and at some point that both rows hold the one row has One for the output and the other has Zero.
pub record IsClash (t : Table) (c : Clash) : Type 0 where
  pub kind : zero_is_off t.kind ≡ true
  pub is_output : c.output < length t.outputs
  pub on : Row
  pub off : Row
  pub on_row : slice_get t.rows c.on_row ≡ Some on
  pub off_row : slice_get t.rows c.off_row ≡ Some off
  pub one : slice_get on.outs c.output ≡ Some One
  pub zero : slice_get off.outs c.output ≡ Some Zero
  pub point : Set
  pub is_point : IsPoint (length t.inputs) point
  pub on_holds : holds on.cube point ≡ true
  pub off_holds : holds off.cube point ≡ true

-- ---- whether there is a clash

-- some point is in both rows, and for some output the one has One and the other Zero
abbrev pub disagree : Row → Row → Bool
disagree on off = meet on.cube off.cube && list_any (λ marks. is_one marks.0 && is_zero marks.1) (zip on.outs off.outs)

-- Zero means Off, and two rows disagree
unfoldable pub has_clash : Table → Bool
has_clash t = zero_is_off t.kind && list_any (λ on. list_any (disagree on) t.rows) t.rows
