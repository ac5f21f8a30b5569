use Rattle.std.proofs.Common.{◌≡◌, Bool, true, false, refl}
use Rattle.ae_base.specs.Source.{is_on}
use Rattle.ae_base.proofs.Specified.{on_where}
use Rattle.ae_cover.specs.Cover.{is_one, is_zero, is_dash, some_row, not_one, specified}
use Rattle.ae_cover.specs.declared.parts.Kind.{Kind}
use Rattle.ae_cover.specs.declared.parts.Kind.TheVariants.{F, Fd, Fr, Fdr}
use Rattle.ae_cover.proofs.laws.on_law.Goals as goal

not_one-off : (k : Kind) (zero dash : Bool) → is_on (not_one k zero dash) ≡ false
not_one-off F zero dash = refl
not_one-off Fd zero true = refl
not_one-off Fd zero false = refl
not_one-off Fr true dash = refl
not_one-off Fr false dash = refl
not_one-off Fdr true dash = refl
not_one-off Fdr false dash = refl

pub returns : goal.returns
unfolding specified
returns c = λ t o x. on_where (some_row is_one t.rows o x) _ (not_one-off t.kind (some_row is_zero t.rows o x) (some_row is_dash t.rows o x))
