-- When what is said of an output is On.
use Rattle.std.proofs.Common.{◌≡◌, Bool, true, false, cond, refl}
use Rattle.ae_base.specs.Source.{Specified, is_on}
use Rattle.ae_base.specs.Source.Specified.{On}

pub on_where : (b : Bool) (s : Specified) → is_on s ≡ false → is_on (cond b On s) ≡ b
on_where true s off = refl
on_where false s off = off
