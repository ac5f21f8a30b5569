use Rattle.std.proofs.Common.{sym}
use Rattle.pla_read.proofs.read.has_clash.Goals as goal

pub returns : goal.returns
returns c = rw (c.is_some.ensures, c.first_clash.ensures) (sym (c.clash_laws.ensures.test c.args.cover.now c.requires))
