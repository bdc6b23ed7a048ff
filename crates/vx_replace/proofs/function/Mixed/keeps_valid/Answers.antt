use Rattle.std.proofs.Common.{subst}
use Rattle.vx_mixed.specs.Valid.{Valid}
use Rattle.vx_replace.proofs.function.Mixed.keeps_valid.Goals as goal

pub returns : goal.returns
returns c = subst Valid c.self.view_is c.self.invariant.1
