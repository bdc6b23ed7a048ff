use Rattle.std.proofs.Common.{arith}
use Rattle.vx_plain.proofs.KeptSteps.{grown_is}
use Rattle.vx_plain.proofs.store.reach.Goals as goal

pub returns-in_ok-resize-clause-same : goal.returns-in_ok-resize-clause-same
returns-in_ok-resize-clause-same c = grown_is c.args.scalars.now.items c.resize.new.self.items c.args.size _ (omega arith) c.in_ok-resize.ensures.items
