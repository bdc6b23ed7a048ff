use Rattle.vx_bug.proofs.Needing.{keeps_none}
use Rattle.vx_bug.proofs.cluster_copies.forget.Goals as goal

pub returns-in-None : goal.returns-in-None
returns-in-None c = keeps_none c.args.served.now.items c.args.written c.in-None.is
