use Rattle.vx_trace.proofs.Bests.{source_none, source_some}
use Rattle.vx_trace.proofs.heaviest.source.Goals as goal

pub returns-in-Some : goal.returns-in-Some
returns-in-Some c = source_some c.args.mixed.now c.args.counts.now c.edges.result.now c.edges.ensures c.args.block c.in-Some.best c.in-Some.ensures

pub returns-in-None : goal.returns-in-None
returns-in-None c = source_none c.args.mixed.now c.args.counts.now c.edges.result.now c.edges.ensures c.args.block c.in-None.ensures
