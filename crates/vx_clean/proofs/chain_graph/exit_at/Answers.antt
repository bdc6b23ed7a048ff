use Rattle.std.proofs.Common.{ap, ltb-false, sym}
use Rattle.std.proofs.lemmas.Option.{slice_get_past}
use Rattle.vx_clean.specs.Laying.{exit_at}
use Rattle.vx_clean.specs.LinkTest.{moves}
use Rattle.vx_clean.proofs.chain_graph.exit_at.Goals as goal

pub returns-in-None : goal.returns-in-None
returns-in-None c = ap (exit_at (moves c.args.to.now)) (sym (slice_get_past c.args.blocks.now c.args.block (ltb-false _ _ (sym c.in-None.ensures.lookup.0))))
