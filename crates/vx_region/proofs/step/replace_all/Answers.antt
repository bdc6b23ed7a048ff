use Rattle.vx_mixed.specs.Routes.{live_values}
use Rattle.vx_region.proofs.LiveEnds.{tells_of}
use Rattle.vx_region.proofs.step.replace_all.Goals as goal

pub replace_each-requires-clause-live : goal.replace_each-requires-clause-live
replace_each-requires-clause-live c = tells_of c.args.mixed.now c.graph.result.now c.graph.ensures c.keeps_valid.ensures (live_values c.in_ok-live.live) c.in_ok-live.ensures
