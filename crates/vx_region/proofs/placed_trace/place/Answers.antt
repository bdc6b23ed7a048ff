use Rattle.vx_region.proofs.PlanFits.{own_mode, placed_where_made}
use Rattle.vx_region.proofs.placed_trace.place.Goals as goal

pub schedule-placed-requires-clause-delays : goal.schedule-placed-requires-clause-delays
schedule-placed-requires-clause-delays c = own_mode _ _ _ _ c.in_ok-deps.ensures

pub returns : goal.returns
returns c = placed_where_made c.args.machine.now c.args.homes.now c.args.mode c.args.clustered.now _ c.schedule-placed.result c.in_ok-deps.ensures c.schedule-placed.ensures.placed c.schedule-placed.ensures.length c.schedule-placed.ensures.trace
