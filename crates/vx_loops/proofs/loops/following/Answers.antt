use Rattle.std.proofs.Common.{ltb-true, sym}
use Rattle.vx_flow.proofs.IndexSteps.{get_some}
use Rattle.vx_loops.proofs.loops.following.Goals as goal

pub returns-in-Some-inner_target : goal.returns-in-Some-inner_target
returns-in-Some-inner_target c =
    let l = c.in-Some.ensures.lookup in
    record {
      block = c.in-Some.found.now;
      has = get_some c.args.blocks.now c.args.block c.in-Some.found.now (ltb-true _ _ (sym l.0)) l.1;
      leads = c.in-Some-inner_target.ensures;
    }
