use Rattle.std.proofs.Common.{◌≤◌, length, arith}
use Rattle.vx_select.proofs.Joins.{blocks_next, blocks_end}
use Rattle.vx_select.proofs.conversion.converted_blocks.Goals as goal

pub loop-place-preserved : goal.loop-place-preserved
loop-place-preserved c = blocks_next c.args.graph.now c.args.corners.now c.args.values.now c.loop-place.place c.loop-place.blocks c.loop-place.invariant c.push_changed.new.blocks c.in_ok-push_changed.ensures

pub returns : goal.returns
returns c =
    let h : length c.args.graph.now.blocks ≤ c.loop-place.place = (let a = c.loop-place-test.false in let b = c.len-place-end.ensures.len in omega arith) in
    blocks_end c.args.graph.now c.args.corners.now c.args.values.now c.loop-place.place c.loop-place.blocks c.loop-place.invariant h
