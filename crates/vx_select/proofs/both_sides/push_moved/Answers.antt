use Rattle.std.proofs.Common.{ℕ, arith}
use Rattle.vx_select.specs.Selected.{takes}
use Rattle.vx_select.proofs.Joins.{moved_next, moved_end}
use Rattle.vx_select.proofs.both_sides.push_moved.Goals as goal

pub loop-place-preserved : goal.loop-place-preserved
loop-place-preserved c =
    let to : ℕ → ℕ = takes c.args.values.now c.args.others.now in
    moved_next to c.args.side.now _ c.loop-place.place c.loop-place.ops c.loop-place.invariant _ c.moved_op-new.result c.front.result.now c.push.new.self c.loop-place-test.true c.front.ensures c.moved_op-new.ensures c.in_ok-push.ensures.ok

pub returns : goal.returns
returns c = moved_end (takes c.args.values.now c.args.others.now) c.args.side.now _ c.loop-place.place c.loop-place.ops c.loop-place.invariant (let h = c.loop-place-test.false in omega arith)
