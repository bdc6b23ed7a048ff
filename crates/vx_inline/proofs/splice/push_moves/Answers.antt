use Rattle.std.proofs.Common.{◌∙◌, ◌++◌, slice_get, ap}
use Rattle.vx_inline.specs.Inlined.{moves_in}
use Rattle.vx_inline.specs.Splicing.{move_at}
use Rattle.vx_inline.specs.Taking.{value_at}
use Rattle.vx_inline.proofs.Splicing.{moves_more}
use Rattle.vx_inline.proofs.splice.push_moves.Goals as goal

pub loop-place-preserved : goal.loop-place-preserved
loop-place-preserved c =
    let to = value_at c.args.to.now in
    let place = c.loop-place.place in
    moves_more to c.args.parameters.now c.args.arguments.now place 0 c.loop-place.ops c.push_move_at.new.ops (c.args.ops.now ++ moves_in to c.args.parameters.now c.args.arguments.now) c.loop-place-test.true c.loop-place.invariant
    (c.in_ok-push_move_at.ensures ∙ ap (λ v. c.loop-place.ops ++ move_at v (slice_get c.args.arguments.now place)) c.value_at.ensures)
