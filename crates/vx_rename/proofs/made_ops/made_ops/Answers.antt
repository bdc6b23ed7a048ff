use Rattle.std.proofs.Common.{◌<◌, length}
use Rattle.vx_rename.specs.Renaming.{Standing}
use Rattle.vx_rename.specs.Making.{standing}
use Rattle.vx_rename.proofs.Making.{underway_next}
use Rattle.vx_rename.proofs.made_ops.made_ops.Goals as goal

pub loop-place-preserved : goal.loop-place-preserved
loop-place-preserved c =
    let first : Standing = standing c.args.table.now in
    let now : Standing = standing c.loop-place.table in
    let after : Standing = standing c.made_op.new.table in
    let l : c.loop-place.place < length c.args.ops.now = search in
    underway_next first c.args.written.now c.args.ops.now c.loop-place.place c.loop-place.made c.push_if.new.ops now after c.name_at.result _ c.in-Some.new l c.loop-place.invariant c.name_at.ensures c.in-Some.ensures c.in_ok-push_if-in-Some.ensures
