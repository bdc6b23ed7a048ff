use Rattle.std.proofs.Common.{◌<◌, length, arith}
use Rattle.vx_names.proofs.Declaring.{removed_more}
use Rattle.vx_names.proofs.names.Names.leave.Goals as goal

pub loop-alloc-preserved : goal.loop-alloc-preserved
loop-alloc-preserved c =
    let n = c.count.ensures in
    let h : c.args.count < length c.loop-alloc.self.locals = omega (arith, n) in
    removed_more c.args.self.now c.loop-alloc.self c.forget.new.self c.args.count c.loop-alloc.invariant h c.in_ok-forget.ensures
