use Rattle.std.proofs.Common.{arith, w32, length, drop, ◌<◌, ◌≤◌, ◌+◌}
use Rattle.std.specs.Prelude.{slice_set}
use Rattle.std.proofs.lemmas.Int.{to_z-of_z}
use Rattle.vx_plain.proofs.KeptSteps.{put_is, same_store}
use Rattle.vx_plain.proofs.store.Memory.set_scalar.Goals as goal

pub returns : goal.returns
returns c =
    let r : c.args.x + 1 ≤ length c.reach.new.scalars.items = c.in_ok-reach.ensures.reached in
    let h : c.args.x < length c.reach.new.scalars.items = omega arith in
    rw (to_z-of_z w32 c.args.v c.ranges.v)
    (same_store c.args.self.now (slice_set c.reach.new.scalars.items c.args.x c.args.v) c.args.x c.args.v
    (record { scalars = c.self.inside.scalars.items; arrays = c.self.inside.arrays.items; input = drop c.self.inside.taken c.self.inside.input.items; out = c.self.inside.out.items })
    (cc) (put_is c.self.inside.scalars.items c.reach.new.scalars.items c.args.x c.args.v h c.in_ok-reach.ensures.same))
