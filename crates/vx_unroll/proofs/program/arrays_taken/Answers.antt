use Rattle.std.proofs.Common.{arith}
use Rattle.std.proofs.lemmas.List.{drop_all}
use Rattle.vx_unroll.proofs.Declaring.{taken_step, taken_end}
use Rattle.vx_unroll.proofs.program.arrays_taken.Goals as goal

pub loop-taken-preserved : goal.loop-taken-preserved
loop-taken-preserved c =
    let one = c.array_taken-count.ensures.one in
    let few = c.loop-taken.invariant.1 in
    (taken_step c.args.takes.now c.loop-taken.taken-index c.loop-taken.count c.array_taken-count.result _ c.loop-taken.invariant.0 c.loop-taken-test.true c.array_taken-count.ensures.count, omega (arith, one, few))

pub returns-clause-count : goal.returns-clause-count
returns-clause-count c = taken_end c.args.takes.now c.loop-taken.taken-index c.loop-taken.count c.loop-taken.invariant.0 (drop_all c.loop-taken.taken-index c.args.takes.now c.loop-taken-test.false)
