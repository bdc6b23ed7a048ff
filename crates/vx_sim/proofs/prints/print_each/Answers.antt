use Rattle.std.proofs.Common.{arith, []}
use Rattle.vx_isa.specs.Machine.{print_of}
use Rattle.vx_sim.specs.Standing.{state_of}
use Rattle.vx_sim.proofs.Operations.{no_operation}
use Rattle.vx_sim.proofs.Printing.{put_operation, put_operation_front, on_err}
use Rattle.vx_sim.proofs.prints.print_each.Goals as goal

pub loop-op-preserved : goal.loop-op-preserved
loop-op-preserved g c =
    let text = print_of c.args.program.now (state_of c.args.now.now []) in
    record {
      so_far = put_operation _ _ _ text c.args.ops.now c.loop-op.op-index no_operation c.loop-op-test.true c.loop-op.invariant.so_far c.in_ok-print_one.ensures.all;
      never_fall = omega (arith, c.loop-op.invariant.never_fall, c.print_one.ensures.faults_never_fall);
    }

pub returns-in_err-print_one-clause-front : goal.returns-in_err-print_one-clause-front
returns-in_err-print_one-clause-front g c =
    let text = print_of c.args.program.now (state_of c.args.now.now []) in
    on_err _ c.from_residual.result (put_operation_front _ _ _ text c.args.ops.now c.loop-op.op-index no_operation c.loop-op-test.true c.loop-op.invariant.so_far c.in_err-print_one.ensures.front)
