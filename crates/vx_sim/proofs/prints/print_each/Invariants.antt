use Rattle.std.proofs.Common.{◌≤◌, [], drop}
use Rattle.std.specs.List.{flat_map}
use Rattle.vx_io.proofs.PutSoFar.{PutSoFar}
use Rattle.vx_isa.specs.Machine.{print_of}
use Rattle.vx_sim.specs.Standing.{state_of}
use Rattle.vx_sim.proofs.prints.print_each.Given as goal

abbrev pub invariant-loop-op : goal.invariant-loop-op
invariant-loop-op g l =
    let told = g.K.Sink.told in
    let faults = g.K.Sink.faults in
    let text = print_of l.program (state_of l.now []) in
    record {
      so_far : PutSoFar (told l.fn.out) (told l.out) (flat_map text l.ops) (flat_map text (drop l.op-index l.ops));
      never_fall : faults l.fn.out ≤ faults l.out;
    }
