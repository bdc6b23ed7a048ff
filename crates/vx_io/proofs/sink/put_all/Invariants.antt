use Rattle.std.proofs.Common.{◌≤◌, length}
use Rattle.vx_io.proofs.PutSoFar.{PutSoFar}
use Rattle.vx_io.proofs.sink.put_all.Given as goal

-- a front is put, the rest is left, and no fault came
abbrev pub invariant-pieces : goal.invariant-pieces
invariant-pieces g l =
    let told = g.K.Sink.told in
    let faults = g.K.Sink.faults in
    record {
      so_far : PutSoFar (told l.fn.out) (told l.out) l.bytes l.rest;
      never_fall : faults l.fn.out ≤ faults l.out;
    }

abbrev pub decreases-pieces : goal.decreases-pieces
decreases-pieces g l = length l.rest
