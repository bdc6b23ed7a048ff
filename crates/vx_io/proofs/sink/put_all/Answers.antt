use Rattle.std.proofs.Common.{arith}
use Rattle.vx_io.proofs.PutSoFar.{PutSoFar-more, slice_from}
use Rattle.vx_io.proofs.sink.put_all.Goals as goal

pub pieces-preserved : goal.pieces-preserved
pieces-preserved g c = record {
  so_far = PutSoFar-more _ _ _ _ _ _ _ c.pieces.invariant.so_far c.in_ok-taken.ensures.first_bytes (slice_from c.in_ok-taken.taken c.pieces.rest.now);
  never_fall = omega (arith, c.in_ok-taken.ensures.faults_never_fall, c.pieces.invariant.never_fall);
}
