-- The sum so far.
use Rattle.std.proofs.Common.{◌≡◌, take}
use Rattle.vx_runs.specs.Summary.{byte_sum}
use Rattle.vx_runs.proofs.soak_run.byte_sum.Given as goal

abbrev pub invariant-loop-byte : goal.invariant-loop-byte
invariant-loop-byte l = l.sum ≡ byte_sum (take l.byte-index l.bytes)
