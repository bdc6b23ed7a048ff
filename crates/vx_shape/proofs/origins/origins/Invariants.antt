use Rattle.std.proofs.Common.{◌≡◌, ◌≤◌, length}
use Rattle.vx_shape.specs.Origins.{NotedBefore, TrueBefore}
use Rattle.vx_shape.proofs.origins.origins.Given as goal

abbrev pub invariant-loop-from : goal.invariant-loop-from
invariant-loop-from l = record { count : length l.origins.items ≡ length l.blocks; noted : NotedBefore l.blocks l.from l.origins.items; told : TrueBefore l.blocks l.from l.origins.items; place : l.from ≤ length l.blocks }
