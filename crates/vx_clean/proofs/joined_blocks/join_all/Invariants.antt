use Rattle.std.proofs.Common.{◌≡◌, length}
use Rattle.vx_clean.proofs.joined_blocks.join_all.Given as goal

abbrev pub invariant-loop-place : goal.invariant-loop-place
invariant-loop-place l = length l.after.items ≡ length l.initial.after.items
