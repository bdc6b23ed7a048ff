use Rattle.std.proofs.Common.{◌≡◌, length}
use Rattle.vx_clean.proofs.layout.mark_firsts.Given as goal

abbrev pub invariant-loop-place : goal.invariant-loop-place
invariant-loop-place l = length l.firsts.items ≡ length l.initial.firsts.items
