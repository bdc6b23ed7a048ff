use Rattle.std.proofs.Common.{◌≡◌, length}
use Rattle.vx_clean.proofs.layout.unmark_joined.Given as goal

abbrev pub invariant-loop-joined : goal.invariant-loop-joined
invariant-loop-joined l = length l.firsts.items ≡ length l.initial.firsts.items
