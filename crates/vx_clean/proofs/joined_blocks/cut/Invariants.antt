use Rattle.std.proofs.Common.{◌≡◌, length}
use Rattle.vx_clean.proofs.joined_blocks.cut.Given as goal

abbrev pub invariant-cutting : goal.invariant-cutting
invariant-cutting l = length l.after.items ≡ length l.initial.after.items
