use Rattle.std.proofs.Common.{◌≡◌, length}
use Rattle.vx_clean.specs.Chains.{AreFilled}
use Rattle.vx_clean.proofs.layout.chains.Given as goal

abbrev pub invariant-loop-first : goal.invariant-loop-first
invariant-loop-first l = record { numbers : length l.to.items ≡ length l.initial.to.items; filled : AreFilled l.chains.items }
