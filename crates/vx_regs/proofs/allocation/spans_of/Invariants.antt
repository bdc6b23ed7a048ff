use Rattle.std.proofs.Common.{◌≡◌, ◌++◌, drop}
use Rattle.vx_regs.specs.Filed.{spans_from}
use Rattle.vx_regs.proofs.allocation.spans_of.Given as goal

abbrev pub invariant-loop-value : goal.invariant-loop-value
invariant-loop-value l = l.spans.items ++ spans_from l.layout l.value (drop l.value l.hulls) ≡ spans_from l.layout 0 l.hulls
