use Rattle.std.proofs.Common.{◌≡◌, ◌++◌, ℕ, List, drop}
use Rattle.vx_mixed.specs.TraceOf.{trace_fixed}
use Rattle.vx_replace.proofs.trace.fixed_of.Given as goal

abbrev pub invariant-loop-index : goal.invariant-loop-index
invariant-loop-index l = (live : ℕ → List ℕ) → l.fixed ++ trace_fixed l.graph live (drop l.index l.blocks) ≡ trace_fixed l.graph live l.blocks
