use Rattle.std.proofs.Common.{◌≡◌, ◌++◌, drop}
use Rattle.vx_mixed.specs.Routes.{live_values}
use Rattle.vx_mixed.specs.TraceOf.{trace_ops}
use Rattle.vx_replace.proofs.trace.ops_with.Given as goal

abbrev pub invariant-loop-index : goal.invariant-loop-index
invariant-loop-index l = l.ops ++ trace_ops l.graph (live_values l.live) (drop l.index l.blocks) ≡ trace_ops l.graph (live_values l.live) l.blocks
