-- Whether an operation reads a test, which is a branch value.
use Rattle.std.specs.Prelude.{Bool, true, false}
use Rattle.vx_flow.specs.declared.graph.Op.TheVariants.{Select}
use Rattle.vx_flow.specs.declared.trace.TraceOp.{TraceOp}
use Rattle.vx_flow.specs.declared.trace.TraceOp.TheVariants.{Plain, Split}

abbrev pub has_test : TraceOp → Bool
has_test (Plain (Select v test a b)) = true
has_test (Plain op) = false
has_test (Split test leaves_when edge live) = true
