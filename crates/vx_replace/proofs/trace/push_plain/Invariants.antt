use Rattle.std.proofs.Common.{◌≡◌, ◌++◌, take, map}
use Rattle.vx_flow.specs.declared.trace.TraceOp.TheVariants.{Plain}
use Rattle.vx_replace.proofs.trace.push_plain.Given as goal

abbrev pub invariant-loop-op : goal.invariant-loop-op
invariant-loop-op l = l.ops ≡ l.initial.ops ++ map Plain (take l.op-index l.plain)
