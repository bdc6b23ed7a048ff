-- The call of a site, found in a flow.
use Rattle.std.specs.Prelude.{ℕ, Option, Some, None, List, slice_get}
use Rattle.vx_flow.specs.declared.graph.Operand.{Operand}
use Rattle.vx_flow.specs.declared.graph.Exit.{Exit}
use Rattle.vx_flow.specs.declared.graph.Exit.TheVariants.{Goto, Split, Call, Return, Ends}
use Rattle.vx_flow.specs.declared.graph.Block.{Block}
use Rattle.vx_flow.specs.declared.graph.Graph.{Graph}
use Rattle.vx_flow.specs.declared.graph.Flow.{Flow}
use Rattle.vx_inline.specs.declared.site.Site.{Site}
use Rattle.vx_inline.specs.declared.found_call.FoundCall.{FoundCall}
use Rattle.vx_inline.specs.Inlined.{TheCall}

abbrev pub seen : FoundCall → TheCall
seen found = record { caller = found.caller.now; block = found.block.now; called = found.called; arguments = found.arguments.now; result = found.result; next = found.next; callee = found.callee.now }

abbrev pub callee_in : Graph → Block → (called : ℕ) → List Operand → Option ℕ → (next : ℕ) → Option Graph → Option TheCall
callee_in caller block called arguments result next None = None
callee_in caller block called arguments result next (Some callee) = Some (record { caller = caller; block = block; called = called; arguments = arguments; result = result; next = next; callee = callee })

abbrev pub exit_in : Flow → Graph → Block → Exit → Option TheCall
exit_in flow caller block (Goto c) = None
exit_in flow caller block (Split p c d) = None
exit_in flow caller block (Call f arguments result c) = callee_in caller block f arguments result c (slice_get flow.functions f)
exit_in flow caller block (Return x) = None
exit_in flow caller block (Ends k) = None

abbrev pub block_in : Flow → Graph → Option Block → Option TheCall
block_in flow caller None = None
block_in flow caller (Some block) = exit_in flow caller block block.exit

abbrev pub caller_in : Flow → (block : ℕ) → Option Graph → Option TheCall
caller_in flow block None = None
caller_in flow block (Some caller) = block_in flow caller (slice_get caller.blocks block)

-- the call of a site; None where no block that calls a function of the flow stands there
abbrev pub call_in : Flow → Site → Option TheCall
call_in flow site = caller_in flow site.block (slice_get flow.functions site.function)
