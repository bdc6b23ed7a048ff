-- The call of a site is the one that is found.
use Rattle.std.proofs.Common.{◌≡◌, ℕ, List, slice_get, Option, Some, None, refl, ap, ◌∙◌}
use Rattle.vx_flow.specs.declared.graph.Operand.{Operand}
use Rattle.vx_flow.specs.declared.graph.Exit.{Exit}
use Rattle.vx_flow.specs.declared.graph.Exit.TheVariants.{Goto, Split, Call, Return, Ends}
use Rattle.vx_flow.specs.declared.graph.Block.{Block}
use Rattle.vx_flow.specs.declared.graph.Graph.{Graph}
use Rattle.vx_flow.specs.declared.graph.Flow.{Flow}
use Rattle.vx_inline.specs.declared.site.Site.{Site}
use Rattle.vx_inline.specs.Finding.{callee_in, exit_in, block_in, caller_in, call_in}
use Rattle.vx_inline.specs.Inlined.{TheCall, CallAt}

pub call_there : (flow : Flow) (site : Site) (c : CallAt flow site) → call_in flow site ≡ Some c.parts
call_there flow site c =
    ap (caller_in flow site.block) c.is_caller ∙ ap (block_in flow c.parts.caller) c.is_block ∙ ap (exit_in flow c.parts.caller c.parts.block) c.ends ∙
    ap (callee_in c.parts.caller c.parts.block c.parts.called c.parts.arguments c.parts.result c.parts.next) c.is_callee

pub record CallFound (flow : Flow) (site : Site) (parts : TheCall) : Type 0 where
  pub call : CallAt flow site
  pub is : call.parts ≡ parts

module _ (flow : Flow) (site : Site) (parts : TheCall) where
  by_callee : (caller : Graph) → slice_get flow.functions site.function ≡ Some caller → (block : Block) → slice_get caller.blocks site.block ≡ Some block → (g : ℕ) (arguments : List Operand) (result : Option ℕ) (next : ℕ) → block.exit ≡ Call g arguments result next →
      (o : Option Graph) → slice_get flow.functions g ≡ o → callee_in caller block g arguments result next o ≡ Some parts → CallFound flow site parts
  by_callee caller e block f g arguments result next x None h q = absurd (cc)
  by_callee caller e block f g arguments result next x (Some callee) h q = record {
    call = record { parts = record { caller = caller; block = block; called = g; arguments = arguments; result = result; next = next; callee = callee }; is_caller = e; is_block = f; ends = x; is_callee = h };
    is = cc;
  }

  by_exit : (caller : Graph) → slice_get flow.functions site.function ≡ Some caller → (block : Block) → slice_get caller.blocks site.block ≡ Some block → (exit : Exit) → block.exit ≡ exit → exit_in flow caller block exit ≡ Some parts → CallFound flow site parts
  by_exit caller e block f (Goto c) x q = absurd (cc)
  by_exit caller e block f (Split p c d) x q = absurd (cc)
  by_exit caller e block f (Call g arguments result next) x q = by_callee caller e block f g arguments result next x (slice_get flow.functions g) refl q
  by_exit caller e block f (Return v) x q = absurd (cc)
  by_exit caller e block f (Ends k) x q = absurd (cc)

  by_block : (caller : Graph) → slice_get flow.functions site.function ≡ Some caller → (o : Option Block) → slice_get caller.blocks site.block ≡ o → block_in flow caller o ≡ Some parts → CallFound flow site parts
  by_block caller e None f q = absurd (cc)
  by_block caller e (Some block) f q = by_exit caller e block f block.exit refl q

  by_caller : (o : Option Graph) → slice_get flow.functions site.function ≡ o → caller_in flow site.block o ≡ Some parts → CallFound flow site parts
  by_caller None e q = absurd (cc)
  by_caller (Some caller) e q = by_block caller e (slice_get caller.blocks site.block) refl q

  pub call_found : call_in flow site ≡ Some parts → CallFound flow site parts
  call_found q = by_caller (slice_get flow.functions site.function) refl q
