-- How many calls a flow has; and which blocks of the caller keep their numbers.
use Rattle.std.specs.Prelude.{◌≡◌, ◌+◌, ℕ, Bool, true, false, List, [], ◌∷◌, ◌++◌, length, Some, slice_get}
use Rattle.std.specs.List.{filter}
use Rattle.vx_ast.specs.Tree.{Program}
use Rattle.vx_flow.specs.declared.graph.Op.{Op}
use Rattle.vx_flow.specs.declared.graph.Bank.{Bank}
use Rattle.vx_flow.specs.declared.graph.Exit.{Exit}
use Rattle.vx_flow.specs.declared.graph.Exit.TheVariants.{Goto, Split, Call, Return, Ends}
use Rattle.vx_flow.specs.declared.graph.Block.{Block}
use Rattle.vx_flow.specs.declared.graph.Graph.{Graph}
use Rattle.vx_flow.specs.declared.graph.Flow.{Flow}
use Rattle.vx_lower.specs.FlowOf.{FlowOf}
use Rattle.vx_inline.specs.declared.site.Site.{Site}
use Rattle.vx_inline.specs.Inlined.{CallAt, IsPermitted, Inlined, is_plain, inlined_blocks}

abbrev pub is_call : Exit → Bool
is_call (Goto c) = false
is_call (Split p c d) = false
is_call (Call f arguments result c) = true
is_call (Return x) = false
is_call (Ends k) = false

abbrev pub calls_in : List Block → ℕ
calls_in blocks = length (filter (λ block. is_call block.exit) blocks)

abbrev pub calls_of : List Graph → ℕ
calls_of [] = 0
calls_of (g ∷ gs) = calls_in g.blocks + calls_of gs

-- with a call inlined a flow has one call less
abbrev pub OneCallLess : Type 0
OneCallLess = (flow new : Flow) (site : Site) → Inlined flow site new → calls_of new.functions + 1 ≡ calls_of flow.functions

-- a block of the caller that is no trap block stands at its own number, with its operations in front
abbrev pub NumbersStay : Type 0
NumbersStay = (p : Program) (flow : Flow) (site : Site) (c : CallAt flow site) (free : Bank → List ℕ) → FlowOf p flow → IsPermitted flow site c free → (b : ℕ) (block : Block) → slice_get c.parts.caller.blocks b ≡ Some block → is_plain block ≡ true →
    (into : Block) × (more : List Op) × (slice_get (inlined_blocks c.parts site.block free) b ≡ Some into) × (into.ops ≡ block.ops ++ more)
