-- What holds of the graphs that are lowered beside FlowOf, which a later pass need not keep; and that a flow of a program
-- is sound in words.
use Rattle.std.specs.Prelude.{◌≡◌, ℕ, Bool, false, Some, slice_get}
use Rattle.vx_ast.specs.Tree.{Program}
use Rattle.vx_flow.specs.declared.graph.Operand.{Operand}
use Rattle.vx_flow.specs.declared.graph.Op.TheVariants.{Load}
use Rattle.vx_flow.specs.declared.graph.Array.{Array}
use Rattle.vx_flow.specs.declared.graph.Graph.{Graph}
use Rattle.vx_flow.specs.declared.graph.Flow.{Flow}
use Rattle.vx_flow.specs.Sound.{HasOperation, SoundFlow}
use Rattle.vx_lower.specs.FlowOf.{FlowOf}

-- each array is told apart by its number
abbrev pub NamedByNumber : Graph → Type 0
NamedByNumber g = (a : ℕ) (array : Array) → slice_get g.arrays a ≡ Some array → array.named ≡ a

-- no load is dismissible: each stands where its place is within the array
abbrev pub NoneDismissible : Graph → Type 0
NoneDismissible g = (v a : ℕ) (p : Operand) (dismissible : Bool) → HasOperation g (Load v a p dismissible) → dismissible ≡ false

-- what the test of FlowOf says in words, whichever pass the flow comes from
abbrev pub SoundInWords : Type 0
SoundInWords = (p : Program) (flow : Flow) → FlowOf p flow → SoundFlow flow
