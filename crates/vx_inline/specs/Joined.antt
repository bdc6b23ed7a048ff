-- A graph in which a callee stands in place of a call, wherever its blocks and those of the caller stand, and whichever values
-- the callee's have in their place: what the law of runs needs of an inlined call.
use Rattle.std.specs.Prelude.{◌≡◌, ◌⊎◌, ◌≤◌, ℕ, ℤ, Option, Some, List, [], ◌++◌, length, map, slice_get}
use Rattle.std.specs.List.{flat_map}
use Rattle.vx_base.specs.Outcome.{Same, NeverFails}
use Rattle.vx_flow.specs.declared.graph.Op.{Op}
use Rattle.vx_flow.specs.declared.graph.Exit.{Exit}
use Rattle.vx_flow.specs.declared.graph.Exit.TheVariants.{Goto, Split, Call, Return, Ends}
use Rattle.vx_flow.specs.declared.graph.Block.{Block}
use Rattle.vx_flow.specs.declared.graph.Graph.{Graph}
use Rattle.vx_flow.specs.declared.graph.Flow.{Flow}
use Rattle.vx_flow.specs.Effects.{IsIn, value_in}
use Rattle.vx_flow.specs.Live.{IsLive}
use Rattle.vx_flow.specs.Meaning.{graph_run}
use Rattle.vx_flow.specs.Operands.{with_value_in, with_values}
use Rattle.vx_flow.specs.Sound.{SoundFlow}
use Rattle.vx_shape.specs.Flows.{with_graphs}
use Rattle.vx_inline.specs.declared.site.Site.{Site}
use Rattle.vx_inline.specs.Inlined.{CallAt, Reaches, OnCycle, names, moves_in, moves_out}

-- block x is block c, or is empty and goes on to it
abbrev pub ComesTo : List Block → (x c : ℕ) → Type 0
ComesTo blocks x c = (x ≡ c) ⊎ (slice_get blocks x ≡ Some (record { ops = []; exit = Goto c }))

-- exit e leads where the exit of a block of the caller does
abbrev pub Follows : List Block → (ℕ → ℕ) → Exit → Exit → Type 0
Follows blocks at (Goto c) e = e ≡ Goto (at c)
Follows blocks at (Split p c d) e = (x : ℕ) × (y : ℕ) × ComesTo blocks x (at c) × ComesTo blocks y (at d) × (e ≡ Split p x y)
Follows blocks at (Call f arguments result c) e = e ≡ Call f arguments result (at c)
Follows blocks at (Return x) e = e ≡ Return x
Follows blocks at (Ends k) e = e ≡ Ends k

-- and these operations with exit e do what the exit of a block of the callee does
abbrev pub Copies : List Block → (copy to : ℕ → ℕ) → Option ℕ → (back : ℕ) → Exit → List Op → Exit → Type 0
Copies blocks copy to result back (Goto c) more e = (more ≡ []) × (e ≡ Goto (copy c))
Copies blocks copy to result back (Split p c d) more e = (x : ℕ) × (y : ℕ) × (more ≡ []) × ComesTo blocks x (copy c) × ComesTo blocks y (copy d) × (e ≡ Split (to p) x y)
Copies blocks copy to result back (Call f arguments v c) more e = ⊥
Copies blocks copy to result back (Return x) more e = (more ≡ moves_out result (with_value_in to x)) × (e ≡ Goto back)
Copies blocks copy to result back (Ends k) more e = (more ≡ []) × (e ≡ Ends k)

-- a block of the caller stands at a place
pub record Stays (blocks : List Block) (at : ℕ → ℕ) (old : Block) (place : ℕ) : Type 0 where
  pub into : Block
  pub is : slice_get blocks place ≡ Some into
  pub ops : into.ops ≡ old.ops
  pub follows : Follows blocks at old.exit into.exit

-- a block of the callee stands at a place
pub record Stands (blocks : List Block) (copy to : ℕ → ℕ) (result : Option ℕ) (back : ℕ) (old : Block) (place : ℕ) : Type 0 where
  pub into : Block
  pub is : slice_get blocks place ≡ Some into
  pub more : List Op
  pub ops : into.ops ≡ map (with_values to) old.ops ++ more
  pub copies : Copies blocks copy to result back old.exit more into.exit

-- the block that called enters the copy
pub record Enters (blocks : List Block) (ops : List Op) (first place : ℕ) : Type 0 where
  pub into : Block
  pub is : slice_get blocks place ≡ Some into
  pub does : into.ops ≡ ops
  pub leads : into.exit ≡ Goto first

-- the graphs with the callee in place of the call: at, where each block of the caller stands; copy, where each of the callee does;
-- to, what stands in place of each value of the callee
pub record Joins (flow : Flow) (site : Site) (c : CallAt flow site) (graphs : List Graph) (at copy to : ℕ → ℕ) : Type 0 where
  pub others : (f : ℕ) → (f ≡ site.function → ⊥) → slice_get graphs f ≡ slice_get flow.functions f
  pub graph : Graph
  pub is_graph : slice_get graphs site.function ≡ Some graph
  pub parameters : graph.parameters ≡ c.parts.caller.parameters
  pub arrays : graph.arrays ≡ c.parts.caller.arrays
  pub entry : at 0 ≡ 0
  pub stays : (b : ℕ) (block : Block) → (b ≡ site.block → ⊥) → slice_get c.parts.caller.blocks b ≡ Some block → Stays graph.blocks at block (at b)
  pub enters : Enters graph.blocks (c.parts.block.ops ++ moves_in to c.parts.callee.parameters c.parts.arguments) (copy 0) (at site.block)
  pub stands : (b : ℕ) (block : Block) → slice_get c.parts.callee.blocks b ≡ Some block → Stands graph.blocks copy to c.parts.result (at c.parts.next) block (copy b)
  -- no two values of the callee have one in their place, and none has one that is live behind the call or an argument
  pub one : (u v : ℕ) → IsIn u (names c.parts.callee) → IsIn v (names c.parts.callee) → to u ≡ to v → u ≡ v
  pub dead : (v : ℕ) → IsIn v (names c.parts.callee) → IsLive c.parts.caller c.parts.next (to v) → (c.parts.result ≡ Some (to v) → ⊥) → ⊥
  pub unread : (v : ℕ) → IsIn v (names c.parts.callee) → IsIn (to v) (flat_map value_in c.parts.arguments) → ⊥

-- what the law asks of the calls of the flow
pub record IsShallow (flow : Flow) (site : Site) (c : CallAt flow site) : Type 0 where
  pub alone : OnCycle flow site.function → ⊥
  pub apart : (f : ℕ) → OnCycle flow f → Reaches flow f site.function → ⊥
  pub own_none : length c.parts.callee.arrays ≤ length flow.globals
  pub few : length flow.functions ≤ 256

-- on every input where the flow never fails the new one does the same and never fails
abbrev pub JoinedRuns : Type 0
JoinedRuns = (flow : Flow) (site : Site) (c : CallAt flow site) (graphs : List Graph) (at copy to : ℕ → ℕ) → Joins flow site c graphs at copy to → IsShallow flow site c → SoundFlow flow →
    (input : List ℤ) → NeverFails (graph_run flow input) → Same (graph_run flow input) (graph_run (with_graphs flow graphs) input) × NeverFails (graph_run (with_graphs flow graphs) input)
