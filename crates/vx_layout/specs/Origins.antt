-- What the operations and exits of a function are while its blocks become words: those of its graph, with values or copies of
-- them in place of values, and copies across.
use Rattle.std.specs.Prelude.{◌≡◌, ◌<◌, ◌*◌, ◌+◌, ◌%◌, ℕ, suc, Bool, Option, Some, List, length, slice_get}
use Rattle.vx_flow.specs.declared.graph.Bank.TheVariants.{General}
use Rattle.vx_flow.specs.declared.graph.Operand.{Operand}
use Rattle.vx_flow.specs.declared.graph.Op.{Op}
use Rattle.vx_flow.specs.declared.graph.Op.TheVariants.{Across}
use Rattle.vx_flow.specs.declared.graph.Edge.{Edge}
use Rattle.vx_flow.specs.declared.graph.Exit.{Exit}
use Rattle.vx_flow.specs.declared.graph.Exit.TheVariants.{Goto, Split as Branches, Call as Calls, Return as Returns, Ends as Stops}
use Rattle.vx_flow.specs.declared.graph.Block.{Block}
use Rattle.vx_flow.specs.declared.graph.Graph.{Graph}
use Rattle.vx_flow.specs.Effects.{IsIn, dismissed, writes}
use Rattle.vx_flow.specs.Operands.{with_value_in, with_values}
use Rattle.vx_flow.specs.Sound.{HasOperation, HasExit}
use Rattle.vx_mixed.specs.declared.region.Item.{Item}
use Rattle.vx_mixed.specs.declared.region.Item.TheVariants.{Split as SplitItem}
use Rattle.vx_mixed.specs.declared.region.Region.{Region}
use Rattle.vx_mixed.specs.declared.region.Node.TheVariants.{Unused}
use Rattle.vx_mixed.specs.declared.mixed.MixedGraph.{MixedGraph}
use Rattle.vx_mixed.specs.declared.layout.Laid.{Laid}
use Rattle.vx_mixed.specs.declared.layout.Laid.TheVariants.{Plain, Split}
use Rattle.vx_mixed.specs.declared.layout.VirtualWord.TheVariants.{Choice, Call, Return}
use Rattle.vx_mixed.specs.declared.layout.VWords.{VWords}
use Rattle.vx_mixed.specs.Valid.{IsOp, names_of}
use Rattle.vx_mixed.specs.LaidSettled.{Plans}
use Rattle.vx_layout.specs.Numbered.{IsNumbered}

-- the value of which v is a copy, or v itself, where the graph has so many values
abbrev pub whole : (values : ℕ) → ℕ → ℕ
whole values v = v % values

abbrev pub whole_operand : ℕ → Operand → Operand
whole_operand values = with_value_in (whole values)

-- the operation with values in place of their copies
abbrev pub whole_op : ℕ → Op → Op
whole_op values = with_values (whole values)

-- the copy of value u to cluster k
abbrev pub copy_of : (values u k : ℕ) → ℕ
copy_of values u k = suc k * values + u

-- an operation of the graph that reads copies where it may, a load perhaps dismissible; or a copy of a general value
pub data ComesFrom (graph : Graph) : Op → Type 0 where
  graph_op : {op : Op} (origin : Op) → HasOperation graph origin → dismissed (whole_op (length graph.banks) op) ≡ dismissed origin → writes op ≡ writes origin → ((v : ℕ) → IsIn v (names_of op) → v < 5 * length graph.banks) → ComesFrom graph op
  copy : {u k : ℕ} → slice_get graph.banks u ≡ Some General → k < 4 → ComesFrom graph (Across (copy_of (length graph.banks) u k) u)

-- a two-way exit of the graph by this test
pub record Parts (graph : Graph) (test : ℕ) : Type 0 where
  pub yes : ℕ
  pub no : ℕ
  pub has : HasExit graph (Branches test yes no)

pub record CallsAs (graph : Graph) (g : ℕ) (arguments : List Operand) (result : Option ℕ) : Type 0 where
  pub next : ℕ
  pub has : HasExit graph (Calls g arguments result next)

-- an exit of the graph but for the blocks to which it goes; a jump may be any
abbrev pub ExitComesFrom : Graph → Exit → Type 0
ExitComesFrom graph (Goto c) = Unit {0}
ExitComesFrom graph (Branches p c d) = Parts graph p
ExitComesFrom graph (Calls g arguments result next) = CallsAs graph g arguments result
ExitComesFrom graph (Returns x) = HasExit graph (Returns x)
ExitComesFrom graph (Stops k) = HasExit graph (Stops k)

-- a graph of blocks and regions that has the code of a function's graph
pub record ComesFromGraph (graph : Graph) (m : MixedGraph) : Type 0 where
  pub banks : m.banks ≡ graph.banks
  pub parameters : m.parameters ≡ graph.parameters
  pub arrays : m.arrays ≡ graph.arrays
  pub ops : (op : Op) → IsOp m op → ComesFrom graph op
  pub block_exits : (b : ℕ) (block : Block) → slice_get m.nodes b ≡ Some (Unused block) → ExitComesFrom graph block.exit
  pub region_exits : (r : ℕ) (g : Region) → slice_get m.regions r ≡ Some g → ExitComesFrom graph g.last
  pub splits : (r j test d : ℕ) (y : Bool) (e : Edge) (g : Region) (word : List Item) → slice_get m.regions r ≡ Some g → slice_get g.words j ≡ Some word → IsIn (SplitItem test y e d) word → Parts graph test

-- a layout that has it, with numbered words
pub record LaidFromGraph (graph : Graph) (l : VWords) : Type 0 where
  pub banks : l.banks ≡ graph.banks
  pub numbered : IsNumbered l
  pub ops : (p cluster : ℕ) (op : Op) (items : List Laid) → Plans l p items → IsIn (Plain op cluster) items → ComesFrom graph op
  pub splits : (p test q : ℕ) (y : Bool) (items : List Laid) → Plans l p items → IsIn (Split test y q) items → Parts graph test
  pub choices : (p test q : ℕ) → slice_get l.words p ≡ Some (Choice test q) → Parts graph test
  pub calls : (p g : ℕ) (arguments : List Operand) (result : Option ℕ) → slice_get l.words p ≡ Some (Call g arguments result) → CallsAs graph g arguments result
  pub returns : (p : ℕ) (x : Operand) → slice_get l.words p ≡ Some (Return x) → HasExit graph (Returns x)
