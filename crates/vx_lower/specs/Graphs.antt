-- The graphs of functions, before it is known which texts the program prints behind theirs.
use Rattle.std.specs.Prelude.{◌≡◌, ℕ, ◌<◌, ◌≤◌, pos, Some, None, List, [], ◌∷◌, length, map, replicate, slice_get}
use Rattle.vx_base.specs.declared.outcome.Trap.{Trap}
use Rattle.vx_ast.specs.Tree.{Function, Program}
use Rattle.vx_flow.specs.declared.graph.Bank.TheVariants.{General}
use Rattle.vx_flow.specs.declared.graph.Operand.TheVariants.{Number}
use Rattle.vx_flow.specs.declared.graph.Exit.{Exit}
use Rattle.vx_flow.specs.declared.graph.Exit.TheVariants.{Return}
use Rattle.vx_flow.specs.declared.graph.Block.{Block}
use Rattle.vx_flow.specs.declared.graph.Graph.{Graph}
use Rattle.vx_flow.specs.Sound.{has_base}
use Rattle.vx_lower.specs.FlowOf.{EndsBy, values_taken, words_of, bases_of}
use Rattle.vx_lower.specs.Seen.{Sees}
use Rattle.vx_lower.specs.Holds.{ends}
use Rattle.vx_lower.specs.Does.{Does}
use Rattle.vx_lower.specs.Builds.{Finishes}
use Rattle.vx_lower.specs.Makes.{Begins, CodeWithin}
use Rattle.vx_lower.specs.Finished.{WereShort}
use Rattle.vx_lower.specs.Lowered.{sees_of, first_value, Lowered}
use Rattle.vx_lower.specs.declared.builder.Builder.{Builder}

-- where every function begins: so many values are there, and its entry is open
abbrev pub beginning : ℕ → Builder
beginning values = record { blocks = None ∷ []; current = 0; ops = []; banks = replicate values General }

abbrev pub back_with_zero : Exit
back_with_zero = Return (Number (pos 0))

-- what a function's body names is there
abbrev pub FunctionWithin : Sees → Function → Type 0
FunctionWithin words f = (f.parameters ≤ f.scalars) × CodeWithin words (first_value f) f.body

-- the code of a whole body was made: where it falls off its end or leaves a loop that is not there, 0 is returned
pub record Built (words : Sees) (f : Function) (b : Builder) (before after : List (List ℕ)) : Type 0 where
  pub texts : Begins before after
  pub short : WereShort b.blocks
  pub code : FunctionWithin words f → (B : List Block) → Finishes B b → (all : List (List ℕ)) → Begins after all → (start : Block) × (slice_get B 0 ≡ Some start) × Does B words all (first_value f) f.body start (ends back_with_zero) (ends back_with_zero) (ends back_with_zero)

-- the shape of the graph of a function, as far as its blocks and its arrays tell it (FlowOf has the rest)
pub record ShapeOf (p : Program) (f : Function) (g : Graph) : Type 0 where
  pub parameters : length g.parameters ≡ values_taken f.takes
  pub arrays : map (λ array. array.words) g.arrays ≡ words_of p f
  pub bases : map has_base g.arrays ≡ bases_of p f
  pub trap_empty : (b : ℕ) (k : Trap) → (e : EndsBy g b k) → e.block.ops ≡ []
  pub trap_alone : (b c : ℕ) (k : Trap) → EndsBy g b k → EndsBy g c k → b ≡ c
  pub traps_last : (b c : ℕ) (k : Trap) → EndsBy g b k → b < c → c < length g.blocks → (j : Trap) × EndsBy g c j
  pub short : (b : ℕ) (block : Block) → slice_get g.blocks b ≡ Some block → length block.ops ≤ 512

-- a function has its graph, whatever texts come behind those after it
pub record Graphed (p : Program) (f : Function) (g : Graph) (before after : List (List ℕ)) : Type 0 where
  pub texts : Begins before after
  pub shape : ShapeOf p f g
  pub lowered : FunctionWithin (sees_of p f) f → (all : List (List ℕ)) → Begins after all → Lowered p all f g

-- each function has its graph
pub record AllGraphed (p : Program) (fs : List Function) (gs : List Graph) (before after : List (List ℕ)) : Type 0 where
  pub texts : Begins before after
  pub count : length gs ≡ length fs
  pub shapes : (i : ℕ) (f : Function) (g : Graph) → slice_get fs i ≡ Some f → slice_get gs i ≡ Some g → ShapeOf p f g
  pub lowered : (i : ℕ) (f : Function) (g : Graph) → slice_get fs i ≡ Some f → slice_get gs i ≡ Some g → FunctionWithin (sees_of p f) f → (all : List (List ℕ)) → Begins after all → Lowered p all f g
