-- The graphs of a program: they do what it does, on every input, and have the shape that the later layers ask for.
use Rattle.std.specs.Prelude.{◌≡◌, ◌<◌, ◌≤◌, ◌*◌, ℕ, suc, ℤ, Bool, true, false, List, [], ◌∷◌, ◌++◌, length, map, replicate, count_by, Some, slice_get}
use Rattle.vx_base.specs.Arithmetic.{IsNumber}
use Rattle.vx_base.specs.Outcome.{Same, NeverFails}
use Rattle.vx_base.specs.declared.outcome.Trap.{Trap}
use Rattle.vx_ast.specs.declared.tree.Takes.{Takes}
use Rattle.vx_ast.specs.declared.tree.Takes.TheVariants.{Number as TakesNumber, Array as TakesArray}
use Rattle.vx_ast.specs.Tree.{Function, Program}
use Rattle.vx_ast.specs.Meaning.{source}
use Rattle.vx_ast.specs.Accepted.{function_nodes, global_words, arrays_taken}
use Rattle.vx_flow.specs.declared.graph.Bank.{Bank}
use Rattle.vx_flow.specs.declared.graph.Bank.TheVariants.{General, Branch}
use Rattle.vx_flow.specs.declared.graph.Exit.TheVariants.{Split, Ends}
use Rattle.vx_flow.specs.declared.graph.Block.{Block}
use Rattle.vx_flow.specs.declared.graph.Graph.{Graph}
use Rattle.vx_flow.specs.declared.graph.Flow.{Flow}
use Rattle.vx_flow.specs.Effects.{IsIn}
use Rattle.vx_flow.specs.Meaning.{graph_run}
use Rattle.vx_flow.specs.Sound.{Leads, has_base, is_sound_flow}

-- numbers of 32 bits
abbrev pub AreNumbers : List ℤ → Type 0
AreNumbers ns = (n : ℤ) → IsIn n ns → IsNumber n

-- block b ends by this trap
pub record EndsBy (g : Graph) (b : ℕ) (trap : Trap) : Type 0 where
  pub block : Block
  pub has : slice_get g.blocks b ≡ Some block
  pub ends : block.exit ≡ Ends trap

-- an edge from block b to block c
abbrev pub IsEdge : Graph → (b c : ℕ) → Type 0
IsEdge g b c = Leads g.blocks b c

abbrev pub is_general : Bank → Bool
is_general General = true
is_general Branch = false

abbrev pub is_branch : Bank → Bool
is_branch General = false
is_branch Branch = true

-- how many values hold what is passed to a function: one for a number, and two for an array, where it stands and how many words
-- it has
abbrev pub values_taken : List Takes → ℕ
values_taken [] = 0
values_taken (TakesNumber ∷ takes) = suc (values_taken takes)
values_taken (TakesArray ∷ takes) = suc (suc (values_taken takes))

-- the words of the arrays of a function, and which of them are handed over
abbrev pub words_of : Program → Function → List ℕ
words_of p f = map global_words p.globals ++ replicate (arrays_taken f) 0 ++ f.arrays

abbrev pub bases_of : Program → Function → List Bool
bases_of p f = replicate (length p.globals) false ++ replicate (arrays_taken f) true ++ replicate (length f.arrays) false

-- the shape of the graph of a function of the program
pub record GraphOf (p : Program) (f : Function) (g : Graph) : Type 0 where
  pub parameters : length g.parameters ≡ values_taken f.takes
  -- one array for each global, one for each array parameter and one for each array of the function; each of the first and of
  -- the last has the words that are declared, one that is handed over has a base and no words of its own
  pub arrays : map (λ array. array.words) g.arrays ≡ words_of p f
  pub bases : map has_base g.arrays ≡ bases_of p f
  -- a trap block is empty, is the only one of its kind, and only trap blocks come behind it
  pub trap_empty : (b : ℕ) (k : Trap) → (e : EndsBy g b k) → e.block.ops ≡ []
  pub trap_alone : (b c : ℕ) (k : Trap) → EndsBy g b k → EndsBy g c k → b ≡ c
  pub traps_last : (b c : ℕ) (k : Trap) → EndsBy g b k → b < c → c < length g.blocks → (j : Trap) × EndsBy g c j
  pub short : (b : ℕ) (block : Block) → slice_get g.blocks b ≡ Some block → length block.ops ≤ 512
  pub apart : (b : ℕ) (block : Block) (test yes no : ℕ) → slice_get g.blocks b ≡ Some block → block.exit ≡ Split test yes no → yes ≡ no → ⊥
  -- where two edges leave a block and one of them leads to d, no other block has an edge to d
  pub uncritical : (b c d e : ℕ) → IsEdge g b c → IsEdge g b d → (c ≡ d → ⊥) → IsEdge g e d → e ≡ b
  pub entry : (b : ℕ) → IsEdge g b 0 → ⊥
  pub general_values : count_by is_general g.banks ≤ 3 * function_nodes f
  pub branch_values : count_by is_branch g.banks ≤ 2 * function_nodes f

-- the graphs do what the program does, on every input, and never what has no meaning
pub record RunsAs (p : Program) (flow : Flow) : Type 0 where
  pub same : (input : List ℤ) → AreNumbers input → Same (source p input) (graph_run flow input)
  pub never_wrong : (input : List ℤ) → AreNumbers input → NeverFails (graph_run flow input)

pub record FlowOf (p : Program) (flow : Flow) : Type 0 where
  pub sound : is_sound_flow flow ≡ true
  pub count : length flow.functions ≡ length p.functions
  pub graphs : (f : ℕ) (function : Function) (graph : Graph) → slice_get p.functions f ≡ Some function → slice_get flow.functions f ≡ Some graph → GraphOf p function graph
  pub globals : map (λ global. global.words) flow.globals ≡ map global_words p.globals
  pub main : flow.main ≡ p.main
  pub runs : RunsAs p flow
