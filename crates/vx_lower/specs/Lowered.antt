-- The graphs of a program have the code of its functions.
use Rattle.std.specs.Prelude.{◌≡◌, ℕ, zero, suc, ◌+◌, ◌*◌, ◌≤◌, ℤ, pos, true, Some, List, [], ◌∷◌, ◌++◌, length, map, slice_get}
use Rattle.vx_base.specs.Outcome.{Same, NeverFails}
use Rattle.vx_ast.specs.declared.tree.GlobalVariable.{GlobalVariable}
use Rattle.vx_ast.specs.declared.tree.GlobalVariable.TheVariants.{Scalar as ScalarGlobal, Array as ArrayGlobal}
use Rattle.vx_ast.specs.declared.tree.Takes.{Takes}
use Rattle.vx_ast.specs.declared.tree.Takes.TheVariants.{Number as TakesNumber, Array as TakesArray}
use Rattle.vx_ast.specs.Tree.{Function, Program}
use Rattle.vx_ast.specs.Meaning.{source}
use Rattle.vx_ast.specs.Accepted.{global_words, arrays_taken, is_accepted}
use Rattle.vx_flow.specs.declared.graph.Operand.TheVariants.{Number}
use Rattle.vx_flow.specs.declared.graph.Exit.TheVariants.{Return}
use Rattle.vx_flow.specs.declared.graph.Block.{Block}
use Rattle.vx_flow.specs.declared.graph.Graph.{Graph}
use Rattle.vx_flow.specs.declared.graph.Global.{Global}
use Rattle.vx_flow.specs.declared.graph.Flow.{Flow}
use Rattle.vx_flow.specs.Meaning.{graph_run}
use Rattle.vx_lower.specs.FlowOf.{AreNumbers}
use Rattle.vx_lower.specs.declared.seen.Seen.{Seen}
use Rattle.vx_lower.specs.declared.seen.Seen.TheVariants.{GlobalArray, OwnArray, Handed}
use Rattle.vx_lower.specs.Seen.{Sees, arrays_from}
use Rattle.vx_lower.specs.Holds.{Goes, ends}
use Rattle.vx_lower.specs.Does.{Does}

-- the values that hold what is passed to a function: for a number the next scalar, for an array where it stands and how many
-- words it has
abbrev pub values_for : (scalar handed : ℕ) → List Takes → List ℕ
values_for x v [] = []
values_for x v (TakesNumber ∷ takes) = x ∷ values_for (suc x) v takes
values_for x v (TakesArray ∷ takes) = v ∷ suc v ∷ values_for x (suc (suc v)) takes

-- so many arrays that are handed over, whose values are numbered from a first one on
abbrev pub handed_from : (value count : ℕ) → List Seen
handed_from v zero = []
handed_from v (suc n) = Handed v (suc v) ∷ handed_from (suc (suc v)) n

abbrev pub global_seen : GlobalVariable → Seen
global_seen g = GlobalArray (global_words g)

-- the arrays that a function sees; the values of those that are handed over to it stand behind its scalars
abbrev pub arrays_seen : Program → Function → List Seen
arrays_seen p f = map global_seen p.globals ++ handed_from f.scalars (arrays_taken f) ++ map OwnArray f.arrays

abbrev pub sees_of : Program → Function → Sees
sees_of p f = record { scalars = f.scalars; arrays = arrays_seen p f }

-- the first value that neither is a scalar nor holds what is handed over
abbrev pub first_value : Function → ℕ
first_value f = f.scalars + 2 * arrays_taken f

abbrev pub global_of : GlobalVariable → Global
global_of (ScalarGlobal z) = record { words = 1; first = z }
global_of (ArrayGlobal n) = record { words = n; first = pos 0 }

-- the graph has the code of the function; where the code ends, 0 is returned
pub record Lowered (p : Program) (texts : List (List ℕ)) (f : Function) (g : Graph) : Type 0 where
  pub parameters : g.parameters ≡ values_for 0 f.scalars f.takes
  pub arrays : g.arrays ≡ arrays_from 0 (arrays_seen p f)
  pub enough : f.parameters ≤ f.scalars
  pub start : Block
  pub last : Block
  pub out : Block
  pub at_start : slice_get g.blocks 0 ≡ Some start
  pub body : Does g.blocks (sees_of p f) texts (first_value f) f.body start last out out
  pub falls : Goes g.blocks (ends (Return (Number (pos 0)))) last
  pub out_falls : Goes g.blocks (ends (Return (Number (pos 0)))) out

pub record AllLowered (p : Program) (flow : Flow) : Type 0 where
  pub globals : flow.globals ≡ map global_of p.globals
  pub main : flow.main ≡ p.main
  pub count : length flow.functions ≡ length p.functions
  pub lowered : (i : ℕ) (f : Function) (g : Graph) → slice_get p.functions i ≡ Some f → slice_get flow.functions i ≡ Some g → Lowered p flow.texts f g

-- graphs that have the code of an accepted program do what it does, and never what has no meaning
abbrev pub LoweringLaw : Type 0
LoweringLaw = (p : Program) (flow : Flow) → is_accepted p ≡ true → AllLowered p flow → (input : List ℤ) → AreNumbers input → Same (source p input) (graph_run flow input) × NeverFails (graph_run flow input)
