-- A program whose decided splits go one way and whose results are read where they stand already, and the law that its runs
-- stay the same.
use Rattle.std.specs.Prelude.{◌≡◌, ◌+◌, ℕ, Bool, ℤ, Option, Some, None, List, [], ◌∷◌, ◌⊎◌, true, false, slice_get}
use Rattle.vx_base.specs.Arithmetic.{IsNumber}
use Rattle.vx_base.specs.Outcome.{NeverFails}
use Rattle.vx_flow.specs.declared.graph.Array.{Array}
use Rattle.vx_flow.specs.declared.graph.Exit.{Exit}
use Rattle.vx_flow.specs.declared.graph.Exit.TheVariants.{Goto, Split}
use Rattle.vx_flow.specs.declared.graph.Block.{Block}
use Rattle.vx_flow.specs.declared.graph.Graph.{Graph}
use Rattle.vx_flow.specs.declared.graph.Flow.{Flow}
use Rattle.vx_flow.specs.Effects.{IsIn, State}
use Rattle.vx_flow.specs.Meaning.{graph_run, Hop, Arrives, Wrong, Active, hop, program_of, start}
use Rattle.vx_claims.specs.declared.claim.Claim.{Claim}
use Rattle.vx_claims.specs.declared.intervals.Interval.{Interval}
use Rattle.vx_claims.specs.declared.fact.Fact.{Fact}
use Rattle.vx_claims.specs.Facts.{decided}
use Rattle.vx_claims.specs.Forming.{after_all}
use Rattle.vx_narrow.specs.Shortening.{improved_all}
use Rattle.vx_narrow.specs.Checking.{Checked, Leads}

abbrev pub side_of : Bool → ℕ → ℕ → ℕ
side_of true c d = c
side_of false c d = d

abbrev pub GoesTo : ℕ → ℕ → Hop → Type 0
GoesTo b c h = (h ≡ Wrong) ⊎ ((s : State) × (h ≡ Arrives b c s))

-- where the facts behind the operations of a block decide the test of its split, it is left by that side
abbrev pub DecidedGoes : Type 0
DecidedGoes = (flow : Flow) (given : ℕ → List Interval) (claims : ℕ → ℕ → Claim) → Checked flow given claims → (input : List ℤ) → ((n : ℤ) → IsIn n input → IsNumber n) →
    (n : ℕ) (r : Active) → Leads flow n (start flow input) r →
    (g : Graph) (block : Block) (p c d : ℕ) (answer : Bool) → slice_get flow.functions r.function ≡ Some g → slice_get g.blocks r.block ≡ Some block →
    block.exit ≡ Split p c d → decided (after_all g.arrays (claims r.function r.block) block.ops) p ≡ Some answer →
    GoesTo r.block (side_of answer c d) (hop (program_of flow) r)

abbrev pub split_by : Option Bool → ℕ → ℕ → ℕ → Exit
split_by None p c d = Split p c d
split_by (Some answer) p c d = Goto (side_of answer c d)

abbrev pub narrowed_exit : List Fact → Exit → Exit
narrowed_exit fs (Split p c d) = split_by (decided fs p) p c d
narrowed_exit fs exit = exit

-- a block of a function with these arrays
abbrev pub narrowed_block : List Array → (ℕ → Claim) → ℕ → Block → Block
narrowed_block arrays claims b block = record { ops = improved_all arrays (claims b) block.ops; exit = narrowed_exit (after_all arrays (claims b) block.ops) block.exit }

-- the blocks from block b on
abbrev pub narrowed_from : List Array → (ℕ → Claim) → ℕ → List Block → List Block
narrowed_from arrays claims b [] = []
narrowed_from arrays claims b (k ∷ ks) = narrowed_block arrays claims b k ∷ narrowed_from arrays claims (b + 1) ks

abbrev pub narrowed_graph : (ℕ → Claim) → Graph → Graph
narrowed_graph claims g = record g { blocks = narrowed_from g.arrays claims 0 g.blocks }

-- the functions from function f on
abbrev pub narrowed_functions : (ℕ → ℕ → Claim) → ℕ → List Graph → List Graph
narrowed_functions claims f [] = []
narrowed_functions claims f (g ∷ gs) = narrowed_graph (claims f) g ∷ narrowed_functions claims (f + 1) gs

abbrev pub narrowed : (ℕ → ℕ → Claim) → Flow → Flow
narrowed claims flow = record flow { functions = narrowed_functions claims 0 flow.functions }

-- on every input of numbers where the program never fails, it comes to the same with its decided splits gone, at every bound
abbrev pub NarrowedRuns : Type 0
NarrowedRuns = (flow : Flow) (given : ℕ → List Interval) (claims : ℕ → ℕ → Claim) → Checked flow given claims → (input : List ℤ) → ((n : ℤ) → IsIn n input → IsNumber n) →
    NeverFails (graph_run flow input) → (n : ℕ) → graph_run (narrowed claims flow) input n ≡ graph_run flow input n
