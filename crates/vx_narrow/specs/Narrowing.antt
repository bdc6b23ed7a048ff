-- Graphs exchanged for narrowed ones: each graph by claims of its own, that its entry and its blocks pass with what is given of the
-- parameters of all.
use Rattle.std.specs.Prelude.{◌≡◌, ◌≤◌, ◌+◌, ℕ, ℤ, Bool, true, ◌&&◌, List, [], ◌∷◌, length, slice_get, Some}
use Rattle.std.specs.List.{list_all}
use Rattle.vx_flow.specs.Apart.{HasGlobalsFirst}
use Rattle.vx_flow.specs.declared.graph.Array.{Array}
use Rattle.vx_flow.specs.declared.graph.Block.{Block}
use Rattle.vx_flow.specs.declared.graph.Graph.{Graph}
use Rattle.vx_flow.specs.declared.graph.Global.{Global}
use Rattle.vx_flow.specs.declared.graph.Flow.{Flow}
use Rattle.vx_base.specs.Arithmetic.{IsNumber}
use Rattle.vx_base.specs.Outcome.{NeverFails}
use Rattle.vx_flow.specs.Effects.{IsIn}
use Rattle.vx_flow.specs.Meaning.{graph_run}
use Rattle.vx_flow.specs.Sound.{is_sound_flow}
use Rattle.vx_claims.specs.declared.claim.Claim.{Claim}
use Rattle.vx_claims.specs.declared.intervals.Interval.{Interval}
use Rattle.vx_narrow.specs.Checking.{is_number, most_arrays, is_entry_checked, is_block_checked}
use Rattle.vx_narrow.specs.Rewriting.{narrowed_graph}
use Rattle.vx_shape.specs.Flows.{with_graphs, FlowStays}

-- whether the blocks of a function with these arrays pass, from block b on
abbrev pub are_blocks_checked : List Array → (given : ℕ → List Interval) → (ℕ → Claim) → ℕ → List Block → Bool
are_blocks_checked arrays given claims b [] = true
are_blocks_checked arrays given claims b (k ∷ ks) = is_block_checked arrays given claims b k && are_blocks_checked arrays given claims (b + 1) ks

-- the new graph of function f is the old one narrowed by claims that pass, where so much is given of the parameters
pub record GraphNarrowed (given : ℕ → List Interval) (f : ℕ) (old new : Graph) : Type 0 where
  pub claims : ℕ → Claim
  pub few : length old.arrays ≤ most_arrays
  pub entry : is_entry_checked (given f) old.parameters (claims 0) ≡ true
  pub blocks : (b : ℕ) (block : Block) → slice_get old.blocks b ≡ Some block → is_block_checked old.arrays given claims b block ≡ true
  pub narrowed : new ≡ narrowed_graph claims old

-- the same of the graphs from function f on
abbrev pub NarrowedWith : (given : ℕ → List Interval) → ℕ → List Graph → List Graph → Type 0
NarrowedWith given f [] [] = Unit {0}
NarrowedWith given f [] (h ∷ hs) = ⊥
NarrowedWith given f (g ∷ gs) [] = ⊥
NarrowedWith given f (g ∷ gs) (h ∷ hs) = GraphNarrowed given f g h × NarrowedWith given (f + 1) gs hs

-- the graphs of a program, with something given of the parameters of each function
abbrev pub GraphsNarrowed : List Graph → List Graph → Type 0
GraphsNarrowed gs hs = (given : ℕ → List Interval) × NarrowedWith given 0 gs hs

abbrev pub are_numbers : List Global → Bool
are_numbers globals = list_all (λ (g : Global). is_number g.first) globals

-- a flow of a program stays one where its graphs are narrowed
abbrev pub NarrowedStays : Type 0
NarrowedStays = (flow : Flow) (graphs : List Graph) → GraphsNarrowed flow.functions graphs → are_numbers flow.globals ≡ true → is_sound_flow (with_graphs flow graphs) ≡ true → FlowStays flow (with_graphs flow graphs)

-- on every input of numbers where a flow never fails, it comes to the same with its graphs narrowed, at every bound, whatever their shape
abbrev pub NarrowedGraphsRun : Type 0
NarrowedGraphsRun = (flow : Flow) (graphs : List Graph) → GraphsNarrowed flow.functions graphs → are_numbers flow.globals ≡ true → HasGlobalsFirst flow → (input : List ℤ) → ((n : ℤ) → IsIn n input → IsNumber n) →
    NeverFails (graph_run flow input) → (n : ℕ) → graph_run (with_graphs flow graphs) input n ≡ graph_run flow input n
