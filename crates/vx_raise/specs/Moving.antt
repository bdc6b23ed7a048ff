-- Any number of operations raised and exchanged, and the laws that the runs stay the same and that a flow of a program stays one.
use Rattle.std.specs.Prelude.{◌≡◌, ◌⊎◌, ℕ, zero, suc, ℤ, true, List}
use Rattle.vx_base.specs.Outcome.{NeverFails}
use Rattle.vx_ast.specs.Tree.{Program}
use Rattle.vx_flow.specs.declared.graph.Graph.{Graph}
use Rattle.vx_flow.specs.declared.graph.Flow.{Flow}
use Rattle.vx_flow.specs.Apart.{HasGlobalsFirst}
use Rattle.vx_flow.specs.Meaning.{graph_run, graph_path}
use Rattle.vx_flow.specs.Sound.{is_sound_flow}
use Rattle.vx_lower.specs.FlowOf.{AreNumbers, FlowOf}
use Rattle.vx_shape.specs.Flows.{with_graphs, Each, OrSame, FlowStays}
use Rattle.vx_raise.specs.Raising.{GraphRaised}
use Rattle.vx_raise.specs.Exchanging.{GraphExchanged}

-- an operation is raised, or two are exchanged
abbrev pub GraphStep : Graph → Graph → Type 0
GraphStep old new = GraphRaised old new ⊎ GraphExchanged old new

-- so many such steps, of which each may do nothing
abbrev pub Steps : ℕ → Graph → Graph → Type 0
Steps zero old new = new ≡ old
Steps (suc n) old new = (between : Graph) × OrSame GraphStep old between × Steps n between new

pub record GraphMoved (old new : Graph) : Type 0 where
  pub count : ℕ
  pub steps : Steps count old new

-- where the globals are flagged, on every input where the old flow never fails, the new one comes to the same at every bound
abbrev pub MovedRuns : Type 0
MovedRuns = (flow : Flow) (graphs : List Graph) → HasGlobalsFirst flow → Each GraphMoved flow.functions graphs → (input : List ℤ) → NeverFails (graph_run flow input) → (n : ℕ) → graph_run (with_graphs flow graphs) input n ≡ graph_run flow input n

-- and passes the same blocks and edges, so that what is counted of the one is true of the other
abbrev pub MovedPaths : Type 0
MovedPaths = (flow : Flow) (graphs : List Graph) → HasGlobalsFirst flow → Each GraphMoved flow.functions graphs → (input : List ℤ) → NeverFails (graph_run flow input) → (n : ℕ) → graph_path (with_graphs flow graphs) input n ≡ graph_path flow input n

-- on every input where the old flow never fails, the new one passes the same blocks and edges at every bound
abbrev pub SamePaths : Flow → Flow → Type 0
SamePaths old new = (input : List ℤ) → NeverFails (graph_run old input) → (n : ℕ) → graph_path new input n ≡ graph_path old input n

-- so it does on every input where the old flow is one of some program
abbrev pub PathsStay : Flow → Flow → Type 0
PathsStay old new = (p : Program) → FlowOf p old → (input : List ℤ) → AreNumbers input → (n : ℕ) → graph_path new input n ≡ graph_path old input n

abbrev pub MovedStays : Type 0
MovedStays = (flow : Flow) (graphs : List Graph) → Each GraphMoved flow.functions graphs → is_sound_flow (with_graphs flow graphs) ≡ true → FlowStays flow (with_graphs flow graphs)
