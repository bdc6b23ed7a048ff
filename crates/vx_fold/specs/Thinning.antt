-- A flow without the operations whose results are not read, and the laws that it does the same and stays a flow of its program.
use Rattle.std.specs.Prelude.{◌≡◌, ℕ, ℤ, Bool, true, false, ◌&&◌, ◌||◌, not, Option, Some, None, List, [], ◌∷◌, map, slice_get}
use Rattle.std.specs.List.{list_all}
use Rattle.vx_base.specs.Outcome.{NeverFails}
use Rattle.vx_ast.specs.Tree.{Function, Program}
use Rattle.vx_flow.specs.declared.graph.Op.{Op}
use Rattle.vx_flow.specs.declared.graph.Op.TheVariants.{Input}
use Rattle.vx_flow.specs.declared.graph.Block.{Block}
use Rattle.vx_flow.specs.declared.graph.Graph.{Graph}
use Rattle.vx_flow.specs.declared.graph.Flow.{Flow}
use Rattle.vx_flow.specs.Effects.{reads}
use Rattle.vx_flow.specs.Live.{reads_of_exit}
use Rattle.vx_flow.specs.Operands.{written_by}
use Rattle.vx_flow.specs.Meaning.{graph_run}
use Rattle.vx_flow.specs.Sound.{is_sound_flow}
use Rattle.vx_lower.specs.FlowOf.{GraphOf, FlowOf}
use Rattle.vx_shape.specs.Flows.{with_graphs, Each}

-- the value that an operation writes, where it does nothing else
abbrev pub result_alone : Op → Option ℕ
result_alone (Input v) = None
result_alone op = written_by op

abbrev pub is_unread : (ℕ → Bool) → Option ℕ → Bool
is_unread unread None = false
is_unread unread (Some v) = unread v

abbrev pub op_unless : Bool → Op → List Op → List Op
op_unless true op ops = ops
op_unless false op ops = op ∷ ops

-- without the operations that only write an unread value
abbrev pub thinned_ops : (ℕ → Bool) → List Op → List Op
thinned_ops unread [] = []
thinned_ops unread (op ∷ ops) = op_unless (is_unread unread (result_alone op)) op (thinned_ops unread ops)

abbrev pub thinned_block : (ℕ → Bool) → Block → Block
thinned_block unread block = record { ops = thinned_ops unread block.ops; exit = block.exit }

abbrev pub thinned : (ℕ → Bool) → Graph → Graph
thinned unread g = record g { blocks = map (thinned_block unread) g.blocks }

-- what stays reads no unread value

abbrev pub are_read : (ℕ → Bool) → List ℕ → Bool
are_read unread vs = list_all (λ v. not (unread v)) vs

abbrev pub reads_read : (ℕ → Bool) → Op → Bool
reads_read unread op = is_unread unread (result_alone op) || are_read unread (reads op)

abbrev pub block_reads_read : (ℕ → Bool) → Block → Bool
block_reads_read unread block = list_all (reads_read unread) block.ops && are_read unread (reads_of_exit block.exit)

-- a value is unread where its mark says that it is not needed
abbrev pub is_marked_unread : Option Bool → Bool
is_marked_unread None = false
is_marked_unread (Some needed) = not needed

abbrev pub unread_of : List Bool → ℕ → Bool
unread_of needed v = is_marked_unread (slice_get needed v)

-- the new graph is the old one without such operations, and keeps the shape that the graph of a function has
pub record GraphThins (old new : Graph) : Type 0 where
  pub unread : ℕ → Bool
  pub reads : list_all (block_reads_read unread) old.blocks ≡ true
  pub is : new ≡ thinned unread old
  pub shape : (p : Program) (function : Function) → GraphOf p function old → GraphOf p function new

-- on every input where the old flow never fails, the new one comes to the same at every bound
abbrev pub ThinnedRuns : Type 0
ThinnedRuns = (flow : Flow) (graphs : List Graph) → Each GraphThins flow.functions graphs → (input : List ℤ) → NeverFails (graph_run flow input) → (n : ℕ) → graph_run (with_graphs flow graphs) input n ≡ graph_run flow input n

abbrev pub ThinnedStays : Type 0
ThinnedStays = (p : Program) (flow : Flow) (graphs : List Graph) → Each GraphThins flow.functions graphs → is_sound_flow (with_graphs flow graphs) ≡ true → FlowOf p flow → FlowOf p (with_graphs flow graphs)
