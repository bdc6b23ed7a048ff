-- A flow with more operations at the ends of its blocks, each of which always has a meaning and only writes a value that nothing
-- of the old flow reads: when a graph is such a one, and the laws that it does the same and stays a flow of its program.
use Rattle.std.specs.Prelude.{◌≡◌, ℕ, ℤ, Bool, true, false, ◌&&◌, not, List, ◌++◌}
use Rattle.std.specs.List.{list_all}
use Rattle.vx_base.specs.Outcome.{NeverFails}
use Rattle.vx_ast.specs.Tree.{Function, Program}
use Rattle.vx_flow.specs.declared.graph.Op.{Op}
use Rattle.vx_flow.specs.declared.graph.Op.TheVariants.{Load, Store, Across}
use Rattle.vx_flow.specs.declared.graph.Block.{Block}
use Rattle.vx_flow.specs.declared.graph.Graph.{Graph}
use Rattle.vx_flow.specs.declared.graph.Flow.{Flow}
use Rattle.vx_flow.specs.Effects.{reads}
use Rattle.vx_flow.specs.Live.{reads_of_exit}
use Rattle.vx_flow.specs.Operands.{is_observable}
use Rattle.vx_flow.specs.Meaning.{graph_run}
use Rattle.vx_flow.specs.Sound.{is_sound_flow}
use Rattle.vx_lower.specs.FlowOf.{GraphOf}
use Rattle.vx_shape.specs.Flows.{with_graphs, Each, FlowStays}
use Rattle.vx_fold.specs.Thinning.{result_alone, is_unread, are_read}

-- the operation has a meaning wherever it is executed, and its order among others cannot be seen; and it is no copy across
abbrev pub is_total : Op → Bool
is_total (Load v a p dismissible) = dismissible
is_total (Store a p x) = false
is_total (Across v u) = false
is_total op = not (is_observable op)

-- it does nothing but write an unread value
abbrev pub is_silent : (ℕ → Bool) → Op → Bool
is_silent unread op = is_total op && is_unread unread (result_alone op)

abbrev pub block_reads : (ℕ → Bool) → Block → Bool
block_reads unread block = list_all (λ op. are_read unread (reads op)) block.ops && are_read unread (reads_of_exit block.exit)

-- the old block reads no unread value, and more silent operations stand at the end of the new one
pub record BlockGrows (unread : ℕ → Bool) (old new : Block) : Type 0 where
  pub reads : block_reads unread old ≡ true
  pub added : List Op
  pub silent : list_all (is_silent unread) added ≡ true
  pub ops : new.ops ≡ old.ops ++ added
  pub exit : new.exit ≡ old.exit

-- the new graph is the old one with such blocks, and keeps the shape that the graph of a function has
pub record GraphGrows (old new : Graph) : Type 0 where
  pub unread : ℕ → Bool
  pub blocks : Each (BlockGrows unread) old.blocks new.blocks
  pub is : new ≡ record old { blocks = new.blocks }
  pub shape : (p : Program) (function : Function) → GraphOf p function old → GraphOf p function new

-- on every input where the old flow never fails, the new one comes to the same at every bound
abbrev pub GrownRuns : Type 0
GrownRuns = (flow : Flow) (graphs : List Graph) → Each GraphGrows flow.functions graphs → (input : List ℤ) → NeverFails (graph_run flow input) → (n : ℕ) → graph_run (with_graphs flow graphs) input n ≡ graph_run flow input n

abbrev pub GrownStays : Type 0
GrownStays = (flow : Flow) (graphs : List Graph) → Each GraphGrows flow.functions graphs → is_sound_flow (with_graphs flow graphs) ≡ true → FlowStays flow (with_graphs flow graphs)
