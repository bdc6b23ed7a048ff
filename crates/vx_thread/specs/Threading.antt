-- Graphs in which edges go straight past tests that they decide: a block that ends by such a test is copied to the ends of the blocks
-- that lead to it, and the copies are narrowed by what is known there; and so again, as a loop of few turns is put turn by turn behind
-- the block before it. When graphs are such ones, and the law that a flow of a program stays one.
use Rattle.std.specs.Prelude.{◌≡◌, ℕ, true, List, [], ◌∷◌}
use Rattle.vx_flow.specs.declared.graph.Graph.{Graph}
use Rattle.vx_flow.specs.declared.graph.Flow.{Flow}
use Rattle.vx_flow.specs.Sound.{is_sound_flow}
use Rattle.vx_shape.specs.Flows.{with_graphs, Each, FlowStays}
use Rattle.vx_shape.specs.Shape.{Shaped}
use Rattle.vx_clean.specs.Cleaning.{Place, GraphCleaned}
use Rattle.vx_narrow.specs.Narrowing.{are_numbers, GraphsNarrowed}

-- the new graph is the old one with blocks copied, merged and skipped, whatever its shape
pub record Copied (old new : Graph) : Type 0 where
  pub at : ℕ → List Place
  pub cleaned : GraphCleaned at old new
  pub is : new ≡ record old { blocks = new.blocks }

abbrev pub AreShaped : List Graph → Type 0
AreShaped [] = Unit {0}
AreShaped (g ∷ gs) = Shaped g × AreShaped gs

-- the new graphs come of the old ones step by step: blocks are copied, and the graphs then narrowed
pub data Steps (old : List Graph) : List Graph → Type 0 where
  none : Steps old old
  more : {now new : List Graph} (between : List Graph) → Steps old now → Each Copied now between → GraphsNarrowed between new → Steps old new

-- they do, and have their shape
pub record Threaded (old new : List Graph) : Type 0 where
  pub steps : Steps old new
  pub shaped : AreShaped new

abbrev pub ThreadedStays : Type 0
ThreadedStays = (flow : Flow) (graphs : List Graph) → Threaded flow.functions graphs → are_numbers flow.globals ≡ true → is_sound_flow (with_graphs flow graphs) ≡ true → FlowStays flow (with_graphs flow graphs)
