-- The nodes of a graph in which a trace became a region and no block was made: first its start, then the blocks behind, then
-- those of them that are joins.
use Rattle.std.specs.Prelude.{ℕ, List, [], ◌∷◌, slice_set}
use Rattle.vx_flow.specs.declared.trace.Join.{Join}
use Rattle.vx_mixed.specs.declared.region.Node.{Node}
use Rattle.vx_mixed.specs.declared.region.Node.TheVariants.{Enters, Inner}
use Rattle.vx_mixed.specs.declared.replacement.Replacement.{Replacement}

abbrev pub with_inner : List ℕ → List Node → List Node
with_inner [] nodes = nodes
with_inner (b ∷ blocks) nodes = with_inner blocks (slice_set nodes b Inner)

abbrev pub with_rejoins : (region : ℕ) → List Join → List ℕ → List Node → List Node
with_rejoins region [] words nodes = nodes
with_rejoins region (j ∷ joins) [] nodes = nodes
with_rejoins region (j ∷ joins) (w ∷ words) nodes = with_rejoins region joins words (slice_set nodes j.block (Enters region w))

abbrev pub with_blocks : (region : ℕ) → List ℕ → List Join → List ℕ → List Node → List Node
with_blocks region [] joins words nodes = nodes
with_blocks region (first ∷ others) joins words nodes = with_rejoins region joins words (with_inner others (slice_set nodes first (Enters region 0)))

abbrev pub exchanged : (region : ℕ) → Replacement → List Node → List Node
exchanged region r nodes = with_blocks region r.trace.blocks r.trace.joins r.rejoins nodes
