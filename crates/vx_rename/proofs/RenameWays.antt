-- A graph under names has the blocks of the old one, and each leads where it did.
use Rattle.std.proofs.Common.{◌≡◌, inl, inr, ℕ, ◌+◌, List, [], ◌∷◌, map, refl, ap, ◌∙◌}
use Rattle.vx_flow.specs.declared.graph.Exit.{Exit}
use Rattle.vx_flow.specs.declared.graph.Exit.TheVariants.{Goto, Split, Call, Return, Ends}
use Rattle.vx_flow.specs.declared.graph.Block.{Block}
use Rattle.vx_flow.specs.declared.graph.Graph.{Graph}
use Rattle.vx_flow.specs.declared.graph.Flow.{Flow}
use Rattle.vx_shape.specs.Flows.{with_graphs, Each, OrSame}
use Rattle.vx_rename.specs.declared.names.BlockNames.{BlockNames}
use Rattle.vx_rename.specs.Renaming.{no_name, names_at, renamed_exit, ending, leaving, renamed_blocks, way_of, graph_ways, ways, GraphRenames, RenamedWays}

same_way : (name : ℕ → ℕ) (w : ℕ) (exit : Exit) → way_of (renamed_exit name w exit) ≡ way_of exit
same_way name w (Goto c) = refl
same_way name w (Split p c d) = refl
same_way name w (Call f arguments result c) = refl
same_way name w (Return x) = refl
same_way name w (Ends k) = refl

abbrev block_way : Block → Exit
block_way block = way_of block.exit

block_ways : (at : ℕ → BlockNames) (n : ℕ → ℕ) (b : ℕ) (blocks : List Block) → map block_way (renamed_blocks at n b blocks) ≡ map block_way blocks
block_ways at n b [] = refl
block_ways at n b (block ∷ blocks) =
    ap (λ x. x ∷ map block_way (renamed_blocks at (leaving n (at b) block) (b + 1) blocks)) (same_way (ending n (at b) block).name (at b).result block.exit)
    ∙ ap (λ l. block_way block ∷ l) (block_ways at (leaving n (at b) block) (b + 1) blocks)

graph_keeps : (g h : Graph) → OrSame GraphRenames g h → graph_ways h ≡ graph_ways g
graph_keeps g h (inl e) = ap graph_ways e
graph_keeps g h (inr r) = ap graph_ways r.is ∙ block_ways (names_at r.names.blocks) no_name 0 g.blocks

all_keep : (gs hs : List Graph) → Each (OrSame GraphRenames) gs hs → map graph_ways hs ≡ map graph_ways gs
all_keep [] [] each = refl
all_keep [] (h ∷ hs) each = absurd each
all_keep (g ∷ gs) [] each = absurd each
all_keep (g ∷ gs) (h ∷ hs) each = ap (λ x. x ∷ map graph_ways hs) (graph_keeps g h each.0) ∙ ap (λ l. graph_ways g ∷ l) (all_keep gs hs each.1)

pub renamed_ways : RenamedWays
renamed_ways flow graphs each = all_keep flow.functions graphs each

pub once_keeps : (flow new : Flow) (graphs : List Graph) → Each (OrSame GraphRenames) flow.functions graphs → new ≡ with_graphs flow graphs → ways new ≡ ways flow
once_keeps flow new graphs each e = ap ways e ∙ renamed_ways flow graphs each
