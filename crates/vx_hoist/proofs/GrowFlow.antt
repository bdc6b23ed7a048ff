-- A flow of a program with more silent operations stays one; and steps of the pass.
use Rattle.std.proofs.Common.{◌≡◌, ℕ, ◌&&◌, Bool, true, false, List, [], ◌∷◌, ◌++◌, refl, sym, ap, ◌∙◌, subst}
use Rattle.std.specs.List.{list_all}
use Rattle.vx_flow.specs.declared.graph.Op.{Op}
use Rattle.vx_flow.specs.declared.graph.Block.{Block}
use Rattle.vx_flow.specs.declared.graph.Graph.{Graph}
use Rattle.vx_flow.specs.declared.graph.Flow.{Flow}
use Rattle.vx_flow.specs.Effects.{reads}
use Rattle.vx_flow.specs.Live.{reads_of_exit}
use Rattle.vx_flow.specs.Sound.{is_sound_flow}
use Rattle.vx_lower.specs.FlowOf.{GraphOf, FlowOf}
use Rattle.vx_shape.specs.Flows.{with_graphs, Each, OrSame, FlowStays}
use Rattle.vx_shape.specs.Shape.{Shaped}
use Rattle.vx_shape.specs.ShapeTest.{is_shaped}
use Rattle.vx_fold.specs.Thinning.{are_read}
use Rattle.vx_shape.proofs.ShapeTests.{shaped_where_tested}
use Rattle.vx_shape.proofs.Pairs.{each_related}
use Rattle.vx_shape.proofs.FlowsStay.{shape_kept, runs_stay}
use Rattle.vx_hoist.specs.Growing.{block_reads, BlockGrows, GraphGrows, GrownStays}
use Rattle.vx_hoist.proofs.GrowRuns.{grown_runs}

pub grown_stays : GrownStays
grown_stays flow graphs s sound p o = runs_stay GraphGrows (λ g h t. t.shape) flow graphs s (λ input safe n. grown_runs flow graphs s input safe n) sound p o

-- ---- a graph as it is

abbrev none : ℕ → Bool
none v = false

all_read : (vs : List ℕ) → are_read none vs ≡ true
all_read [] = refl
all_read (v ∷ vs) = all_read vs

ops_read : (ops : List Op) → list_all (λ op. are_read none (reads op)) ops ≡ true
ops_read [] = refl
ops_read (op ∷ ops) = ap (λ b. b && list_all (λ x. are_read none (reads x)) ops) (all_read (reads op)) ∙ ops_read ops

block_read : (block : Block) → block_reads none block ≡ true
block_read block = ap (λ b. b && are_read none (reads_of_exit block.exit)) (ops_read block.ops) ∙ all_read (reads_of_exit block.exit)

end_empty : (ops : List Op) → ops ≡ ops ++ []
end_empty [] = refl
end_empty (op ∷ ops) = ap (λ l. op ∷ l) (end_empty ops)

block_itself : (block : Block) → BlockGrows none block block
block_itself block = record { reads = block_read block; added = []; silent = refl; ops = end_empty block.ops; exit = refl }

blocks_themselves : (blocks : List Block) → Each (BlockGrows none) blocks blocks
blocks_themselves [] = tt
blocks_themselves (block ∷ blocks) = (block_itself block, blocks_themselves blocks)

itself : (g : Graph) → GraphGrows g g
itself g = record { unread = none; blocks = blocks_themselves g.blocks; is = refl; shape = λ p function o. o }

-- ---- a graph that passes the tests

pub tested_grows : (unread : ℕ → Bool) (g h : Graph) (bs : List Block) (origins : List ℕ) → h ≡ record g { blocks = bs } → Each (BlockGrows unread) g.blocks bs → is_shaped origins h.blocks ≡ true → GraphGrows g h
tested_grows unread g h bs origins e grows t =
    let shaped : Shaped (record g { blocks = bs }) = subst Shaped e (shaped_where_tested h origins t) in
    let q : h.blocks ≡ bs = ap (λ (x : Graph). x.blocks) e in
    record {
      unread = unread;
      blocks = subst (Each (BlockGrows unread) g.blocks) (sym q) grows;
      is = e ∙ ap (λ l. record g { blocks = l }) (sym q);
      shape = λ p function o. subst (GraphOf p function) (sym e) (shape_kept p function bs g o shaped);
    }

-- ---- the graphs of a flow, each grown or as it is

pub once_grown : (flow new : Flow) (graphs : List Graph) → Each (OrSame GraphGrows) flow.functions graphs → new ≡ with_graphs flow graphs → is_sound_flow new ≡ true → FlowStays flow new
once_grown flow new graphs s e sound p o =
    let t : is_sound_flow (with_graphs flow graphs) ≡ true = subst (λ f. is_sound_flow f ≡ true) e sound in
    subst (FlowOf p) (sym e) (grown_stays flow graphs (each_related GraphGrows flow.functions graphs itself s) t p o)
