-- A flow of a program without the operations whose results are not read stays one; and steps of the pass.
use Rattle.std.proofs.Common.{◌≡◌, ℕ, ◌&&◌, ◌||◌, Bool, true, false, List, [], ◌∷◌, ◌++◌, map, Option, Some, None, refl, sym, ap, ◌∙◌, subst}
use Rattle.std.specs.List.{list_all, flat_map}
use Rattle.std.specs.Prelude.{not}
use Rattle.vx_flow.specs.declared.graph.Op.{Op}
use Rattle.vx_flow.specs.declared.graph.Operand.{Operand}
use Rattle.vx_flow.specs.declared.graph.Block.{Block}
use Rattle.vx_flow.specs.declared.operands.Reads.{Reads}
use Rattle.vx_flow.specs.declared.graph.Graph.{Graph}
use Rattle.vx_flow.specs.declared.graph.Flow.{Flow}
use Rattle.vx_flow.specs.Effects.{reads, value_in}
use Rattle.vx_flow.specs.Operands.{read_by, values_read}
use Rattle.vx_flow.proofs.OperandLaws.{reads_listed}
use Rattle.vx_flow.specs.Live.{reads_of_exit}
use Rattle.vx_flow.specs.Sound.{is_sound_flow}
use Rattle.vx_lower.specs.FlowOf.{GraphOf, FlowOf}
use Rattle.vx_shape.specs.Flows.{with_graphs, Each, OrSame, FlowStays}
use Rattle.vx_shape.specs.Shape.{Shaped}
use Rattle.vx_shape.specs.ShapeTest.{is_shaped}
use Rattle.vx_fold.specs.Thinning.{result_alone, is_unread, op_unless, thinned_ops, thinned_block, thinned, are_read, reads_read, block_reads_read, unread_of, GraphThins, ThinnedStays}
use Rattle.vx_shape.proofs.ShapeTests.{shaped_where_tested}
use Rattle.vx_shape.proofs.Pairs.{each_related}
use Rattle.vx_shape.proofs.FlowsStay.{shape_kept, runs_stay}
use Rattle.vx_fold.proofs.ThinRuns.{thinned_runs}

pub thinned_stays : ThinnedStays
thinned_stays p flow graphs s sound o = runs_stay GraphThins (λ g h t. t.shape) flow graphs s (λ input safe n. thinned_runs flow graphs s input safe n) sound p o

-- ---- a graph as it is

abbrev none : ℕ → Bool
none v = false

all_read : (vs : List ℕ) → are_read none vs ≡ true
all_read [] = refl
all_read (v ∷ vs) = all_read vs

is_none : (o : Option ℕ) → is_unread none o ≡ false
is_none None = refl
is_none (Some v) = refl

op_read : (op : Op) → reads_read none op ≡ true
op_read op = ap (λ b. b || are_read none (reads op)) (is_none (result_alone op)) ∙ all_read (reads op)

ops_read : (ops : List Op) → list_all (reads_read none) ops ≡ true
ops_read [] = refl
ops_read (op ∷ ops) = ap (λ b. b && list_all (reads_read none) ops) (op_read op) ∙ ops_read ops

block_read : (block : Block) → block_reads_read none block ≡ true
block_read block = ap (λ b. b && are_read none (reads_of_exit block.exit)) (ops_read block.ops) ∙ all_read (reads_of_exit block.exit)

blocks_read : (blocks : List Block) → list_all (block_reads_read none) blocks ≡ true
blocks_read [] = refl
blocks_read (block ∷ blocks) = ap (λ b. b && list_all (block_reads_read none) blocks) (block_read block) ∙ blocks_read blocks

same_ops : (ops : List Op) → thinned_ops none ops ≡ ops
same_ops [] = refl
same_ops (op ∷ ops) = ap (λ b. op_unless b op (thinned_ops none ops)) (is_none (result_alone op)) ∙ ap (λ l. op ∷ l) (same_ops ops)

same_blocks : (blocks : List Block) → map (thinned_block none) blocks ≡ blocks
same_blocks [] = refl
same_blocks (block ∷ blocks) =
    ap (λ ops. record { ops = ops; exit = block.exit } ∷ map (thinned_block none) blocks) (same_ops block.ops) ∙ ap (λ l. block ∷ l) (same_blocks blocks)

thin_itself : (g : Graph) → GraphThins g g
thin_itself g = record {
  unread = none;
  reads = blocks_read g.blocks;
  is = ap (λ bs. record g { blocks = bs }) (sym (same_blocks g.blocks));
  shape = λ p function o. o;
}

-- ---- a graph that passes the tests

pub tested_thins : (needed : List Bool) (g h : Graph) (origins : List ℕ) → h ≡ thinned (unread_of needed) g → list_all (block_reads_read (unread_of needed)) g.blocks ≡ true → is_shaped origins h.blocks ≡ true → GraphThins g h
tested_thins needed g h origins e t s =
    let shaped : Shaped (thinned (unread_of needed) g) = subst Shaped e (shaped_where_tested h origins s) in
    record { unread = unread_of needed; reads = t; is = e; shape = λ p function o. subst (GraphOf p function) (sym e) (shape_kept p function (map (thinned_block (unread_of needed)) g.blocks) g o shaped) }

-- ---- the graphs of a flow, each thinned or as it is

pub once_thinned : (flow new : Flow) (graphs : List Graph) → Each (OrSame GraphThins) flow.functions graphs → new ≡ with_graphs flow graphs → is_sound_flow new ≡ true → FlowStays flow new
once_thinned flow new graphs s e sound p o =
    let t : is_sound_flow (with_graphs flow graphs) ≡ true = subst (λ f. is_sound_flow f ≡ true) e sound in
    subst (FlowOf p) (sym e) (thinned_stays p flow graphs (each_related GraphThins flow.functions graphs thin_itself s) t o)

-- ---- what is read

pub read_both : (unread : ℕ → Bool) (xs ys : List ℕ) → are_read unread (xs ++ ys) ≡ (are_read unread xs && are_read unread ys)
read_both unread [] ys = refl
read_both unread (x ∷ xs) ys = by (not (unread x)) (read_both unread xs ys)
  where
    by : (b : Bool) → are_read unread (xs ++ ys) ≡ (are_read unread xs && are_read unread ys) → (b && are_read unread (xs ++ ys)) ≡ ((b && are_read unread xs) && are_read unread ys)
    by true e = e
    by false e = refl

pub read_by_op : (unread : ℕ → Bool) (op : Op) (r : Reads) (b : Bool) → r ≡ read_by op → b ≡ are_read unread (values_read r) → b ≡ are_read unread (reads op)
read_by_op unread op r b e h = h ∙ ap (are_read unread) (reads_listed op r e)

pub read_all : (unread : ℕ → Bool) (xs : List Operand) → are_read unread (flat_map value_in xs) ≡ list_all (λ x. are_read unread (value_in x)) xs
read_all unread [] = refl
read_all unread (x ∷ xs) = read_both unread (value_in x) (flat_map value_in xs) ∙ ap (λ b. are_read unread (value_in x) && b) (read_all unread xs)
