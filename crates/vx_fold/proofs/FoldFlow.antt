-- A flow of a program in which values that only ever hold one number are read as that number stays one; and steps of the pass.
use Rattle.std.proofs.Common.{◌≡◌, ℕ, ◌&&◌, Bool, true, false, cond, ℤ, List, [], ◌∷◌, map, Option, Some, None, refl, sym, ap, ◌∙◌, subst}
use Rattle.std.specs.List.{list_all}
use Rattle.vx_flow.specs.declared.graph.Operand.{Operand}
use Rattle.vx_flow.specs.declared.graph.Operand.TheVariants.{Held, Number, Stack}
use Rattle.vx_flow.specs.declared.graph.Op.{Op}
use Rattle.vx_flow.specs.declared.graph.Op.TheVariants.{Compute, Select}
use Rattle.vx_flow.specs.declared.graph.Exit.{Exit}
use Rattle.vx_flow.specs.declared.graph.Exit.TheVariants.{Goto, Split, Call, Return, Ends}
use Rattle.vx_flow.specs.declared.graph.Block.{Block}
use Rattle.vx_flow.specs.declared.graph.Graph.{Graph}
use Rattle.vx_flow.specs.declared.graph.Flow.{Flow}
use Rattle.vx_flow.specs.Effects.{is_unary}
use Rattle.vx_flow.specs.Operands.{first_operand, second_operand, with_two}
use Rattle.vx_flow.specs.Sound.{is_sound_flow}
use Rattle.vx_lower.specs.FlowOf.{GraphOf, FlowOf}
use Rattle.vx_shape.specs.Flows.{with_graphs, Each, OrSame, FlowStays}
use Rattle.vx_shape.specs.Shape.{Shaped}
use Rattle.vx_shape.specs.ShapeTest.{is_shaped}
use Rattle.vx_fold.specs.Folding.{no_number, settles, is_free, settles_exit, settles_block, settles_graph, folded, folded_op, folded_exit, folded_block, folded_graph, numbers_of, GraphFolds, FoldedStays}
use Rattle.vx_shape.proofs.ShapeTests.{shaped_where_tested}
use Rattle.vx_shape.proofs.Pairs.{each_related}
use Rattle.vx_shape.proofs.FlowsStay.{shape_kept, runs_stay}
use Rattle.vx_fold.proofs.FoldRuns.{folded_runs}

pub folded_stays : FoldedStays
folded_stays p flow graphs s sound o = runs_stay GraphFolds (λ g h t. t.shape) flow graphs s (λ input safe n. folded_runs flow graphs s input safe n) sound p o

-- ---- a graph as it is

abbrev none : ℕ → Option ℤ
none v = None

all_free : (vs : List ℕ) → list_all (λ v. no_number (none v)) vs ≡ true
all_free [] = refl
all_free (v ∷ vs) = all_free vs

op_settles : (op : Op) → settles none op ≡ true
op_settles (Compute code v a b) = refl
op_settles op = refl

result_free : (result : Option ℕ) → is_free none result ≡ true
result_free None = refl
result_free (Some v) = refl

exit_settles : (exit : Exit) → settles_exit none exit ≡ true
exit_settles (Goto c) = refl
exit_settles (Split p c d) = refl
exit_settles (Call f arguments result c) = result_free result
exit_settles (Return x) = refl
exit_settles (Ends k) = refl

ops_settle : (ops : List Op) → list_all (settles none) ops ≡ true
ops_settle [] = refl
ops_settle (op ∷ ops) = ap (λ b. b && list_all (settles none) ops) (op_settles op) ∙ ops_settle ops

block_settles : (block : Block) → settles_block none block ≡ true
block_settles block = ap (λ b. b && settles_exit none block.exit) (ops_settle block.ops) ∙ exit_settles block.exit

blocks_settle : (blocks : List Block) → list_all (settles_block none) blocks ≡ true
blocks_settle [] = refl
blocks_settle (block ∷ blocks) = ap (λ b. b && list_all (settles_block none) blocks) (block_settles block) ∙ blocks_settle blocks

same_operand : (x : Operand) → folded none x ≡ x
same_operand (Held v) = refl
same_operand (Number n) = refl
same_operand Stack = refl

same_right : (unary : Bool) (x : Operand) → cond unary x (folded none x) ≡ x
same_right true x = refl
same_right false x = same_operand x

same_op : (op : Op) → folded_op none op ≡ op
same_op (Compute code v a b) = ap (λ x. Compute code v x (cond (is_unary code) b (folded none b))) (same_operand a) ∙ ap (Compute code v a) (same_right (is_unary code) b)
same_op op = ap (λ x. with_two op x (folded none (second_operand op))) (same_operand (first_operand op)) ∙ ap (with_two op (first_operand op)) (same_operand (second_operand op))

same_operands : (xs : List Operand) → map (folded none) xs ≡ xs
same_operands [] = refl
same_operands (x ∷ xs) = ap (λ y. y ∷ map (folded none) xs) (same_operand x) ∙ ap (λ l. x ∷ l) (same_operands xs)

same_exit : (exit : Exit) → folded_exit none exit ≡ exit
same_exit (Goto c) = refl
same_exit (Split p c d) = refl
same_exit (Call f arguments result c) = ap (λ xs. Call f xs result c) (same_operands arguments)
same_exit (Return x) = ap Return (same_operand x)
same_exit (Ends k) = refl

same_ops : (ops : List Op) → map (folded_op none) ops ≡ ops
same_ops [] = refl
same_ops (op ∷ ops) = ap (λ x. x ∷ map (folded_op none) ops) (same_op op) ∙ ap (λ l. op ∷ l) (same_ops ops)

same_block : (block : Block) → folded_block none block ≡ block
same_block block = λ i. record { ops = same_ops block.ops i; exit = same_exit block.exit i }

same_blocks : (blocks : List Block) → map (folded_block none) blocks ≡ blocks
same_blocks [] = refl
same_blocks (block ∷ blocks) = ap (λ b. b ∷ map (folded_block none) blocks) (same_block block) ∙ ap (λ l. block ∷ l) (same_blocks blocks)

fold_itself : (g : Graph) → GraphFolds g g
fold_itself g = record {
  numbers = none;
  settled = ap (λ b. b && list_all (settles_block none) g.blocks) (all_free g.parameters) ∙ blocks_settle g.blocks;
  is = ap (λ bs. record g { blocks = bs }) (sym (same_blocks g.blocks));
  shape = λ p function o. o;
}

-- ---- a graph that passes the tests

pub tested_folds : (numbers : List (Option ℤ)) (g h : Graph) (origins : List ℕ) → h ≡ folded_graph (numbers_of numbers) g → settles_graph (numbers_of numbers) g ≡ true → is_shaped origins h.blocks ≡ true → GraphFolds g h
tested_folds numbers g h origins e t s =
    let shaped : Shaped (folded_graph (numbers_of numbers) g) = subst Shaped e (shaped_where_tested h origins s) in
    record { numbers = numbers_of numbers; settled = t; is = e; shape = λ p function o. subst (GraphOf p function) (sym e) (shape_kept p function (map (folded_block (numbers_of numbers)) g.blocks) g o shaped) }

-- ---- the graphs of a flow, each folded or as it is

pub once_folded : (flow new : Flow) (graphs : List Graph) → Each (OrSame GraphFolds) flow.functions graphs → new ≡ with_graphs flow graphs → is_sound_flow new ≡ true → FlowStays flow new
once_folded flow new graphs s e sound p o =
    let t : is_sound_flow (with_graphs flow graphs) ≡ true = subst (λ f. is_sound_flow f ≡ true) e sound in
    subst (FlowOf p) (sym e) (folded_stays p flow graphs (each_related GraphFolds flow.functions graphs fold_itself s) t o)

-- ---- one operation

folded_is : (numbers : ℕ → Option ℤ) (op : Op) → ((v p : ℕ) (a b : Operand) → op ≡ Select v p a b → ⊥) → with_two op (folded numbers (first_operand op)) (folded numbers (second_operand op)) ≡ folded_op numbers op
folded_is numbers (Select v p a b) n = absurd (n v p a b refl)
folded_is numbers op n = refl

pub folded_by : (numbers : ℕ → Option ℤ) (op new : Op) (x y : Operand) → new ≡ with_two op x y → x ≡ folded numbers (first_operand op) → y ≡ folded numbers (second_operand op) → ((v p : ℕ) (a b : Operand) → op ≡ Select v p a b → ⊥) → new ≡ folded_op numbers op
folded_by numbers op new x y e p q n = e ∙ ap (λ z. with_two op z y) p ∙ ap (with_two op (folded numbers (first_operand op))) q ∙ folded_is numbers op n
