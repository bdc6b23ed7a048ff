use Rattle.std.proofs.Common.{◌≡◌, ◌∙◌, ◌+◌, ◌<◌, Bool, true, false, List, ap, drop, get_or, length, ne_eqb, sym, ℕ}
use Rattle.std.specs.Prelude.{◌&&◌, ◌||◌, slice_get}
use Rattle.std.proofs.lemmas.List.{drop_more}
use Rattle.vx_flow.specs.declared.graph.Block.{Block}
use Rattle.vx_clean.specs.Laying.{ops_at}
use Rattle.vx_clean.specs.LinkTest.{is_near}
use Rattle.vx_shape.specs.ShapeTest.{is_none_left}
use Rattle.vx_clean.proofs.link_test.is_near.Goals as goal

-- another block of the chain
passed : (blocks : List Block) (block : ℕ) (chain : List ℕ) (whole e x : Bool) (i d : ℕ) → i < length chain → whole ≡ is_near blocks block (drop i chain) → (get_or chain i d ≡ block → ⊥)
    → e ≡ is_none_left (ops_at (slice_get blocks (get_or chain i d))) → e ≡ x → whole ≡ (x && is_near blocks block (drop (i + 1) chain))
passed blocks block chain whole e x i d lt so other is same =
    let rest = is_near blocks block (drop (i + 1) chain) in
    so ∙ ap (is_near blocks block) (drop_more chain i d lt) ∙ ap (λ z. z || (is_none_left (ops_at (slice_get blocks (get_or chain i d))) && rest)) (ne_eqb _ _ other) ∙ ap (λ z. z && rest) (sym is ∙ same)

pub loop-other-preserved : goal.loop-other-preserved
loop-other-preserved c = passed c.args.blocks.now c.args.block c.args.chain.now _ c.is_empty.result true c.loop-other.other-index _ c.loop-other-test.true c.loop-other.invariant c.if-other-block.false c.is_empty.ensures c.if-not-is_empty.false

pub returns-then-not-is_empty : goal.returns-then-not-is_empty
returns-then-not-is_empty c = sym (passed c.args.blocks.now c.args.block c.args.chain.now _ c.is_empty.result false c.loop-other.other-index _ c.loop-other-test.true c.loop-other.invariant c.if-other-block.false c.is_empty.ensures c.if-not-is_empty.true)
