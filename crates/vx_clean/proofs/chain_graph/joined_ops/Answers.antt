use Rattle.std.proofs.Common.{◌≡◌, ◌∙◌, ◌++◌, ◌+◌, ◌<◌, List, ap, append_assoc, drop, get_or, length, sym, ℕ}
use Rattle.std.specs.Prelude.{slice_get}
use Rattle.std.proofs.lemmas.List.{drop_more}
use Rattle.vx_flow.specs.declared.graph.Block.{Block}
use Rattle.vx_flow.specs.declared.graph.Op.{Op}
use Rattle.vx_clean.specs.Laying.{ops_at, ops_of}
use Rattle.vx_clean.proofs.chain_graph.joined_ops.Goals as goal

-- the operations of one block more
turn : (blocks : List Block) (chain : List ℕ) (whole ops new more : List Op) (i d : ℕ) → i < length chain → ops ++ ops_of blocks (drop i chain) ≡ whole → new ≡ ops ++ more → more ≡ ops_at (slice_get blocks (get_or chain i d)) → new ++ ops_of blocks (drop (i + 1) chain) ≡ whole
turn blocks chain whole ops new more i d lt so put is =
    let here = ops_at (slice_get blocks (get_or chain i d)) in
    let rest = ops_of blocks (drop (i + 1) chain) in
    ap (λ z. z ++ rest) (put ∙ ap (λ z. ops ++ z) is) ∙ append_assoc ops here rest ∙ ap (λ bs. ops ++ ops_of blocks bs) (sym (drop_more chain i d lt)) ∙ so

pub loop-block-preserved : goal.loop-block-preserved
loop-block-preserved c = turn c.args.blocks.now c.args.chain.now _ c.loop-block.ops c.append.new.ops c.ops_at.result.now c.loop-block.block-index _ c.loop-block-test.true c.loop-block.invariant c.in_ok-append.ensures c.ops_at.ensures
