use Rattle.std.proofs.Common.{◌≡◌, ◌+◌, ◌∷◌, ◌++◌, [], ℕ, suc, List, take, sym, ap, ◌∙◌, subst, arith}
use Rattle.vx_flow.specs.declared.graph.Block.{Block}
use Rattle.vx_flow.specs.declared.graph.Op.{Op}
use Rattle.vx_raise.specs.declared.known.Move.{Move}
use Rattle.vx_raise.specs.Lifting.{lifted_block, lifted_blocks}
use Rattle.vx_raise.proofs.LiftLoops.{blocks_more}
use Rattle.vx_raise.proofs.lifted_graph.lifted_blocks.Goals as goal

pub loop-index-preserved : goal.loop-index-preserved
loop-index-preserved c =
    let i : ℕ = c.loop-index.index in
    let m : Move = c.args.one in
    let op : Op = c.args.op.now in
    let bs : List Block = c.args.blocks.now in
    let x : Block = c.index-blocks-index.result in
    let a : suc i ≡ i + 1 = omega arith in
    let z : 0 + i ≡ i = omega arith in
    let more = blocks_more m op 0 bs i x c.loop-index-test.true c.index-blocks-index.is in
    let n : lifted_blocks m op 0 (take (i + 1) bs) ≡ lifted_blocks m op 0 (take i bs) ++ lifted_block m op i x ∷ [] =
    subst (λ j. lifted_blocks m op 0 (take j bs) ≡ lifted_blocks m op 0 (take i bs) ++ lifted_block m op i x ∷ []) a (more ∙ ap (λ j. lifted_blocks m op 0 (take i bs) ++ lifted_block m op j x ∷ []) z) in
    c.in_ok-push.ensures.ok ∙ (ap (λ l. l ++ c.in_ok-lifted.lifted ∷ []) c.loop-index.invariant ∙ (ap (λ r. lifted_blocks m op 0 (take i bs) ++ r ∷ []) c.in_ok-lifted.ensures ∙ sym n))
