use Rattle.std.proofs.Common.{◌∙◌, ◌++◌, ◌∷◌, [], ap, map, sym, take, take_all}
use Rattle.std.proofs.lemmas.List.{map_more}
use Rattle.vx_fold.specs.Folding.{folded_op, numbers_of}
use Rattle.vx_fold.proofs.fold.folded_ops.Goals as goal

pub loop-op-preserved : goal.loop-op-preserved
loop-op-preserved c =
    let fold = folded_op (numbers_of c.args.numbers.now) in
    let ops = c.args.ops.now in
    let i = c.loop-op.op-index in
    c.in_ok-push.ensures.ok ∙ ap (λ os. os ++ c.folded_op.result ∷ []) c.loop-op.invariant
    ∙ ap (λ o. map fold (take i ops) ++ o ∷ []) c.folded_op.ensures ∙ sym (map_more fold ops i _ c.loop-op-test.true)

pub returns : goal.returns
returns c = c.loop-op.invariant ∙ ap (map (folded_op (numbers_of c.args.numbers.now))) (take_all c.loop-op.op-index c.args.ops.now c.loop-op-test.false)
