use Rattle.std.proofs.Common.{◌∙◌, ◌++◌, ◌∷◌, [], ap, map, sym, take, take_all}
use Rattle.std.proofs.lemmas.List.{map_more}
use Rattle.vx_fold.specs.Folding.{folded, numbers_of}
use Rattle.vx_fold.proofs.fold.folded_operands.Goals as goal

pub loop-operand-preserved : goal.loop-operand-preserved
loop-operand-preserved c =
    let fold = folded (numbers_of c.args.numbers.now) in
    let operands = c.args.operands.now in
    let i = c.loop-operand.operand-index in
    c.in_ok-push.ensures.ok ∙ ap (λ xs. xs ++ c.folded.result ∷ []) c.loop-operand.invariant
    ∙ ap (λ x. map fold (take i operands) ++ x ∷ []) c.folded.ensures ∙ sym (map_more fold operands i _ c.loop-operand-test.true)

pub returns : goal.returns
returns c = c.loop-operand.invariant ∙ ap (map (folded (numbers_of c.args.numbers.now))) (take_all c.loop-operand.operand-index c.args.operands.now c.loop-operand-test.false)
