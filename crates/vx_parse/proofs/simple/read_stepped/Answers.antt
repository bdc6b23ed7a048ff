use Rattle.vx_parse.proofs.HandedOn.{handed_on}
use Rattle.vx_parse.proofs.Parts.{within_phrase}
use Rattle.vx_parse.proofs.Simples.{step_passed, step_before, stepped_is}
use Rattle.vx_parse.proofs.simple.read_stepped.Goals as goal

pub read_level-requires-clause-within : goal.read_level-requires-clause-within
read_level-requires-clause-within c = (step_passed c.args.tokens.now c.args.place c.requires.ended c.requires.within c.requires.step).within

pub returns-in_err-operand-clause-stop : goal.returns-in_err-operand-clause-stop
returns-in_err-operand-clause-stop c =
    let p = step_passed c.args.tokens.now c.args.place c.requires.ended c.requires.within c.requires.step in
    let b = step_before c.args.tokens.now c.args.place c.args.depth p c.requires.within c.requires.depth c.requires.step in
    handed_on _ _ _ c.from_residual.ensures.1 (within_phrase b c.in_err-operand.field-0.0 c.in_err-operand.ensures.stop)

pub returns-clause-ok : goal.returns-clause-ok
returns-clause-ok c =
    let p = step_passed c.args.tokens.now c.args.place c.requires.ended c.requires.within c.requires.step in
    stepped_is c.args.tokens.now c.args.place c.args.depth c.in_ok-operand.operand _ _ _ p c.requires.within c.requires.depth c.requires.step c.in_ok-operand.ensures.ok c.kind_at.ensures c.place_at.ensures c.step.ensures
