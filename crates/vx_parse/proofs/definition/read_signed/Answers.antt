use Rattle.std.proofs.Common.{◌≡◌, drop, ◌∙◌}
use Rattle.vx_ast.specs.declared.token.Mark.TheVariants as marks
use Rattle.vx_ast.specs.declared.token.TokenKind.TheVariants as kinds
use Rattle.vx_parse.specs.Reading.{next_kind}
use Rattle.vx_parse.proofs.HandedOn.{handed_on}
use Rattle.vx_parse.proofs.Parts.{misfit_number}
use Rattle.vx_parse.proofs.Definitions.{number_before, number_is}
use Rattle.vx_parse.proofs.definition.read_signed.Goals as goal

pub returns-in_err-number-clause-stop : goal.returns-in_err-number-clause-stop
returns-in_err-number-clause-stop c =
    let n : next_kind (drop c.args.place c.args.tokens.now) ≡ kinds.Mark marks.Minus → ⊥ = λ e. c.is_mark.ensures.no c.if-is_mark.false (c.kind_at.ensures ∙ e) in
    let b = number_before c.args.tokens.now c.args.place c.requires.within n in
    handed_on _ _ _ c.from_residual.ensures.1 (misfit_number b c.in_err-number.field-0.0 c.in_err-number.ensures.stop)

pub returns-clause-ok : goal.returns-clause-ok
returns-clause-ok c =
    let n : next_kind (drop c.args.place c.args.tokens.now) ≡ kinds.Mark marks.Minus → ⊥ = λ e. c.is_mark.ensures.no c.if-is_mark.false (c.kind_at.ensures ∙ e) in
    number_is c.args.tokens.now c.args.place c.in_ok-number.number c.requires.within n c.in_ok-number.ensures.ok

pub read_negative-requires-clause-within : goal.read_negative-requires-clause-within
read_negative-requires-clause-within c = c.requires.within

pub read_number-requires-clause-within : goal.read_number-requires-clause-within
read_number-requires-clause-within c = c.requires.within
