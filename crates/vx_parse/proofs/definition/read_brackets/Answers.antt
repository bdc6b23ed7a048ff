use Rattle.std.proofs.Common.{◌≡◌, drop, sym, ◌∙◌}
use Rattle.vx_ast.specs.declared.token.Mark.TheVariants as marks
use Rattle.vx_ast.specs.declared.token.TokenKind.TheVariants as kinds
use Rattle.vx_parse.specs.Reading.{next_kind}
use Rattle.vx_parse.proofs.HandedOn.{handed_on}
use Rattle.vx_parse.proofs.Tokens.{passes_mark}
use Rattle.vx_parse.proofs.Parts.{misfit}
use Rattle.vx_parse.proofs.Definitions.{brackets_before, array_taken, number_taken}
use Rattle.vx_parse.proofs.definition.read_brackets.Goals as goal

pub returns-then-not-is_mark-clause-ok : goal.returns-then-not-is_mark-clause-ok
returns-then-not-is_mark-clause-ok c =
    number_taken c.args.tokens.now c.args.place c.requires.within (λ e. c.is_mark.ensures.no c.if-not-is_mark.true (c.kind_at.ensures ∙ e))

pub returns-in_err-next-clause-stop : goal.returns-in_err-next-clause-stop
returns-in_err-next-clause-stop c =
    let e : next_kind (drop c.args.place c.args.tokens.now) ≡ kinds.Mark marks.OpenBracket = sym c.kind_at.ensures ∙ c.is_mark.ensures.yes c.if-not-is_mark.false in
    let p = passes_mark c.args.tokens.now c.args.place marks.OpenBracket c.requires.ended c.requires.within e in
    let b = brackets_before c.args.tokens.now c.args.place p c.requires.within e in
    handed_on _ _ _ c.from_residual.ensures.1 (misfit b c.in_err-next.field-0.0 c.in_err-next.ensures.stop)

pub returns-clause-ok : goal.returns-clause-ok
returns-clause-ok c =
    let e : next_kind (drop c.args.place c.args.tokens.now) ≡ kinds.Mark marks.OpenBracket = sym c.kind_at.ensures ∙ c.is_mark.ensures.yes c.if-not-is_mark.false in
    let p = passes_mark c.args.tokens.now c.args.place marks.OpenBracket c.requires.ended c.requires.within e in
    array_taken c.args.tokens.now c.args.place _ p c.requires.within e c.in_ok-next.ensures.ok

pub read_mark-requires-clause-ended : goal.read_mark-requires-clause-ended
read_mark-requires-clause-ended c = c.requires.ended

pub read_mark-requires-clause-within : goal.read_mark-requires-clause-within
read_mark-requires-clause-within c =
    let e : next_kind (drop c.args.place c.args.tokens.now) ≡ kinds.Mark marks.OpenBracket = sym c.kind_at.ensures ∙ c.is_mark.ensures.yes c.if-not-is_mark.false in
    (passes_mark c.args.tokens.now c.args.place marks.OpenBracket c.requires.ended c.requires.within e).within
