use Rattle.std.proofs.Common.{◌≡◌, drop, sym, ◌∙◌, subst}
use Rattle.vx_ast.specs.declared.token.Mark.TheVariants as marks
use Rattle.vx_ast.specs.declared.token.TokenKind.TheVariants as kinds
use Rattle.vx_ast.specs.Phrases.{OptionalSimple}
use Rattle.vx_parse.specs.Reading.{next_kind, IsPhrase}
use Rattle.vx_parse.specs.Statements.{MeansStep}
use Rattle.vx_parse.proofs.HandedOn.{handed_on}
use Rattle.vx_parse.proofs.Parts.{within_phrase}
use Rattle.vx_parse.proofs.Statements.{no_step, some_step_before, some_step}
use Rattle.vx_parse.proofs.statement.read_step.Goals as goal

pub returns-then-is_mark-clause-ok : goal.returns-then-is_mark-clause-ok
returns-then-is_mark-clause-ok c =
    subst (λ z. IsPhrase OptionalSimple c.args.tokens.now c.args.place c.args.place c.args.place c.args.depth (MeansStep z)) (sym c.in_ok-boxed.ensures.ok) (no_step c.args.tokens.now c.args.place c.args.depth c.requires.within c.requires.depth (sym c.kind_at.ensures ∙ c.is_mark.ensures.yes c.if-is_mark.true))

pub returns-in_err-simple-clause-stop : goal.returns-in_err-simple-clause-stop
returns-in_err-simple-clause-stop c =
    let n1 : next_kind (drop c.args.place c.args.tokens.now) ≡ kinds.Mark marks.CloseParenthesis → ⊥ = λ e. c.is_mark.ensures.no c.if-is_mark.false (c.kind_at.ensures ∙ e) in
    let b = some_step_before c.args.tokens.now c.args.place c.args.depth c.requires.within c.requires.depth n1 in
    handed_on _ _ _ c.from_residual-in_err-simple.ensures.1 (within_phrase b c.in_err-simple.field-0.0 c.in_err-simple.ensures.stop)

pub returns-clause-ok : goal.returns-clause-ok
returns-clause-ok c =
    let n1 : next_kind (drop c.args.place c.args.tokens.now) ≡ kinds.Mark marks.CloseParenthesis → ⊥ = λ e. c.is_mark.ensures.no c.if-is_mark.false (c.kind_at.ensures ∙ e) in
    subst (λ z. IsPhrase OptionalSimple c.args.tokens.now c.args.place c.args.place c.in_ok-simple.simple.next c.args.depth (MeansStep z)) (sym c.in_ok-boxed-2.ensures.ok) (some_step c.args.tokens.now c.args.place c.args.depth _ c.in_ok-simple.simple.simple c.requires.within c.requires.depth n1 c.in_ok-simple.ensures.ok)

pub read_simple-requires-clause-depth : goal.read_simple-requires-clause-depth
read_simple-requires-clause-depth c = c.requires.depth

pub read_simple-requires-clause-ended : goal.read_simple-requires-clause-ended
read_simple-requires-clause-ended c = c.requires.ended

pub read_simple-requires-clause-within : goal.read_simple-requires-clause-within
read_simple-requires-clause-within c = c.requires.within
