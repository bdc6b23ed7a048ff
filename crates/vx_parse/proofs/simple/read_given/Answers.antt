use Rattle.std.proofs.Common.{◌≡◌, drop, refl, sym, ◌∙◌}
use Rattle.vx_ast.specs.declared.token.Mark.TheVariants as marks
use Rattle.vx_ast.specs.declared.token.TokenKind.TheVariants as kinds
use Rattle.vx_ast.specs.declared.syntax.Item.TheVariants as items
use Rattle.vx_parse.specs.Reading.{next_kind}
use Rattle.vx_parse.proofs.HandedOn.{handed_on}
use Rattle.vx_parse.proofs.Tokens.{passes_mark}
use Rattle.vx_parse.proofs.Parts.{past_token, within_phrase, misfit, misfit_number}
use Rattle.vx_parse.proofs.Simples.{no_value_parts, equal_before, bracket_before, valued_is, sized_is, scalar_is}
use Rattle.vx_parse.proofs.simple.read_given.Goals as goal

pub read_expression-requires-clause-within : goal.read_expression-requires-clause-within
read_expression-requires-clause-within c =
    let e : next_kind (drop c.args.place c.args.tokens.now) ≡ kinds.Mark marks.Equal = sym c.kind_at-kind.ensures ∙ c.is_mark.ensures.yes c.if-is_mark.true in
    (passes_mark c.args.tokens.now c.args.place marks.Equal c.requires.ended c.requires.within e).within

pub returns-in_err-value-clause-stop : goal.returns-in_err-value-clause-stop
returns-in_err-value-clause-stop c =
    let e : next_kind (drop c.args.place c.args.tokens.now) ≡ kinds.Mark marks.Equal = sym c.kind_at-kind.ensures ∙ c.is_mark.ensures.yes c.if-is_mark.true in
    let p = passes_mark c.args.tokens.now c.args.place marks.Equal c.requires.ended c.requires.within e in
    let b = equal_before c.args.tokens.now c.args.place c.args.depth p c.requires.within c.requires.depth e in
    handed_on _ _ _ c.from_residual.ensures.1 (within_phrase b c.in_err-value.field-0.0 c.in_err-value.ensures.stop)

pub returns-then-is_mark-clause-ok : goal.returns-then-is_mark-clause-ok
returns-then-is_mark-clause-ok c =
    let e : next_kind (drop c.args.place c.args.tokens.now) ≡ kinds.Mark marks.Equal = sym c.kind_at-kind.ensures ∙ c.is_mark.ensures.yes c.if-is_mark.true in
    let p = passes_mark c.args.tokens.now c.args.place marks.Equal c.requires.ended c.requires.within e in
    λ name. valued_is c.args.tokens.now c.args.place c.args.depth name c.in_ok-value.value (items.ScalarWith name c.in_ok-value.value.expression) p c.requires.within c.requires.depth e c.in_ok-value.ensures.ok refl

pub read_size-requires-clause-within : goal.read_size-requires-clause-within
read_size-requires-clause-within c =
    let e : next_kind (drop c.args.place c.args.tokens.now) ≡ kinds.Mark marks.OpenBracket = sym c.kind_at-kind.ensures ∙ c.is_mark-2.ensures.yes c.if-is_mark-2.true in
    (passes_mark c.args.tokens.now c.args.place marks.OpenBracket c.requires.ended c.requires.within e).within

pub returns-in_err-size-clause-stop : goal.returns-in_err-size-clause-stop
returns-in_err-size-clause-stop c =
    let e : next_kind (drop c.args.place c.args.tokens.now) ≡ kinds.Mark marks.OpenBracket = sym c.kind_at-kind.ensures ∙ c.is_mark-2.ensures.yes c.if-is_mark-2.true in
    let p = passes_mark c.args.tokens.now c.args.place marks.OpenBracket c.requires.ended c.requires.within e in
    let b = bracket_before c.args.tokens.now c.args.place c.args.depth p c.requires.within c.requires.depth e in
    handed_on _ _ _ c.from_residual-in_err-size.ensures.1 (misfit_number b c.in_err-size.field-0.0 c.in_err-size.ensures.stop)

pub returns-in_err-next-clause-stop : goal.returns-in_err-next-clause-stop
returns-in_err-next-clause-stop c =
    let e : next_kind (drop c.args.place c.args.tokens.now) ≡ kinds.Mark marks.OpenBracket = sym c.kind_at-kind.ensures ∙ c.is_mark-2.ensures.yes c.if-is_mark-2.true in
    let p = passes_mark c.args.tokens.now c.args.place marks.OpenBracket c.requires.ended c.requires.within e in
    let b = past_token (bracket_before c.args.tokens.now c.args.place c.args.depth p c.requires.within c.requires.depth e) c.in_ok-size.ensures.ok.passed in
    handed_on _ _ _ c.from_residual-in_err-next.ensures.1 (misfit b c.in_err-next.field-0.0 c.in_err-next.ensures.stop)

pub returns-then-is_mark-2-clause-ok : goal.returns-then-is_mark-2-clause-ok
returns-then-is_mark-2-clause-ok c =
    let e : next_kind (drop c.args.place c.args.tokens.now) ≡ kinds.Mark marks.OpenBracket = sym c.kind_at-kind.ensures ∙ c.is_mark-2.ensures.yes c.if-is_mark-2.true in
    let p = passes_mark c.args.tokens.now c.args.place marks.OpenBracket c.requires.ended c.requires.within e in
    λ name. sized_is c.args.tokens.now c.args.place c.args.depth _ name c.in_ok-size.size (items.Array name c.in_ok-size.size.size) p c.requires.within c.requires.depth e c.in_ok-size.ensures.ok c.in_ok-next.ensures.ok refl

pub returns-clause-ok : goal.returns-clause-ok
returns-clause-ok c =
    let n1 : next_kind (drop c.args.place c.args.tokens.now) ≡ kinds.Mark marks.Equal → ⊥ = λ e. c.is_mark.ensures.no c.if-is_mark.false (c.kind_at-kind.ensures ∙ e) in
    let n2 : next_kind (drop c.args.place c.args.tokens.now) ≡ kinds.Mark marks.OpenBracket → ⊥ = λ e. c.is_mark-2.ensures.no c.if-is_mark-2.false (c.kind_at-kind.ensures ∙ e) in
    λ name. scalar_is c.args.tokens.now c.args.place c.args.depth name (items.Scalar name) c.requires.within c.requires.depth (no_value_parts (next_kind (drop c.args.place c.args.tokens.now)) n1 n2) refl

pub read_expression-requires-clause-depth : goal.read_expression-requires-clause-depth
read_expression-requires-clause-depth c = c.requires.depth

pub read_expression-requires-clause-ended : goal.read_expression-requires-clause-ended
read_expression-requires-clause-ended c = c.requires.ended

pub read_mark-requires-clause-ended : goal.read_mark-requires-clause-ended
read_mark-requires-clause-ended c = c.requires.ended

pub read_mark-requires-clause-within : goal.read_mark-requires-clause-within
read_mark-requires-clause-within c = c.in_ok-size.ensures.ok.passed.within

pub read_size-requires-clause-ended : goal.read_size-requires-clause-ended
read_size-requires-clause-ended c = c.requires.ended
