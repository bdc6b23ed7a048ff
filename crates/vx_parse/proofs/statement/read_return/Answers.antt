use Rattle.std.proofs.Common.{◌<◌, [], ◌∷◌, refl, ap, ◌∙◌, arith}
use Rattle.std.specs.Prelude.{option_map}
use Rattle.vx_ast.specs.declared.token.Keyword.TheVariants as words
use Rattle.vx_ast.specs.declared.token.Mark.TheVariants as marks
use Rattle.vx_ast.specs.SyntaxView as view
use Rattle.vx_ast.specs.Derivations.{returned}
use Rattle.vx_ast.specs.Phrases.{OptionalExpression, A, mark}
use Rattle.vx_parse.proofs.HandedOn.{handed_on}
use Rattle.vx_parse.proofs.Tokens.{passes_word}
use Rattle.vx_parse.proofs.Steps.{too_deep}
use Rattle.vx_parse.proofs.Parts.{past_phrase, within_phrase, misfit}
use Rattle.vx_parse.proofs.Statements.{statement_before, word_opens, return_word, return_is}
use Rattle.vx_parse.proofs.statement.read_return.Goals as goal

pub returns-then-depth-ge-DEEPEST-clause-stop : goal.returns-then-depth-ge-DEEPEST-clause-stop
returns-then-depth-ge-DEEPEST-clause-stop c =
    let o = word_opens words.Return (A OptionalExpression ∷ mark marks.Semicolon ∷ []) c.args.tokens.now c.args.place return_word c.requires.ended c.requires.within c.requires.here in
    too_deep c.args.depth o (let x = c.if-depth-ge-DEEPEST.true in omega arith)

pub read_optional-requires-clause-within : goal.read_optional-requires-clause-within
read_optional-requires-clause-within c =
    (passes_word c.args.tokens.now c.args.place words.Return c.requires.ended c.requires.within c.requires.here).within

pub returns-in_err-value-clause-stop : goal.returns-in_err-value-clause-stop
returns-in_err-value-clause-stop c =
    let l : c.args.depth < 200 = let x = c.if-depth-ge-DEEPEST.false in omega arith in
    let o = word_opens words.Return (A OptionalExpression ∷ mark marks.Semicolon ∷ []) c.args.tokens.now c.args.place return_word c.requires.ended c.requires.within c.requires.here in
    let b0 = statement_before c.args.depth o refl l in
    handed_on _ _ _ c.from_residual.ensures.1 (within_phrase b0 c.in_err-value.field-0.0 c.in_err-value.ensures.stop)

pub returns-in_err-next-clause-stop : goal.returns-in_err-next-clause-stop
returns-in_err-next-clause-stop c =
    let l : c.args.depth < 200 = let x = c.if-depth-ge-DEEPEST.false in omega arith in
    let o = word_opens words.Return (A OptionalExpression ∷ mark marks.Semicolon ∷ []) c.args.tokens.now c.args.place return_word c.requires.ended c.requires.within c.requires.here in
    let b0 = statement_before c.args.depth o refl l in
    let b1 = past_phrase b0 c.in_ok-value.ensures.ok.parted in
    handed_on _ _ _ c.from_residual-in_err-next.ensures.1 (misfit b1 c.in_err-next.field-0.0 c.in_err-next.ensures.stop)

pub returns-clause-ok : goal.returns-clause-ok
returns-clause-ok c =
    let l : c.args.depth < 200 = let x = c.if-depth-ge-DEEPEST.false in omega arith in
    let o = word_opens words.Return (A OptionalExpression ∷ mark marks.Semicolon ∷ []) c.args.tokens.now c.args.place return_word c.requires.ended c.requires.within c.requires.here in
    return_is c.args.tokens.now c.args.place c.args.depth _ _ c.place_at.result c.in_ok-value.value.expression.value c.returned.result o l c.in_ok-value.ensures.ok c.in_ok-next.ensures.ok c.place_at.ensures (c.returned.ensures ∙ ap (λ z. returned c.place_at.result (option_map view.phrase_of z)) c.into_inner.ensures)

pub read_mark-requires-clause-ended : goal.read_mark-requires-clause-ended
read_mark-requires-clause-ended c = c.requires.ended

pub read_mark-requires-clause-within : goal.read_mark-requires-clause-within
read_mark-requires-clause-within c = c.in_ok-value.ensures.ok.parted.within

pub read_optional-requires-clause-ended : goal.read_optional-requires-clause-ended
read_optional-requires-clause-ended c = c.requires.ended

pub place_at-requires : goal.place_at-requires
place_at-requires c = c.requires.within
