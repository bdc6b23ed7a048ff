use Rattle.std.proofs.Common.{◌<◌, [], ◌∷◌, refl, arith}
use Rattle.vx_ast.specs.declared.token.Keyword.TheVariants as words
use Rattle.vx_ast.specs.declared.token.Mark.TheVariants as marks
use Rattle.vx_ast.specs.declared.syntax.Statement as statements
use Rattle.vx_ast.specs.Phrases.{mark}
use Rattle.vx_parse.proofs.HandedOn.{handed_on}
use Rattle.vx_parse.proofs.Tokens.{passes_word}
use Rattle.vx_parse.proofs.Steps.{too_deep}
use Rattle.vx_parse.proofs.Parts.{misfit}
use Rattle.vx_parse.proofs.Statements.{statement_before, word_opens, continue_word, left_is}
use Rattle.vx_parse.proofs.statement.read_continue.Goals as goal

pub returns-then-depth-ge-DEEPEST-clause-stop : goal.returns-then-depth-ge-DEEPEST-clause-stop
returns-then-depth-ge-DEEPEST-clause-stop c =
    let o = word_opens words.Continue (mark marks.Semicolon ∷ []) c.args.tokens.now c.args.place continue_word c.requires.ended c.requires.within c.requires.here in
    too_deep c.args.depth o (let x = c.if-depth-ge-DEEPEST.true in omega arith)

pub read_mark-requires-clause-within : goal.read_mark-requires-clause-within
read_mark-requires-clause-within c =
    (passes_word c.args.tokens.now c.args.place words.Continue c.requires.ended c.requires.within c.requires.here).within

pub returns-in_err-next-clause-stop : goal.returns-in_err-next-clause-stop
returns-in_err-next-clause-stop c =
    let l : c.args.depth < 200 = let x = c.if-depth-ge-DEEPEST.false in omega arith in
    let o = word_opens words.Continue (mark marks.Semicolon ∷ []) c.args.tokens.now c.args.place continue_word c.requires.ended c.requires.within c.requires.here in
    let b0 = statement_before c.args.depth o refl l in
    handed_on _ _ _ c.from_residual.ensures.1 (misfit b0 c.in_err-next.field-0.0 c.in_err-next.ensures.stop)

pub returns-clause-ok : goal.returns-clause-ok
returns-clause-ok c =
    let l : c.args.depth < 200 = let x = c.if-depth-ge-DEEPEST.false in omega arith in
    let o = word_opens words.Continue (mark marks.Semicolon ∷ []) c.args.tokens.now c.args.place continue_word c.requires.ended c.requires.within c.requires.here in
    left_is words.Continue c.args.tokens.now c.args.place c.args.depth _ c.place_at.result (statements.Continue c.place_at.result) o l c.in_ok-next.ensures.ok c.place_at.ensures refl

pub read_mark-requires-clause-ended : goal.read_mark-requires-clause-ended
read_mark-requires-clause-ended c = c.requires.ended

pub place_at-requires : goal.place_at-requires
place_at-requires c = c.requires.within
