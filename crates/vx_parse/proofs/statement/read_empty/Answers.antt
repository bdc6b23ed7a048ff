use Rattle.std.proofs.Common.{◌<◌, refl, arith}
use Rattle.vx_ast.specs.declared.token.Mark.TheVariants as marks
use Rattle.vx_ast.specs.declared.syntax.Statement as statements
use Rattle.vx_parse.proofs.Tokens.{passes_mark}
use Rattle.vx_parse.proofs.Steps.{too_deep}
use Rattle.vx_parse.proofs.Statements.{statement_opens, empty_parts, empty_is}
use Rattle.vx_parse.proofs.statement.read_empty.Goals as goal

pub returns-then-depth-ge-DEEPEST-clause-stop : goal.returns-then-depth-ge-DEEPEST-clause-stop
returns-then-depth-ge-DEEPEST-clause-stop c =
    let o = statement_opens (passes_mark c.args.tokens.now c.args.place marks.Semicolon c.requires.ended c.requires.within c.requires.here) c.requires.within (empty_parts c.requires.here) in
    too_deep c.args.depth o (let x = c.if-depth-ge-DEEPEST.true in omega arith)

pub returns-clause-ok : goal.returns-clause-ok
returns-clause-ok c =
    let l : c.args.depth < 200 = let x = c.if-depth-ge-DEEPEST.false in omega arith in
    let o = statement_opens (passes_mark c.args.tokens.now c.args.place marks.Semicolon c.requires.ended c.requires.within c.requires.here) c.requires.within (empty_parts c.requires.here) in
    empty_is c.args.tokens.now c.args.place c.args.depth statements.Empty o l refl
