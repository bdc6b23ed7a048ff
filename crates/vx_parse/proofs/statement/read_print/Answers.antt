use Rattle.std.proofs.Common.{◌<◌, refl, arith}
use Rattle.vx_ast.specs.declared.syntax.Statement as statements
use Rattle.vx_parse.proofs.HandedOn.{handed_on}
use Rattle.vx_parse.proofs.Parts.{past_phrase, within_phrase, misfit}
use Rattle.vx_parse.proofs.Begun.{print_statement, print_too_deep}
use Rattle.vx_parse.proofs.Statements.{print_is}
use Rattle.vx_parse.proofs.statement.read_print.Goals as goal

pub returns-then-depth-ge-DEEPEST-clause-stop : goal.returns-then-depth-ge-DEEPEST-clause-stop
returns-then-depth-ge-DEEPEST-clause-stop c =
    print_too_deep c.args.tokens.now c.args.place c.args.depth c.requires.within (let x = c.if-depth-ge-DEEPEST.true in omega arith) c.requires.name c.requires.here

pub returns-in_err-print-clause-stop : goal.returns-in_err-print-clause-stop
returns-in_err-print-clause-stop c =
    let l : c.args.depth < 200 = let x = c.if-depth-ge-DEEPEST.false in omega arith in
    let b0 = print_statement c.args.tokens.now c.args.place c.args.depth c.requires.within l c.requires.here in
    handed_on _ _ _ c.from_residual.ensures.1 (within_phrase b0 c.in_err-print.field-0.0 c.in_err-print.ensures.stop)

pub returns-in_err-next-clause-stop : goal.returns-in_err-next-clause-stop
returns-in_err-next-clause-stop c =
    let l : c.args.depth < 200 = let x = c.if-depth-ge-DEEPEST.false in omega arith in
    let b0 = print_statement c.args.tokens.now c.args.place c.args.depth c.requires.within l c.requires.here in
    let b1 = past_phrase b0 c.in_ok-print.ensures.ok.parted in
    handed_on _ _ _ c.from_residual-in_err-next.ensures.1 (misfit b1 c.in_err-next.field-0.0 c.in_err-next.ensures.stop)

pub returns-clause-ok : goal.returns-clause-ok
returns-clause-ok c =
    let l : c.args.depth < 200 = let x = c.if-depth-ge-DEEPEST.false in omega arith in
    print_is c.args.tokens.now c.args.place c.args.depth _ _ c.in_ok-print.print (statements.Print c.in_ok-print.print.place c.in_ok-print.print.format_place c.in_ok-print.print.format c.in_ok-print.print.arguments) c.requires.within l c.requires.here c.in_ok-print.ensures.ok c.in_ok-next.ensures.ok refl

pub read_mark-requires-clause-ended : goal.read_mark-requires-clause-ended
read_mark-requires-clause-ended c = c.requires.ended

pub read_mark-requires-clause-within : goal.read_mark-requires-clause-within
read_mark-requires-clause-within c = c.in_ok-print.ensures.ok.parted.within

pub read_printed-requires-clause-ended : goal.read_printed-requires-clause-ended
read_printed-requires-clause-ended c = c.requires.ended

pub read_printed-requires-clause-within : goal.read_printed-requires-clause-within
read_printed-requires-clause-within c = c.requires.within
