use Rattle.std.proofs.Common.{[], ◌∷◌, ap}
use Rattle.vx_ast.specs.declared.token.Keyword.TheVariants as words
use Rattle.vx_ast.specs.SyntaxView as view
use Rattle.vx_ast.specs.Phrases as phrases
use Rattle.vx_ast.specs.Phrases.{MoreItems, A}
use Rattle.vx_parse.proofs.HandedOn.{handed_on}
use Rattle.vx_parse.proofs.Tokens.{passes_word}
use Rattle.vx_parse.proofs.Parts.{within_row}
use Rattle.vx_parse.proofs.Statements.{int_before, first_items_are}
use Rattle.vx_parse.proofs.statement.read_first_items.Goals as goal

pub read_items-requires-clause-within : goal.read_items-requires-clause-within
read_items-requires-clause-within c =
    (passes_word c.args.tokens.now c.args.place words.Int c.requires.ended c.requires.within c.requires.here).within

pub returns-in_err-items-clause-stop : goal.returns-in_err-items-clause-stop
returns-in_err-items-clause-stop c =
    let p = passes_word c.args.tokens.now c.args.place words.Int c.requires.ended c.requires.within c.requires.here in
    let b = int_before c.args.tokens.now c.args.place c.args.depth p c.requires.within c.requires.depth c.requires.here in
    handed_on _ _ _ c.from_residual.ensures.1 (within_row (A phrases.Item ∷ A MoreItems ∷ []) [] b c.in_err-items.field-0.0 c.in_err-items.ensures.stop)

pub returns-clause-ok : goal.returns-clause-ok
returns-clause-ok c =
    let p = passes_word c.args.tokens.now c.args.place words.Int c.requires.ended c.requires.within c.requires.here in
    first_items_are c.args.tokens.now c.args.place c.args.depth c.in_ok-items.items c.in_ok-boxed.field-0.value p c.requires.within c.requires.depth c.requires.here c.in_ok-items.ensures.ok (ap view.first_of c.in_ok-boxed.ensures.ok)

pub read_items-requires-clause-depth : goal.read_items-requires-clause-depth
read_items-requires-clause-depth c = c.requires.depth

pub read_items-requires-clause-ended : goal.read_items-requires-clause-ended
read_items-requires-clause-ended c = c.requires.ended
