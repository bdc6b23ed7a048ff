use Rattle.std.proofs.Common.{[], ◌∷◌, refl, arith}
use Rattle.vx_ast.specs.declared.token.Keyword.TheVariants as words
use Rattle.vx_ast.specs.declared.token.Mark.TheVariants as marks
use Rattle.vx_ast.specs.declared.syntax.Statement as statements
use Rattle.vx_ast.specs.Phrases as phrases
use Rattle.vx_ast.specs.Phrases.{MoreItems, Items, A, mark}
use Rattle.vx_parse.proofs.HandedOn.{handed_on}
use Rattle.vx_parse.proofs.Tokens.{passes_word}
use Rattle.vx_parse.proofs.Parts.{past_row, within_row, misfit}
use Rattle.vx_parse.proofs.Blocks.{declaration_before, declaration_is}
use Rattle.vx_parse.proofs.statement.read_declaration.Goals as goal

pub read_items-requires-clause-within : goal.read_items-requires-clause-within
read_items-requires-clause-within c =
    (passes_word c.args.tokens.now c.args.place words.Int c.requires.ended c.requires.within c.requires.here).within

pub returns-in_err-items-clause-stop : goal.returns-in_err-items-clause-stop
returns-in_err-items-clause-stop c =
    let p = passes_word c.args.tokens.now c.args.place words.Int c.requires.ended c.requires.within c.requires.here in
    let b0 = declaration_before c.args.tokens.now c.args.place c.args.depth p c.requires.within c.requires.depth c.requires.here in
    handed_on _ _ _ c.from_residual.ensures.1 (within_row (A phrases.Item ∷ A MoreItems ∷ []) (mark marks.Semicolon ∷ A Items ∷ []) b0 c.in_err-items.field-0.0 c.in_err-items.ensures.stop)

pub returns-in_err-next-clause-stop : goal.returns-in_err-next-clause-stop
returns-in_err-next-clause-stop c =
    let p = passes_word c.args.tokens.now c.args.place words.Int c.requires.ended c.requires.within c.requires.here in
    let b0 = declaration_before c.args.tokens.now c.args.place c.args.depth p c.requires.within c.requires.depth c.requires.here in
    let b1 = past_row (A phrases.Item ∷ A MoreItems ∷ []) (mark marks.Semicolon ∷ A Items ∷ []) refl b0 c.in_ok-items.ensures.ok.parted in
    handed_on _ _ _ c.from_residual-in_err-next.ensures.1 (misfit b1 c.in_err-next.field-0.0 c.in_err-next.ensures.stop)

pub returns-clause-ok : goal.returns-clause-ok
returns-clause-ok c =
    let p = passes_word c.args.tokens.now c.args.place words.Int c.requires.ended c.requires.within c.requires.here in
    declaration_is c.args.tokens.now c.args.place c.args.depth _ c.in_ok-items.items (statements.Declaration c.in_ok-items.items.items) p c.requires.within c.requires.depth c.requires.here c.in_ok-items.ensures.ok c.in_ok-next.ensures.ok refl

pub returns-clause-further : goal.returns-clause-further
returns-clause-further c =
    let f = c.in_ok-items.ensures.ok.parted.further in
    let g = c.in_ok-next.ensures.ok.further in
    omega arith

pub read_items-requires-clause-depth : goal.read_items-requires-clause-depth
read_items-requires-clause-depth c = c.requires.depth

pub read_items-requires-clause-ended : goal.read_items-requires-clause-ended
read_items-requires-clause-ended c = c.requires.ended

pub read_mark-requires-clause-ended : goal.read_mark-requires-clause-ended
read_mark-requires-clause-ended c = c.requires.ended

pub read_mark-requires-clause-within : goal.read_mark-requires-clause-within
read_mark-requires-clause-within c = c.in_ok-items.ensures.ok.parted.within
