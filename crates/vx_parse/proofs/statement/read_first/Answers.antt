use Rattle.std.proofs.Common.{◌≡◌, drop, sym, ap, ◌∙◌}
use Rattle.vx_ast.specs.declared.token.Keyword.TheVariants as words
use Rattle.vx_ast.specs.declared.token.Mark.TheVariants as marks
use Rattle.vx_ast.specs.declared.token.TokenKind.TheVariants as kinds
use Rattle.vx_ast.specs.SyntaxView as view
use Rattle.vx_parse.specs.Reading.{next_kind}
use Rattle.vx_parse.proofs.HandedOn.{handed_on}
use Rattle.vx_parse.proofs.Parts.{within_phrase}
use Rattle.vx_parse.proofs.Statements.{first_nothing, first_before, first_is_simple}
use Rattle.vx_parse.proofs.statement.read_first.Goals as goal

pub returns-then-is_mark-clause-ok : goal.returns-then-is_mark-clause-ok
returns-then-is_mark-clause-ok c =
    first_nothing c.args.tokens.now c.args.place c.args.depth c.in_ok-boxed.field-0.value c.requires.within c.requires.depth (sym c.kind_at-kind.ensures ∙ c.is_mark.ensures.yes c.if-is_mark.true) (ap view.first_of c.in_ok-boxed.ensures.ok)

pub read_first_items-requires-clause-here : goal.read_first_items-requires-clause-here
read_first_items-requires-clause-here c =
    sym c.kind_at-kind.ensures ∙ c.is_word.ensures.yes c.if-is_word.true

pub returns-in_err-simple-clause-stop : goal.returns-in_err-simple-clause-stop
returns-in_err-simple-clause-stop c =
    let n1 : next_kind (drop c.args.place c.args.tokens.now) ≡ kinds.Mark marks.Semicolon → ⊥ = λ e. c.is_mark.ensures.no c.if-is_mark.false (c.kind_at-kind.ensures ∙ e) in
    let n2 : next_kind (drop c.args.place c.args.tokens.now) ≡ kinds.Keyword words.Int → ⊥ = λ e. c.is_word.ensures.no c.if-is_word.false (c.kind_at-kind.ensures ∙ e) in
    let b = first_before c.args.tokens.now c.args.place c.args.depth c.requires.within c.requires.depth n1 n2 in
    handed_on _ _ _ c.from_residual-in_err-simple.ensures.1 (within_phrase b c.in_err-simple.field-0.0 c.in_err-simple.ensures.stop)

pub returns-clause-ok : goal.returns-clause-ok
returns-clause-ok c =
    let n1 : next_kind (drop c.args.place c.args.tokens.now) ≡ kinds.Mark marks.Semicolon → ⊥ = λ e. c.is_mark.ensures.no c.if-is_mark.false (c.kind_at-kind.ensures ∙ e) in
    let n2 : next_kind (drop c.args.place c.args.tokens.now) ≡ kinds.Keyword words.Int → ⊥ = λ e. c.is_word.ensures.no c.if-is_word.false (c.kind_at-kind.ensures ∙ e) in
    first_is_simple c.args.tokens.now c.args.place c.args.depth _ c.in_ok-simple.simple.simple c.in_ok-boxed-2.field-0.value c.requires.within c.requires.depth n1 n2 c.in_ok-simple.ensures.ok (ap view.first_of c.in_ok-boxed-2.ensures.ok)

pub read_first_items-requires-clause-depth : goal.read_first_items-requires-clause-depth
read_first_items-requires-clause-depth c = c.requires.depth

pub read_first_items-requires-clause-ended : goal.read_first_items-requires-clause-ended
read_first_items-requires-clause-ended c = c.requires.ended

pub read_first_items-requires-clause-within : goal.read_first_items-requires-clause-within
read_first_items-requires-clause-within c = c.requires.within

pub read_simple-requires-clause-depth : goal.read_simple-requires-clause-depth
read_simple-requires-clause-depth c = c.requires.depth

pub read_simple-requires-clause-ended : goal.read_simple-requires-clause-ended
read_simple-requires-clause-ended c = c.requires.ended

pub read_simple-requires-clause-within : goal.read_simple-requires-clause-within
read_simple-requires-clause-within c = c.requires.within
