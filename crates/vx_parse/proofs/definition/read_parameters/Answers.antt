use Rattle.std.proofs.Common.{◌≡◌, ◌++◌, [], ◌∷◌, drop, refl, sym, ap, ◌∙◌}
use Rattle.vx_ast.specs.declared.token.Keyword.TheVariants as words
use Rattle.vx_ast.specs.declared.token.Mark.TheVariants as marks
use Rattle.vx_ast.specs.declared.token.TokenKind.TheVariants as kinds
use Rattle.vx_parse.specs.Reading.{next_kind}
use Rattle.vx_parse.proofs.HandedOn.{handed_on}
use Rattle.vx_parse.proofs.Tokens.{passes_word}
use Rattle.vx_parse.proofs.Expressions.{map_ok, map_err}
use Rattle.vx_parse.proofs.Parts.{past_phrase, within_phrase}
use Rattle.vx_parse.proofs.Definitions.{no_parameters, void_parameters, some_before, some_parameters}
use Rattle.vx_parse.proofs.definition.read_parameters.Goals as goal

pub returns-then-is_mark-clause-ok : goal.returns-then-is_mark-clause-ok
returns-then-is_mark-clause-ok c =
    no_parameters c.args.tokens.now c.args.place _ c.requires.within (sym c.kind_at-kind.ensures ∙ c.is_mark.ensures.yes c.if-is_mark.true) c.new-parameters.ensures

pub returns-then-is_word-clause-ok : goal.returns-then-is_word-clause-ok
returns-then-is_word-clause-ok c =
    let e : next_kind (drop c.args.place c.args.tokens.now) ≡ kinds.Keyword words.Void = sym c.kind_at-kind.ensures ∙ c.is_word.ensures.yes c.if-is_word.true in
    void_parameters c.args.tokens.now c.args.place _ (passes_word c.args.tokens.now c.args.place words.Void c.requires.ended c.requires.within e) c.requires.within e c.new-parameters.ensures

pub returns-in_err-first-clause-stop : goal.returns-in_err-first-clause-stop
returns-in_err-first-clause-stop c =
    let n1 : next_kind (drop c.args.place c.args.tokens.now) ≡ kinds.Mark marks.CloseParenthesis → ⊥ = λ e. c.is_mark.ensures.no c.if-is_mark.false (c.kind_at-kind.ensures ∙ e) in
    let n2 : next_kind (drop c.args.place c.args.tokens.now) ≡ kinds.Keyword words.Void → ⊥ = λ e. c.is_word.ensures.no c.if-is_word.false (c.kind_at-kind.ensures ∙ e) in
    let b = some_before c.args.tokens.now c.args.place c.requires.within n1 n2 in
    handed_on _ _ _ c.from_residual.ensures.1 (within_phrase b c.in_err-first.field-0.0 c.in_err-first.ensures.stop)

pub returns-clause-ok : goal.returns-clause-ok
returns-clause-ok c =
    let n1 : next_kind (drop c.args.place c.args.tokens.now) ≡ kinds.Mark marks.CloseParenthesis → ⊥ = λ e. c.is_mark.ensures.no c.if-is_mark.false (c.kind_at-kind.ensures ∙ e) in
    let n2 : next_kind (drop c.args.place c.args.tokens.now) ≡ kinds.Keyword words.Void → ⊥ = λ e. c.is_word.ensures.no c.if-is_word.false (c.kind_at-kind.ensures ∙ e) in
    let items : c.push.new.self ≡ c.in_ok-first.first.parameter ∷ [] = c.in_ok-push.ensures.ok ∙ ap (λ l. l ++ (c.in_ok-first.first.parameter ∷ [])) c.new-parameters.ensures in
    map_ok c.read_more_parameters.result (λ r w. some_parameters c.args.tokens.now c.args.place c.in_ok-first.first _ r c.requires.within n1 n2 c.in_ok-first.ensures.ok items refl w) c.read_more_parameters.ensures.ok

pub returns-clause-stop : goal.returns-clause-stop
returns-clause-stop c =
    let n1 : next_kind (drop c.args.place c.args.tokens.now) ≡ kinds.Mark marks.CloseParenthesis → ⊥ = λ e. c.is_mark.ensures.no c.if-is_mark.false (c.kind_at-kind.ensures ∙ e) in
    let n2 : next_kind (drop c.args.place c.args.tokens.now) ≡ kinds.Keyword words.Void → ⊥ = λ e. c.is_word.ensures.no c.if-is_word.false (c.kind_at-kind.ensures ∙ e) in
    let b = some_before c.args.tokens.now c.args.place c.requires.within n1 n2 in
    let b1 = past_phrase b c.in_ok-first.ensures.ok.parted in
    map_err c.read_more_parameters.result (λ s w. within_phrase b1 s w) c.read_more_parameters.ensures.stop

pub read_more_parameters-requires-clause-ended : goal.read_more_parameters-requires-clause-ended
read_more_parameters-requires-clause-ended c = c.requires.ended

pub read_parameter-requires-clause-ended : goal.read_parameter-requires-clause-ended
read_parameter-requires-clause-ended c = c.requires.ended

pub read_parameter-requires-clause-within : goal.read_parameter-requires-clause-within
read_parameter-requires-clause-within c = c.requires.within

pub read_more_parameters-requires-clause-within : goal.read_more_parameters-requires-clause-within
read_more_parameters-requires-clause-within c = c.in_ok-first.ensures.ok.parted.within
