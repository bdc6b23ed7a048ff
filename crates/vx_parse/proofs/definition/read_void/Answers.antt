use Rattle.std.proofs.Common.{[], ◌∷◌, refl}
use Rattle.vx_ast.specs.declared.token.Keyword.TheVariants as words
use Rattle.vx_ast.specs.declared.syntax.Definition.TheVariants as definitions
use Rattle.vx_ast.specs.Phrases as phrases
use Rattle.vx_ast.specs.Phrases.{A}
use Rattle.vx_parse.specs.Definitions.{Heading}
use Rattle.vx_parse.proofs.HandedOn.{handed_on}
use Rattle.vx_parse.proofs.Tokens.{passes_word}
use Rattle.vx_parse.proofs.Parts.{past_token, within_row, misfit_name}
use Rattle.vx_parse.proofs.Definitions.{void_before, void_is}
use Rattle.vx_parse.proofs.definition.read_void.Goals as goal

pub read_name-requires-clause-within : goal.read_name-requires-clause-within
read_name-requires-clause-within c =
    (passes_word c.args.tokens.now c.args.before.next words.Void c.requires.ended c.requires.within c.requires.here).within

pub returns-in_err-name-clause-stop : goal.returns-in_err-name-clause-stop
returns-in_err-name-clause-stop c =
    let p = passes_word c.args.tokens.now c.args.before.next words.Void c.requires.ended c.requires.within c.requires.here in
    let b = void_before c.args.tokens.now c.args.before.next p c.requires.within c.requires.here in
    handed_on _ _ _ c.from_residual.ensures.1 (misfit_name b c.in_err-name.field-0.0 c.in_err-name.ensures.stop)

pub returns-in_err-function-clause-stop : goal.returns-in_err-function-clause-stop
returns-in_err-function-clause-stop c =
    let p = passes_word c.args.tokens.now c.args.before.next words.Void c.requires.ended c.requires.within c.requires.here in
    let b = void_before c.args.tokens.now c.args.before.next p c.requires.within c.requires.here in
    let b1 = past_token b c.in_ok-name.ensures.ok.passed in
    handed_on _ _ _ c.from_residual-in_err-function.ensures.1 (within_row Heading (A phrases.Program ∷ []) b1 c.in_err-function.field-0.0 c.in_err-function.ensures.stop)

pub returns-clause-ok : goal.returns-clause-ok
returns-clause-ok c =
    let p = passes_word c.args.tokens.now c.args.before.next words.Void c.requires.ended c.requires.within c.requires.here in
    void_is c.args.tokens.now c.args.before _ c.in_ok-name.name c.in_ok-function.function (definitions.Function c.in_ok-function.function.function) p c.requires.within c.requires.here c.in_ok-name.ensures.ok c.in_ok-function.ensures.ok c.in_ok-append.ensures.ok refl refl

pub read_function-requires-clause-ended : goal.read_function-requires-clause-ended
read_function-requires-clause-ended c = c.requires.ended

pub read_function-requires-clause-within : goal.read_function-requires-clause-within
read_function-requires-clause-within c = c.in_ok-name.ensures.ok.passed.within

pub read_name-requires-clause-ended : goal.read_name-requires-clause-ended
read_name-requires-clause-ended c = c.requires.ended
