use Rattle.std.proofs.Common.{refl}
use Rattle.vx_ast.specs.declared.token.Keyword.TheVariants as words
use Rattle.vx_parse.proofs.HandedOn.{handed_on}
use Rattle.vx_parse.proofs.Tokens.{passes_word}
use Rattle.vx_parse.proofs.Expressions.{map_ok, map_err}
use Rattle.vx_parse.proofs.Parts.{past_token, within_phrase, misfit_name}
use Rattle.vx_parse.proofs.Definitions.{int_before, int_is}
use Rattle.vx_parse.proofs.definition.read_int.Goals as goal

pub read_name-requires-clause-within : goal.read_name-requires-clause-within
read_name-requires-clause-within c =
    (passes_word c.args.tokens.now c.args.before.next words.Int c.requires.ended c.requires.within c.requires.here).within

pub returns-in_err-name-clause-stop : goal.returns-in_err-name-clause-stop
returns-in_err-name-clause-stop c =
    let p = passes_word c.args.tokens.now c.args.before.next words.Int c.requires.ended c.requires.within c.requires.here in
    let b = int_before c.args.tokens.now c.args.before.next p c.requires.within c.requires.here in
    handed_on _ _ _ c.from_residual.ensures.1 (misfit_name b c.in_err-name.field-0.0 c.in_err-name.ensures.stop)

pub returns-clause-ok : goal.returns-clause-ok
returns-clause-ok c =
    let p = passes_word c.args.tokens.now c.args.before.next words.Int c.requires.ended c.requires.within c.requires.here in
    map_ok c.read_after_name.result (λ r w. int_is c.args.tokens.now c.args.before _ r c.in_ok-name.name p c.requires.within c.requires.here c.in_ok-name.ensures.ok refl refl w) c.read_after_name.ensures.ok

pub returns-clause-stop : goal.returns-clause-stop
returns-clause-stop c =
    let p = passes_word c.args.tokens.now c.args.before.next words.Int c.requires.ended c.requires.within c.requires.here in
    let b = int_before c.args.tokens.now c.args.before.next p c.requires.within c.requires.here in
    let b1 = past_token b c.in_ok-name.ensures.ok.passed in
    map_err c.read_after_name.result (λ s w. within_phrase b1 s w) c.read_after_name.ensures.stop

pub read_after_name-requires-clause-ended : goal.read_after_name-requires-clause-ended
read_after_name-requires-clause-ended c = c.requires.ended
