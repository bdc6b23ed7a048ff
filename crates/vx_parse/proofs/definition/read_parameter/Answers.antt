use Rattle.std.proofs.Common.{refl}
use Rattle.vx_parse.proofs.HandedOn.{handed_on}
use Rattle.vx_parse.proofs.Parts.{past_token, within_phrase, misfit, misfit_name}
use Rattle.vx_parse.proofs.Definitions.{parameter_before, parameter_is}
use Rattle.vx_parse.proofs.definition.read_parameter.Goals as goal

pub returns-in_err-name_place-clause-stop : goal.returns-in_err-name_place-clause-stop
returns-in_err-name_place-clause-stop c =
    let b = parameter_before c.args.tokens.now c.args.place c.requires.within in
    handed_on _ _ _ c.from_residual.ensures.1 (misfit b c.in_err-name_place.field-0.0 c.in_err-name_place.ensures.stop)

pub returns-in_err-name-clause-stop : goal.returns-in_err-name-clause-stop
returns-in_err-name-clause-stop c =
    let b = parameter_before c.args.tokens.now c.args.place c.requires.within in
    let b1 = past_token b c.in_ok-name_place.ensures.ok in
    handed_on _ _ _ c.from_residual-in_err-name.ensures.1 (misfit_name b1 c.in_err-name.field-0.0 c.in_err-name.ensures.stop)

pub returns-in_err-behind-clause-stop : goal.returns-in_err-behind-clause-stop
returns-in_err-behind-clause-stop c =
    let b = parameter_before c.args.tokens.now c.args.place c.requires.within in
    let b1 = past_token b c.in_ok-name_place.ensures.ok in
    let b2 = past_token b1 c.in_ok-name.ensures.ok.passed in
    handed_on _ _ _ c.from_residual-in_err-behind.ensures.1 (within_phrase b2 c.in_err-behind.field-0.0 c.in_err-behind.ensures.stop)

pub returns-clause-ok : goal.returns-clause-ok
returns-clause-ok c =
    parameter_is c.args.tokens.now c.args.place _ _ c.in_ok-name.name (record { name = c.in_ok-name.name.name; takes = c.in_ok-behind.behind.takes }) c.requires.within c.in_ok-name_place.ensures.ok c.in_ok-name.ensures.ok c.in_ok-behind.ensures.ok refl

pub read_name-requires-clause-ended : goal.read_name-requires-clause-ended
read_name-requires-clause-ended c = c.requires.ended

pub read_name-requires-clause-within : goal.read_name-requires-clause-within
read_name-requires-clause-within c = c.in_ok-name_place.ensures.ok.within

pub read_brackets-requires-clause-ended : goal.read_brackets-requires-clause-ended
read_brackets-requires-clause-ended c = c.requires.ended

pub read_brackets-requires-clause-within : goal.read_brackets-requires-clause-within
read_brackets-requires-clause-within c = c.in_ok-name.ensures.ok.passed.within

pub read_word-requires-clause-within : goal.read_word-requires-clause-within
read_word-requires-clause-within c = c.requires.within
