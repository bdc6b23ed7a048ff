use Rattle.std.proofs.Common.{refl}
use Rattle.vx_parse.proofs.HandedOn.{handed_on}
use Rattle.vx_parse.proofs.Parts.{past_token, past_phrase, within_phrase, misfit}
use Rattle.vx_parse.proofs.Definitions.{heading_start, function_is}
use Rattle.vx_parse.proofs.definition.read_function.Goals as goal

pub returns-in_err-inner-clause-stop : goal.returns-in_err-inner-clause-stop
returns-in_err-inner-clause-stop c =
    let b0 = heading_start c.args.tokens.now c.args.place c.requires.within in
    handed_on _ _ _ c.from_residual.ensures.1 (misfit b0 c.in_err-inner.field-0.0 c.in_err-inner.ensures.stop)

pub returns-in_err-parameters-clause-stop : goal.returns-in_err-parameters-clause-stop
returns-in_err-parameters-clause-stop c =
    let b0 = heading_start c.args.tokens.now c.args.place c.requires.within in
    let b1 = past_token b0 c.in_ok-inner.ensures.ok in
    handed_on _ _ _ c.from_residual-in_err-parameters.ensures.1 (within_phrase b1 c.in_err-parameters.field-0.0 c.in_err-parameters.ensures.stop)

pub returns-in_err-body_place-clause-stop : goal.returns-in_err-body_place-clause-stop
returns-in_err-body_place-clause-stop c =
    let b0 = heading_start c.args.tokens.now c.args.place c.requires.within in
    let b1 = past_token b0 c.in_ok-inner.ensures.ok in
    let b2 = past_phrase b1 c.in_ok-parameters.ensures.ok.parted in
    handed_on _ _ _ c.from_residual-in_err-body_place.ensures.1 (misfit b2 c.in_err-body_place.field-0.0 c.in_err-body_place.ensures.stop)

pub returns-in_err-body-clause-stop : goal.returns-in_err-body-clause-stop
returns-in_err-body-clause-stop c =
    let b0 = heading_start c.args.tokens.now c.args.place c.requires.within in
    let b1 = past_token b0 c.in_ok-inner.ensures.ok in
    let b2 = past_phrase b1 c.in_ok-parameters.ensures.ok.parted in
    let b3 = past_token b2 c.in_ok-body_place.ensures.ok in
    handed_on _ _ _ c.from_residual-in_err-body.ensures.1 (within_phrase b3 c.in_err-body.field-0.0 c.in_err-body.ensures.stop)

pub returns-clause-ok : goal.returns-clause-ok
returns-clause-ok c =
    function_is c.args.tokens.now c.args.place _ _ c.args.name c.args.gives c.in_ok-parameters.parameters c.in_ok-body.body.statements.items _ c.requires.within c.in_ok-inner.ensures.ok c.in_ok-parameters.ensures.ok c.in_ok-body_place.ensures.ok c.in_ok-body.ensures.ok refl

pub read_block-requires-clause-ended : goal.read_block-requires-clause-ended
read_block-requires-clause-ended c = c.requires.ended

pub read_block-requires-clause-within : goal.read_block-requires-clause-within
read_block-requires-clause-within c = c.in_ok-body_place.ensures.ok.within

pub read_mark-requires-2-clause-ended : goal.read_mark-requires-2-clause-ended
read_mark-requires-2-clause-ended c = c.requires.ended

pub read_mark-requires-2-clause-within : goal.read_mark-requires-2-clause-within
read_mark-requires-2-clause-within c = c.in_ok-parameters.ensures.ok.parted.within

pub read_mark-requires-clause-ended : goal.read_mark-requires-clause-ended
read_mark-requires-clause-ended c = c.requires.ended

pub read_mark-requires-clause-within : goal.read_mark-requires-clause-within
read_mark-requires-clause-within c = c.requires.within

pub read_parameters-requires-clause-ended : goal.read_parameters-requires-clause-ended
read_parameters-requires-clause-ended c = c.requires.ended

pub read_parameters-requires-clause-within : goal.read_parameters-requires-clause-within
read_parameters-requires-clause-within c = c.in_ok-inner.ensures.ok.within
