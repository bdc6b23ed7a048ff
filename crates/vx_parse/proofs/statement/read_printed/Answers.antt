use Rattle.std.proofs.Common.{refl}
use Rattle.vx_parse.specs.declared.statement.PrintRead.{PrintRead}
use Rattle.vx_parse.proofs.HandedOn.{handed_on}
use Rattle.vx_parse.proofs.Parts.{past_token, past_phrase, within_phrase, misfit, misfit_text}
use Rattle.vx_parse.proofs.Statements.{name_passed, print_before, more_parted, printed_is}
use Rattle.vx_parse.proofs.statement.read_printed.Goals as goal

pub read_mark-requires-clause-within : goal.read_mark-requires-clause-within
read_mark-requires-clause-within c =
    (name_passed c.args.tokens.now c.args.place c.requires.ended c.requires.within c.requires.name).within

pub returns-in_err-format_place-clause-stop : goal.returns-in_err-format_place-clause-stop
returns-in_err-format_place-clause-stop c =
    let p = name_passed c.args.tokens.now c.args.place c.requires.ended c.requires.within c.requires.name in
    let b0 = print_before c.args.tokens.now c.args.place c.args.depth p c.requires.within c.requires.depth in
    handed_on _ _ _ c.from_residual.ensures.1 (misfit b0 c.in_err-format_place.field-0.0 c.in_err-format_place.ensures.stop)

pub returns-in_err-format-clause-stop : goal.returns-in_err-format-clause-stop
returns-in_err-format-clause-stop c =
    let p = name_passed c.args.tokens.now c.args.place c.requires.ended c.requires.within c.requires.name in
    let b0 = print_before c.args.tokens.now c.args.place c.args.depth p c.requires.within c.requires.depth in
    let b1 = past_token b0 c.in_ok-format_place.ensures.ok in
    handed_on _ _ _ c.from_residual-in_err-format.ensures.1 (misfit_text b1 c.in_err-format.field-0.0 c.in_err-format.ensures.stop)

pub returns-in_err-more-clause-stop : goal.returns-in_err-more-clause-stop
returns-in_err-more-clause-stop c =
    let p = name_passed c.args.tokens.now c.args.place c.requires.ended c.requires.within c.requires.name in
    let b0 = print_before c.args.tokens.now c.args.place c.args.depth p c.requires.within c.requires.depth in
    let b1 = past_token b0 c.in_ok-format_place.ensures.ok in
    let b2 = past_token b1 c.in_ok-format.ensures.ok.passed in
    handed_on _ _ _ c.from_residual-in_err-more.ensures.1 (within_phrase b2 c.in_err-more.field-0.0 c.in_err-more.ensures.stop)

pub returns-in_err-next-clause-stop : goal.returns-in_err-next-clause-stop
returns-in_err-next-clause-stop c =
    let p = name_passed c.args.tokens.now c.args.place c.requires.ended c.requires.within c.requires.name in
    let b0 = print_before c.args.tokens.now c.args.place c.args.depth p c.requires.within c.requires.depth in
    let b1 = past_token b0 c.in_ok-format_place.ensures.ok in
    let b2 = past_token b1 c.in_ok-format.ensures.ok.passed in
    let b3 = past_phrase b2 (more_parted c.in_ok-more.ensures.ok) in
    handed_on _ _ _ c.from_residual-in_err-next.ensures.1 (misfit b3 c.in_err-next.field-0.0 c.in_err-next.ensures.stop)

pub returns-clause-ok : goal.returns-clause-ok
returns-clause-ok c =
    let p = name_passed c.args.tokens.now c.args.place c.requires.ended c.requires.within c.requires.name in
    let r : PrintRead = record { place = c.place_at.result; format_place = c.place_at-2.result; format = c.in_ok-format.format.bytes; arguments = c.in_ok-more.more.arguments; next = 0 } in
    printed_is c.args.tokens.now c.args.place c.args.depth _ _ c.in_ok-format.format _ c.in_ok-more.more r p c.requires.within c.requires.depth c.in_ok-format_place.ensures.ok c.in_ok-format.ensures.ok refl c.new.ensures.items c.in_ok-more.ensures.ok c.in_ok-next.ensures.ok c.place_at.ensures c.place_at-2.ensures refl refl

pub read_mark-requires-2-clause-ended : goal.read_mark-requires-2-clause-ended
read_mark-requires-2-clause-ended c = c.requires.ended

pub read_mark-requires-2-clause-within : goal.read_mark-requires-2-clause-within
read_mark-requires-2-clause-within c = c.in_ok-more.ensures.ok.within

pub read_more-requires-clause-ended : goal.read_more-requires-clause-ended
read_more-requires-clause-ended c = c.requires.ended

pub read_text-requires-clause-ended : goal.read_text-requires-clause-ended
read_text-requires-clause-ended c = c.requires.ended

pub read_text-requires-clause-within : goal.read_text-requires-clause-within
read_text-requires-clause-within c = c.in_ok-format_place.ensures.ok.within

pub place_at-requires : goal.place_at-requires
place_at-requires c = c.requires.within

pub place_at-requires-2 : goal.place_at-requires-2
place_at-requires-2 c = c.in_ok-format_place.ensures.ok.within
