use Rattle.std.proofs.Common.{refl}
use Rattle.vx_parse.proofs.HandedOn.{handed_on}
use Rattle.vx_parse.proofs.Parts.{past_phrase, within_phrase, misfit}
use Rattle.vx_parse.proofs.Definitions.{globals_before, globals_are}
use Rattle.vx_parse.proofs.definition.read_globals.Goals as goal

pub returns-in_err-first-clause-stop : goal.returns-in_err-first-clause-stop
returns-in_err-first-clause-stop c =
    let b = globals_before c.args.tokens.now c.args.before.next c.requires.within c.requires.here in
    handed_on _ _ _ c.from_residual.ensures.1 (within_phrase b c.in_err-first.field-0.0 c.in_err-first.ensures.stop)

pub returns-in_err-more-clause-stop : goal.returns-in_err-more-clause-stop
returns-in_err-more-clause-stop c =
    let b = globals_before c.args.tokens.now c.args.before.next c.requires.within c.requires.here in
    let b1 = past_phrase b c.in_ok-first.ensures.ok.parted in
    handed_on _ _ _ c.from_residual-in_err-more.ensures.1 (within_phrase b1 c.in_err-more.field-0.0 c.in_err-more.ensures.stop)

pub returns-in_err-next-clause-stop : goal.returns-in_err-next-clause-stop
returns-in_err-next-clause-stop c =
    let b = globals_before c.args.tokens.now c.args.before.next c.requires.within c.requires.here in
    let b1 = past_phrase b c.in_ok-first.ensures.ok.parted in
    let b2 = past_phrase b1 c.in_ok-more.ensures.ok.phrase.parted in
    handed_on _ _ _ c.from_residual-in_err-next.ensures.1 (misfit b2 c.in_err-next.field-0.0 c.in_err-next.ensures.stop)

pub returns-clause-ok : goal.returns-clause-ok
returns-clause-ok c =
    globals_are c.args.tokens.now c.args.name c.args.before _ c.in_ok-more.more _ _ _ c.in_ok-first.first.definition c.requires.within c.requires.here c.in_ok-first.ensures.ok c.in_ok-append.ensures.ok refl c.in_ok-more.ensures.ok c.in_ok-next.ensures.ok refl refl

pub read_global-requires-clause-ended : goal.read_global-requires-clause-ended
read_global-requires-clause-ended c = c.requires.ended

pub read_mark-requires-clause-ended : goal.read_mark-requires-clause-ended
read_mark-requires-clause-ended c = c.requires.ended

pub read_more_globals-requires-clause-ended : goal.read_more_globals-requires-clause-ended
read_more_globals-requires-clause-ended c = c.requires.ended

pub read_mark-requires-clause-within : goal.read_mark-requires-clause-within
read_mark-requires-clause-within c = c.in_ok-more.ensures.ok.phrase.parted.within
