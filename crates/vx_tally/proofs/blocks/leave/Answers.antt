use Rattle.std.proofs.Common.{◌∙◌, ap, map, sym}
use Rattle.vx_flow.specs.Effects.{held}
use Rattle.vx_flow.specs.Meaning.{Arrives, by_test, calls, known, leave}
use Rattle.vx_tally.specs.Storage.{state_of}
use Rattle.vx_tally.proofs.blocks.leave.Goals as goal

pub returns-in-Some : goal.returns-in-Some
returns-in-Some c =
    let s = state_of c.args.storage.now in
    let b = c.args.number in
    ap (λ e. leave b e s) c.in-Call.is
    ∙ ap (λ o. calls c.in-Call.function o c.in-Call.result b c.in-Call.next s) (ap (λ xs. known (map (held s) xs)) (sym c.as_slice.ensures) ∙ c.in_ok-arguments-in-Call.ensures ∙ c.in-Some.is)

pub returns-in-None : goal.returns-in-None
returns-in-None c =
    let s = state_of c.args.storage.now in
    let b = c.args.number in
    ap (λ e. leave b e s) c.in-Call.is
    ∙ ap (λ o. calls c.in-Call.function o c.in-Call.result b c.in-Call.next s) (ap (λ xs. known (map (held s) xs)) (sym c.as_slice.ensures) ∙ c.in_ok-arguments-in-Call.ensures ∙ c.in-None.is)

pub returns-in-Split : goal.returns-in-Split
returns-in-Split c =
    let s = state_of c.args.storage.now in
    let b = c.args.number in
    ap (λ e. leave b e s) c.in-Split.is ∙ ap (λ x. by_test x (Arrives b c.in-Split.yes s) (Arrives b c.in-Split.no s)) (sym c.value.ensures) ∙ c.split.ensures

pub returns-in-Goto : goal.returns-in-Goto
returns-in-Goto c = ap (λ e. leave c.args.number e (state_of c.args.storage.now)) c.in-Goto.is

pub returns-in-Ends : goal.returns-in-Ends
returns-in-Ends c = ap (λ e. leave c.args.number e (state_of c.args.storage.now)) c.in-Ends.is
