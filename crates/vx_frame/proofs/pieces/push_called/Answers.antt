use Rattle.std.proofs.Common.{◌++◌, List, length, length-append, append_assoc, ap, ◌∙◌}
use Rattle.vx_isa.specs.declared.program.Word.{Word}
use Rattle.vx_target.specs.Target.{back_words, call_words}
use Rattle.vx_slots.specs.Seen.{seen}
use Rattle.vx_frame.proofs.pieces.push_called.Goals as goal

pub returns-clause-words : goal.returns-clause-words
returns-clause-words c =
    let T = seen c.args.whole.now in
    let old = c.args.words.now in
    let calls = call_words T c.args.function c.args.place c.args.called c.args.arguments.now in
    let back = back_words T c.args.function c.args.place c.args.taken in
    c.in_ok-push_back.ensures ∙ ap (λ (z : List Word). z ++ back) c.in_ok-push_call.ensures ∙ append_assoc old calls back

pub returns-clause-mark : goal.returns-clause-mark
returns-clause-mark c =
    let old = c.args.words.now in
    let calls = call_words (seen c.args.whole.now) c.args.function c.args.place c.args.called c.args.arguments.now in
    c.len-back.ensures.len ∙ ap (λ (z : List Word). length z) c.in_ok-push_call.ensures ∙ length-append old calls
