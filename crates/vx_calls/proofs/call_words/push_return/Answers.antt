use Rattle.std.proofs.lemmas.Result.{IfOk-equal}
use Rattle.vx_target.specs.Target.{fetch_words, leave_words}
use Rattle.vx_slots.specs.Seen.{seen}
use Rattle.vx_slots.proofs.Settling.{onto}
use Rattle.vx_calls.proofs.call_words.push_return.Goals as goal

pub returns : goal.returns
returns c =
    let T = seen c.args.whole.now in
    let old = c.args.words.now in
    let brought = fetch_words T c.args.function 0 c.args.operand in
    IfOk-equal _ _ _ _ c.push_leave.ensures
    (onto old c.fetch.new.words brought (leave_words T c.args.function c.args.operand) c.in_ok-fetch.ensures)
