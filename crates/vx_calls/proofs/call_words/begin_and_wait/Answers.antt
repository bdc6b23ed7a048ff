use Rattle.std.proofs.Common.{◌++◌, Some}
use Rattle.std.proofs.lemmas.Result.{IfOk-equal}
use Rattle.vx_target.specs.Target.{link_words, load_slots, wanted}
use Rattle.vx_slots.specs.Seen.{seen}
use Rattle.vx_slots.proofs.Settling.{begins_within}
use Rattle.vx_calls.proofs.CallSteps.{waits_behind}
use Rattle.vx_calls.proofs.call_words.begin_and_wait.Goals as goal

pub push_wanted-requires : goal.push_wanted-requires
push_wanted-requires c = begins_within c.len-begin.result c.args.words.now c.begin_function.new.words _ c.len-begin.ensures.len c.in_ok-begin_function.ensures

pub returns : goal.returns
returns c =
    let T = seen c.args.whole.now in
    let f = c.args.function in
    let values = c.args.values.now in
    IfOk-equal _ _ _ _ c.push_wanted.ensures (waits_behind (wanted T f (Some 0) c.args.to values) c.len-begin.result c.args.words.now c.begin_function.new.words (load_slots T f values values ++ link_words T f) c.len-begin.ensures.len c.in_ok-begin_function.ensures)
