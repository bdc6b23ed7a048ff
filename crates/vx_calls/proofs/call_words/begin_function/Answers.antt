use Rattle.std.proofs.lemmas.Result.{IfOk-equal}
use Rattle.vx_target.specs.Target.{link_words, load_slots}
use Rattle.vx_slots.specs.Seen.{seen}
use Rattle.vx_slots.proofs.Settling.{onto}
use Rattle.vx_calls.proofs.call_words.begin_function.Goals as goal

pub returns : goal.returns
returns c =
    let T = seen c.args.whole.now in
    let f = c.args.function in
    let values = c.args.values.now in
    IfOk-equal _ _ _ _ c.keep_link.ensures (onto c.args.words.now c.load_slots.new.words (load_slots T f values values) (link_words T f) c.in_ok-load_slots.ensures)
