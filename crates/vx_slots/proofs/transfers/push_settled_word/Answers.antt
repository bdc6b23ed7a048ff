use Rattle.std.proofs.lemmas.Result.{IfOk-equal}
use Rattle.vx_slots.specs.Seen.{seen}
use Rattle.vx_slots.proofs.Settling.{begins_within, settles}
use Rattle.vx_slots.proofs.transfers.push_settled_word.Goals as goal

pub push_wait-requires : goal.push_wait-requires
push_wait-requires c = begins_within c.len-begin.result c.args.words.now c.push.new.self _ c.len-begin.ensures.len c.in_ok-push.ensures.ok

pub returns : goal.returns
returns c = IfOk-equal _ _ _ _ c.push_wait.ensures (settles (seen c.args.whole.now) c.len-begin.result c.args.words.now c.push.new.self _ c.len-begin.ensures.len c.in_ok-push.ensures.ok)
