use Rattle.std.proofs.lemmas.Result.{on_ok_weaker}
use Rattle.vx_lower.proofs.Building.{puts_far_is, added_far}
use Rattle.vx_lower.proofs.builder.Builder.put_in_next.Goals as goal

pub returns-clause-code : goal.returns-clause-code
returns-clause-code c = on_ok_weaker c.push.result (puts_far_is c.args.self.now c.reserve.new.self c.close.new.self c.push.new.self c.args.op c.in_ok-next.next c.in_ok-next.ensures c.close.ensures) c.push.ensures

pub returns-clause-steps : goal.returns-clause-steps
returns-clause-steps c = on_ok_weaker c.push.result (added_far c.args.self.now c.reserve.new.self c.close.new.self c.push.new.self c.args.op c.in_ok-next.next c.in_ok-next.ensures c.close.ensures) c.push.ensures
