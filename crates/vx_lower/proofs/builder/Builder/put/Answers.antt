use Rattle.std.proofs.Common.{arith}
use Rattle.std.proofs.lemmas.Result.{on_ok_weaker}
use Rattle.vx_lower.specs.Adds.{near}
use Rattle.vx_lower.proofs.Building.{puts_near_is}
use Rattle.vx_lower.proofs.builder.Builder.put.Goals as goal

pub returns-clause-code : goal.returns-clause-code
returns-clause-code c = on_ok_weaker c.push.result (puts_near_is c.args.self.now c.push.new.self c.args.op (omega arith)) c.push.ensures

pub returns-clause-steps : goal.returns-clause-steps
returns-clause-steps c = on_ok_weaker c.push.result near c.push.ensures
