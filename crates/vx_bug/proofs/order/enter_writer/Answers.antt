use Rattle.vx_bug.proofs.Tasks.{entered_few}
use Rattle.vx_bug.proofs.order.enter_writer.Goals as goal

pub returns-in_ok-push-in-Some-writer-clause-few : goal.returns-in_ok-push-in-Some-writer-clause-few
returns-in_ok-push-in-Some-writer-clause-few c = entered_few c.args.depth c.in-Some-writer.place c.args.tasks.now.items c.push.new.self.items c.in_ok-push-in-Some-writer.ensures.items
