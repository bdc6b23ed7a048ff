-- What the operation that was read adds.
use Rattle.vx_reader.proofs.Taken.{gives_as, operation_on}
use Rattle.vx_reader.proofs.steps.take_operation.Goals as goal

pub returns : goal.returns
returns c = gives_as _ c.add_operation.result _ _ (operation_on c.args.marks.now c.args.total c.args.before.now c.args.cluster c.args.text.now c.in_ok-operation.operation c.in_ok-operation.ensures) c.add_operation.ensures
