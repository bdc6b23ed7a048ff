use Rattle.std.proofs.Common.{◌++◌}
use Rattle.vx_flow.specs.Operands.{value_list}
use Rattle.vx_loops.proofs.Notings.{op_noted}
use Rattle.vx_loops.proofs.notes.Loops.mark_op.Goals as goal

pub returns-clause-notes : goal.returns-clause-notes
returns-clause-notes c = λ m w s called h.
    op_noted m w s called c.store_some.new.self c.args.op c.written_by.result c.stored_by.result c.written_by.ensures c.stored_by.ensures
    (c.store_some.ensures.notes m (w ++ value_list c.written_by.result) s called (c.write_some.ensures.notes m w s called h))

pub returns-clause-tables : goal.returns-clause-tables
returns-clause-tables c = λ g t. c.store_some.ensures.tables g (c.write_some.ensures.tables g t)
