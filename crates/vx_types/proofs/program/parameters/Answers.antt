use Rattle.std.proofs.Common.{drop, ◌+◌}
use Rattle.vx_names.proofs.Lists.{drop_next}
use Rattle.vx_types.proofs.Wholes.{parameters_step}
use Rattle.vx_types.proofs.program.parameters.Goals as goal

pub loop-one-preserved : goal.loop-one-preserved
loop-one-preserved c =
    parameters_step c.loop-one.names c.parameter.new.self c.loop-one.first c.note_name-noted.result (drop c.loop-one.one-index c.args.all.now) (drop (c.loop-one.one-index + 1) c.args.all.now) c.one-item.result c.args.names.now c.args.first.now c.args.all.now
    c.loop-one.invariant (drop_next c.args.all.now c.loop-one.one-index c.one-item.result c.loop-one-test.true c.one-item.is) c.in_ok-parameter.ensures c.note_name-noted.ensures
