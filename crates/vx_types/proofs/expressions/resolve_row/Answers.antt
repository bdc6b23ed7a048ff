use Rattle.std.proofs.Common.{drop}
use Rattle.std.proofs.lemmas.List.{drop_all}
use Rattle.vx_types.proofs.Rows.{row_made_step, row_made_end}
use Rattle.vx_types.proofs.expressions.resolve_row.Goals as goal

pub loop-argument-preserved : goal.loop-argument-preserved
loop-argument-preserved c =
    row_made_step c.args.names.now c.loop-argument.made.items c.append.new.made.items c.in_ok-one.one c.args.row.now c.loop-argument.argument-index c.argument-item.result _ c.loop-argument-test.true c.argument-item.is c.loop-argument.invariant c.in_ok-append.ensures c.in_ok-one.ensures

pub returns : goal.returns
returns c = row_made_end c.args.names.now c.loop-argument.made.items (drop c.loop-argument.argument-index c.args.row.now) _ (drop_all c.loop-argument.argument-index c.args.row.now c.loop-argument-test.false) c.loop-argument.invariant
