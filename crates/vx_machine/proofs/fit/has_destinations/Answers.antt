use Rattle.std.proofs.Common.{◌∙◌, ap}
use Rattle.std.specs.List.{list_all}
use Rattle.vx_isa.specs.Operations.{list_of}
use Rattle.vx_isa.specs.Fits.{is_in_file}
use Rattle.vx_machine.proofs.Counts.{all_more, all_not}
use Rattle.vx_machine.proofs.fit.has_destinations.Goals as goal

pub loop-op-preserved : goal.loop-op-preserved
loop-op-preserved c = all_more _ c.args.ops.now c.loop-op.op-index _ c.has_named.result c.loop-op-test.true c.loop-op.invariant (c.has_named.ensures ∙ ap (λ r. list_all (is_in_file c.args.machine.now) (list_of r)) c.destination.ensures) c.if-not-has_named.false

pub returns-then-not-has_named : goal.returns-then-not-has_named
returns-then-not-has_named c = all_not _ c.args.ops.now c.loop-op.op-index _ c.has_named.result c.loop-op-test.true (c.has_named.ensures ∙ ap (λ r. list_all (is_in_file c.args.machine.now) (list_of r)) c.destination.ensures) c.if-not-has_named.true
