use Rattle.std.proofs.Common.{◌∙◌, ◌++◌, ap, take_all}
use Rattle.vx_tally.specs.Machine.{undefined_all}
use Rattle.vx_tally.proofs.Passing.{own_turn}
use Rattle.vx_tally.proofs.machine.add_arrays.Goals as goal

pub loop-array-preserved : goal.loop-array-preserved
loop-array-preserved c = own_turn c.args.own.now c.loop-array.array-index _ c.args.arrays.now.items c.loop-array.arrays.items c.add_array.new.arrays.items c.loop-array-test.true c.loop-array.invariant c.in_ok-add_array.ensures

pub returns : goal.returns
returns c = c.loop-array.invariant ∙ ap (λ own. c.args.arrays.now.items ++ undefined_all own) (take_all c.loop-array.array-index c.args.own.now c.loop-array-test.false)
