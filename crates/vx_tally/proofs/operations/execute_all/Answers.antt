use Rattle.vx_tally.specs.Storage.{setting_in, state_of}
use Rattle.vx_tally.proofs.Turns.{effects_end, effects_stop, effects_turn}
use Rattle.vx_tally.proofs.operations.execute_all.Goals as goal

pub loop-op-preserved : goal.loop-op-preserved
loop-op-preserved c =
    effects_turn (setting_in c.args.flow.now c.args.passed.now c.args.base) _ (state_of c.loop-op.storage) (state_of c.execute.new.storage) c.args.ops.now c.loop-op.op-index _ c.in_ok-execute.field-0 c.loop-op-test.true c.loop-op.invariant c.in_ok-execute.ensures c.if-not-branch.false

pub returns-then-not-branch : goal.returns-then-not-branch
returns-then-not-branch c =
    effects_stop (setting_in c.args.flow.now c.args.passed.now c.args.base) _ (state_of c.loop-op.storage) (state_of c.execute.new.storage) c.args.ops.now c.loop-op.op-index _ c.in_ok-execute.field-0 c.loop-op-test.true c.loop-op.invariant c.in_ok-execute.ensures c.if-not-branch.true

pub returns : goal.returns
returns c = effects_end (setting_in c.args.flow.now c.args.passed.now c.args.base) _ (state_of c.loop-op.storage) c.args.ops.now c.loop-op.op-index c.loop-op-test.false c.loop-op.invariant
