use Rattle.std.proofs.Common.{◌≡◌, drop}
use Rattle.vx_tally.specs.Storage.{effects, setting_in, state_of}
use Rattle.vx_tally.proofs.operations.execute_all.Given as goal

abbrev pub invariant-loop-op : goal.invariant-loop-op
invariant-loop-op l = effects (setting_in l.flow l.passed l.base) (state_of l.initial.storage) l.ops ≡ effects (setting_in l.flow l.passed l.base) (state_of l.storage) (drop l.op-index l.ops)
