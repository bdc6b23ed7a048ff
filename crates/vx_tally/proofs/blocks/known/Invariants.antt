use Rattle.std.proofs.Common.{◌≡◌, map, drop}
use Rattle.vx_flow.specs.Effects.{held}
use Rattle.vx_flow.specs.Meaning.{known}
use Rattle.vx_tally.specs.Storage.{state_of}
use Rattle.vx_tally.proofs.Running.{with_all}
use Rattle.vx_tally.proofs.blocks.known.Given as goal

abbrev pub invariant-loop-operand : goal.invariant-loop-operand
invariant-loop-operand l = known (map (held (state_of l.storage)) l.operands) ≡ with_all l.numbers (known (map (held (state_of l.storage)) (drop l.operand-index l.operands)))
