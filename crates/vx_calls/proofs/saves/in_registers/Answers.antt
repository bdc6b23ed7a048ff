-- Each turn reads where one value more is kept.
use Rattle.std.proofs.Common.{refl}
use Rattle.vx_calls.specs.Saves.{in_registers}
use Rattle.vx_calls.proofs.Pieces.{placed_all}
use Rattle.vx_calls.proofs.SavedLists.{register_more}
use Rattle.vx_calls.proofs.saves.in_registers.Goals as goal

pub loop-value-preserved : goal.loop-value-preserved
loop-value-preserved c = register_more c.args.kept.now c.loop-value.value _ c.loop-value.values c.push_in_register.new.values _ c.loop-value.invariant c.loop-value-test.true c.in_ok-push_in_register.ensures

pub returns : goal.returns
returns c = placed_all in_registers c.loop-value.values _ c.loop-value.value c.args.kept.now c.loop-value.value c.loop-value.invariant c.loop-value-test.false refl
