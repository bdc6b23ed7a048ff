use Rattle.std.proofs.lemmas.Result.{IfOk-weaker}
use Rattle.vx_flow.proofs.OperandLaws.{reads_touched}
use Rattle.vx_flow.proofs.touched_values.touch_reads.Goals as goal

pub returns : goal.returns
returns c = IfOk-weaker c.touch_value-3.result _ _ (λ done last. reads_touched c.args.op.now c.read_by-read.result c.args.touches.now _ _ _ c.read_by-read.ensures c.in_ok-touch_value.ensures c.in_ok-touch_value-2.ensures last) c.touch_value-3.ensures
