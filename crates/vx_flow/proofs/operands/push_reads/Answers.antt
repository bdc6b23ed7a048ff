use Rattle.std.proofs.lemmas.Result.{IfOk-weaker}
use Rattle.vx_flow.proofs.OperandLaws.{reads_added}
use Rattle.vx_flow.proofs.operands.push_reads.Goals as goal

pub returns : goal.returns
returns c = IfOk-weaker c.push_value-3.result _ _ (λ done last. reads_added c.args.op.now c.read_by-read.result c.args.values.now _ _ _ c.read_by-read.ensures c.in_ok-push_value.ensures c.in_ok-push_value-2.ensures last) c.push_value-3.ensures
