-- One word against trace order.
use Rattle.std.proofs.Common.{sym, subst, add-one}
use Rattle.vx_flow.specs.Effects.{at}
use Rattle.vx_motion.specs.Items.{Fine}
use Rattle.vx_motion.specs.Trace.{order}
use Rattle.vx_motion.specs.ParallelWords.{ParallelWords}
use Rattle.vx_mixed.proofs.Contents.{same_shape}
use Rattle.vx_motion.proofs.OrderShape.{shape_sym, order_shape}
use Rattle.vx_motion.proofs.Word.{run}

pub parallel_words : ParallelWords
parallel_words setting items start s put places same ready =
    let r = run setting items start s put same (λ k. shape_sym start (order setting items start k) (order_shape setting items start k)) places s (same_shape s)
    (λ k h. let q = ready k h in record { marked = q.marked; safe = q.safe; well = q.reads }) in (
      r.0,
      r.1,
      record {
        still = r.2.passes;
        made = λ k l h w only. subst (λ z. Fine l (at (order setting items start z) l) (at r.0 l)) (sym (add-one k)) (r.2.reaches k l h w only);
      },
    )
