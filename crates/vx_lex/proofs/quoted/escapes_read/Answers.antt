use Rattle.std.proofs.Common.{arith}
use Rattle.std.proofs.lemmas.Grind.{common_steps}
use Rattle.vx_lex.proofs.Steps.{read_step, read_end}
use Rattle.vx_lex.proofs.quoted.escapes_read.Goals.{then-is_free, else-is_free+in_ok-push}
use Rattle.vx_lex.proofs.quoted.escapes_read.Goals as goal

pub loop-byte-preserved : goal.loop-byte-preserved
loop-byte-preserved c =
    let step = read_step c.loop-byte.escaped c.args.inner.now c.loop-byte.byte-index (omega arith) in
    elim c.if-is_free.branch [
      | then-is_free w ↦ grind (arith, common_steps, step, w.bytes-is, w.escaped-is)
      | else-is_free+in_ok-push w ↦ grind (arith, common_steps, step, w.bytes-is, w.escaped-is, w.in_ok-push.ensures)
    ]

pub returns : goal.returns
returns c = grind (arith, common_steps, read_end c.loop-byte.escaped c.args.inner.now c.loop-byte.byte-index (omega arith))
