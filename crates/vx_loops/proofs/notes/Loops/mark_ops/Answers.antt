use Rattle.std.proofs.Common.{◌++◌, ◌∙◌, take}
use Rattle.std.specs.List.{flat_map}
use Rattle.vx_base.specs.declared.arithmetic.Code.TheVariants.{Add}
use Rattle.vx_flow.specs.declared.graph.Op.TheVariants.{Compute}
use Rattle.vx_flow.specs.declared.graph.Operand.TheVariants.{Held}
use Rattle.vx_flow.specs.Effects.{writes}
use Rattle.vx_loops.specs.Noted.{stores_of}
use Rattle.vx_loops.proofs.Notings.{ops_all, ops_noted}
use Rattle.vx_loops.proofs.notes.Loops.mark_ops.Goals as goal

pub loop-op-preserved : goal.loop-op-preserved
loop-op-preserved c = record {
  number = c.mark_op.ensures.number ∙ c.loop-op.invariant.number;
  tables = λ g t. c.mark_op.ensures.tables g (c.loop-op.invariant.tables g t);
  notes = λ m w s called h.
      let done = take c.loop-op.op-index c.args.ops.now in
      ops_noted m w s called c.mark_op.new.self c.args.ops.now c.loop-op.op-index (Compute Add 0 (Held 0) (Held 0)) c.loop-op-test.true
      (c.mark_op.ensures.notes m (w ++ flat_map writes done) (s ++ flat_map stores_of done) called (c.loop-op.invariant.notes m w s called h));
}

pub returns-clause-notes : goal.returns-clause-notes
returns-clause-notes c = λ m w s called h. ops_all m w s called c.loop-op.self c.args.ops.now c.loop-op.op-index c.loop-op-test.false (c.loop-op.invariant.notes m w s called h)
