use Rattle.std.proofs.Common.{◌∙◌, ap, sym, take_all}
use Rattle.std.specs.List.{list_all}
use Rattle.vx_fold.specs.Thinning.{reads_read, unread_of}
use Rattle.vx_fold.proofs.Alls.{one_fails, one_more}
use Rattle.vx_fold.proofs.reads.ops_read_needed.Goals as goal

pub loop-op-preserved : goal.loop-op-preserved
loop-op-preserved c = one_more (reads_read (unread_of c.args.needed.now)) c.args.ops.now c.loop-op.op-index _ c.reads_needed.result c.loop-op-test.true c.loop-op.invariant c.reads_needed.ensures c.if-not-reads_needed.false

pub returns-then-not-reads_needed : goal.returns-then-not-reads_needed
returns-then-not-reads_needed c = one_fails (reads_read (unread_of c.args.needed.now)) c.args.ops.now c.loop-op.op-index _ c.reads_needed.result c.loop-op-test.true c.reads_needed.ensures c.if-not-reads_needed.true

pub returns : goal.returns
returns c = sym (ap (list_all (reads_read (unread_of c.args.needed.now))) (sym (take_all c.loop-op.op-index c.args.ops.now c.loop-op-test.false)) ∙ c.loop-op.invariant)
