use Rattle.std.proofs.Common.{◌∙◌}
use Rattle.vx_loops.proofs.Notings.{looks}
use Rattle.vx_loops.proofs.loops.gather_behind.Goals as goal

pub returns-in-None-clause-looks : goal.returns-in-None-clause-looks
returns-in-None-clause-looks c = λ members h. let found = c.loop.invariant.notes members h in looks c.args.blocks.now found.0 c.loop.loops found.1

pub returns-clause-looks : goal.returns-clause-looks
returns-clause-looks c = λ members h. let found = c.loop.invariant.notes members h in looks c.args.blocks.now found.0 c.loop.loops found.1

pub loop-preserved : goal.loop-preserved
loop-preserved c = record {
  number = c.mark.ensures.number ∙ c.loop.invariant.number;
  tables = λ g t. c.mark.ensures.tables g (c.loop.invariant.tables g t);
  notes = λ members h. let found = c.loop.invariant.notes members h in (_, c.mark.ensures.notes found.0 found.1);
}
