use Rattle.std.proofs.Common.{refl, ◌∙◌}
use Rattle.vx_bug.proofs.Pieces.{moved_told}
use Rattle.vx_bug.proofs.clustered.lists_kept.Goals as goal

pub returns-clause-joins : goal.returns-clause-joins
returns-clause-joins c = moved_told c.args.starts.now c.args.starts.now c.args.trace.now.joins c.as_slice.result.now c.in_ok-joins.joins refl c.as_slice.ensures c.in_ok-joins.ensures

pub returns-clause-blocks : goal.returns-clause-blocks
returns-clause-blocks c = c.in_ok-blocks.ensures ∙ c.as_slice-2.ensures

pub returns-clause-arrays : goal.returns-clause-arrays
returns-clause-arrays c = c.in_ok-arrays.ensures ∙ c.as_slice-3.ensures
