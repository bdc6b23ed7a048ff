use Rattle.std.proofs.Common.{◌∙◌}
use Rattle.vx_clean.proofs.Filled.{filled_length}
use Rattle.vx_clean.proofs.joined_blocks.joins.Goals as goal

pub returns : goal.returns
returns c = c.cut_all.ensures ∙ c.join_all.ensures ∙ filled_length _ _ _ c.in_ok-after.ensures
