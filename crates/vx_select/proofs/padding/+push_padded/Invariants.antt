use Rattle.std.proofs.Common.{length}
use Rattle.vx_select.proofs.padding.+push_padded.Given as goal

abbrev pub decreases-push_padded : goal.decreases-push_padded
decreases-push_padded l = length l.graphs.now
