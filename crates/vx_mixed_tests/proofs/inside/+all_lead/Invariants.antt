use Rattle.std.proofs.Common.{length}
use Rattle.vx_mixed_tests.proofs.inside.+all_lead.Given as goal

abbrev pub decreases-all_lead : goal.decreases-all_lead
decreases-all_lead l = length l.words.now
