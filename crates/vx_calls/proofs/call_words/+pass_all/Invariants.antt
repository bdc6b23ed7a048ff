use Rattle.std.proofs.Common.{length}
use Rattle.vx_calls.proofs.call_words.+pass_all.Given as goal

abbrev pub decreases-pass_all : goal.decreases-pass_all
decreases-pass_all l = length l.parameters.now
