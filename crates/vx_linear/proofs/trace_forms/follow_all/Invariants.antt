-- what is kept of the operations so far, what forms they have, and what is left
use Rattle.std.proofs.Common.{length}
use Rattle.vx_linear.specs.Passed.{IsFollowed}
use Rattle.vx_linear.proofs.trace_forms.follow_all.Given as goal

abbrev pub invariant-follow : goal.invariant-follow
invariant-follow l = IsFollowed l.fn.trace l.passed l.forms l.rest

abbrev pub decreases-follow : goal.decreases-follow
decreases-follow l = length l.rest
