use Rattle.std.proofs.Common.{◌++◌}
use Rattle.vx_linear.proofs.Moved.{moved}
use Rattle.vx_linear.proofs.linear.push_all.Goals as goal

pub copy-preserved : goal.copy-preserved
copy-preserved c = moved (λ terms. terms) (c.args.list.now ++ c.args.terms.now) c.copy.list c.push.new.self c.copy.rest.now c.in-Some.others.now c.in-Some.first.now c.copy.invariant c.in-Some.ensures.cases.0 c.in_ok-push-in-Some.ensures.ok
