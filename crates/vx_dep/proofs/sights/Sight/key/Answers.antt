use Rattle.std.proofs.Common.{◌≡◌, Some, None, IfSome, IfNone, slice_get, subst}
use Rattle.vx_dep.proofs.Looking.{looked_up, none_found}
use Rattle.vx_dep.proofs.sights.Sight.key.Goals as goal

pub returns-clause-some : goal.returns-clause-some
returns-clause-some c = subst (λ xs. IfSome c.get.result (λ x. slice_get xs c.args.place ≡ Some x.now)) c.as_slice.ensures (looked_up c.as_slice.result.now c.args.place c.get.result c.get.ensures.lookup.0 c.get.ensures.lookup.1)

pub returns-clause-none : goal.returns-clause-none
returns-clause-none c = subst (λ xs. IfNone c.get.result (slice_get xs c.args.place ≡ None)) c.as_slice.ensures (none_found c.as_slice.result.now c.args.place c.get.result c.get.ensures.lookup.0)
