use Rattle.std.proofs.Common.{◌≡◌, ◌++◌, drop}
use Rattle.std.specs.List.{filter}
use Rattle.vx_inline.specs.Placing.{has_kind}
use Rattle.vx_inline.proofs.places.those_of.Given as goal

abbrev pub invariant-loop-kind : goal.invariant-loop-kind
invariant-loop-kind l = l.kinds ++ filter (has_kind (l.caller ++ l.callee)) (drop l.kind-index l.all) ≡ filter (has_kind (l.caller ++ l.callee)) l.all
