use Rattle.std.proofs.Common.{◌≡◌, ◌+◌, drop}
use Rattle.vx_inline.specs.Inlined.{kind_place}
use Rattle.vx_inline.proofs.places.kind_place.Given as goal

abbrev pub invariant-loop-kind : goal.invariant-loop-kind
invariant-loop-kind l = l.place + kind_place (drop l.kind-index l.kinds) l.exit ≡ kind_place l.kinds l.exit
