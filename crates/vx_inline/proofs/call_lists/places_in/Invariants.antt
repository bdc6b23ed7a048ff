use Rattle.std.proofs.Common.{◌≡◌, ◌++◌, drop}
use Rattle.vx_inline.specs.CallPlaces.{call_places}
use Rattle.vx_inline.proofs.call_lists.places_in.Given as goal

abbrev pub invariant-loop-place : goal.invariant-loop-place
invariant-loop-place l = l.calls ++ call_places l.place (drop l.place l.blocks) ≡ call_places 0 l.blocks
