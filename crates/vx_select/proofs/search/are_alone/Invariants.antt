use Rattle.std.proofs.Common.{◌≡◌, drop}
use Rattle.vx_select.specs.Known.{whole}
use Rattle.vx_select.specs.Search.{are_alone}
use Rattle.vx_select.proofs.search.are_alone.Given as goal

abbrev pub invariant-loop-place : goal.invariant-loop-place
invariant-loop-place l = are_alone (whole l.graph l.corners) 0 l.graph.blocks ≡ are_alone (whole l.graph l.corners) l.place (drop l.place l.graph.blocks)
