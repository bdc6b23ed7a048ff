use Rattle.std.proofs.Common.{◌≡◌, ◌++◌, drop}
use Rattle.vx_mixed.specs.Routes.{region_starts}
use Rattle.vx_mixed.proofs.routes.starts_of.Given as goal

abbrev pub invariant-loop-region : goal.invariant-loop-region
invariant-loop-region l = l.starts ++ region_starts l.node (drop l.region-index l.regions) ≡ region_starts l.first l.regions
