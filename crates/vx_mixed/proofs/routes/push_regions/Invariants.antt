use Rattle.std.proofs.Common.{◌≡◌, ◌++◌, drop}
use Rattle.vx_mixed.specs.Routes.{region_routes}
use Rattle.vx_mixed.proofs.routes.push_regions.Given as goal

abbrev pub invariant-loop-region : goal.invariant-loop-region
invariant-loop-region l = l.routes ++ region_routes l.node (drop l.region-index l.regions) ≡ l.initial.routes ++ region_routes l.first l.regions
