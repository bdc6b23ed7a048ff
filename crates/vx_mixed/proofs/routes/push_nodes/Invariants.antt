use Rattle.std.proofs.Common.{◌≡◌, ◌++◌, drop}
use Rattle.vx_mixed.specs.Routes.{node_routes}
use Rattle.vx_mixed.proofs.routes.push_nodes.Given as goal

abbrev pub invariant-loop-index : goal.invariant-loop-index
invariant-loop-index l = l.routes ++ node_routes l.starts l.index (drop l.index l.nodes) ≡ l.initial.routes ++ node_routes l.starts 0 l.nodes
