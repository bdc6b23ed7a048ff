use Rattle.std.proofs.Common.{◌≡◌, map, take}
use Rattle.vx_flow.specs.declared.graph.Graph.{Graph}
use Rattle.vx_inline.specs.Values.{is_bare}
use Rattle.vx_inline.proofs.known.bare_of.Given as goal

abbrev pub invariant-loop-graph : goal.invariant-loop-graph
invariant-loop-graph l = l.bare.items ≡ map (λ (g : Graph). is_bare g.arrays g.blocks) (take l.graph-index l.functions)
