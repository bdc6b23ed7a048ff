use Rattle.std.proofs.Common.{◌≡◌, List, take}
use Rattle.vx_mixed.specs.declared.region.Region.{Region}
use Rattle.vx_layout.specs.Laying.{starts_of, places_of}
use Rattle.vx_layout.proofs.words.node_places.Given as goal

abbrev pub invariant-loop-node : goal.invariant-loop-node
invariant-loop-node l = (regions : List Region) → l.starts ≡ starts_of regions → l.places.items ≡ places_of regions (take l.node-index l.nodes)
