use Rattle.std.proofs.Common.{rules}
use Rattle.std.proofs.lemmas.List.Sorted.{IsNonDecreasingBy-from_sort_by_key}
use Rattle.vx_mixed.specs.MovedEdges.{edge_key}
use Rattle.vx_replace.proofs.edges.sort_edges.Goals as goal

pub returns : goal.returns
returns c = record { sorted = IsNonDecreasingBy-from_sort_by_key edge_key _ c.sort_unstable_by_key.ensures.sorted (λ a r q k. search rules); same = search rules }
