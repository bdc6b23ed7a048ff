use Rattle.std.proofs.Common.{◌≡◌, ◌++◌, map}
use Rattle.std.specs.List.{AllByRecursion, filter, flat_map}
use Rattle.vx_profile.specs.Text.{Fits, edge_row, is_passed, row_text}
use Rattle.vx_profile.proofs.count_writer.push_edges.Given as goal

abbrev pub invariant-loop-edge : goal.invariant-loop-edge
invariant-loop-edge l = record {
  text : l.out.items ++ flat_map row_text (filter is_passed (map edge_row l.edge-iterator)) ≡ l.fn.out.items ++ flat_map row_text (filter is_passed (map edge_row l.edges.entries));
  fit : AllByRecursion Fits (filter is_passed (map edge_row l.edge-iterator)) → AllByRecursion Fits (filter is_passed (map edge_row l.edges.entries));
}
