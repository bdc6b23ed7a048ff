use Rattle.std.proofs.Common.{subst}
use Rattle.std.specs.BTreeMap.{IsOrdered}
use Rattle.vx_profile.specs.Counts.{pair_cmp, triple_cmp}
use Rattle.vx_profile.proofs.Writing.{pushed_is_spelled, pushed_is_text}
use Rattle.vx_profile.proofs.count_writer.write_counts.Goals as goal

pub returns-clause-text : goal.returns-clause-text
returns-clause-text c =
    let blocks = c.in_ok-push_blocks.ensures in
    let edges = c.in_ok-push_edges.ensures in
    pushed_is_text c.args.counts.now c.block_counts.result.now c.edge_counts.result.now c.new-out.result.items c.extend_from_slice.new.self.items c.push_blocks.new.out.items c.push_edges.new.out.items
    (record {
      none = c.new-out.ensures.items;
      first = c.in_ok-extend_from_slice.ensures.items;
      block_text = blocks.text;
      edge_text = edges.text;
      blocks_fit = blocks.fit;
      edges_fit = edges.fit;
      blocks_ordered = blocks.ordered;
      edges_ordered = edges.ordered;
    })
    c.block_counts.ensures c.edge_counts.ensures

pub returns-clause-spelled : goal.returns-clause-spelled
returns-clause-spelled c =
    let blocks = c.in_ok-push_blocks.ensures in
    let edges = c.in_ok-push_edges.ensures in
    pushed_is_spelled c.args.counts.now c.block_counts.result.now c.edge_counts.result.now c.new-out.result.items c.extend_from_slice.new.self.items c.push_blocks.new.out.items c.push_edges.new.out.items
    (record {
      none = c.new-out.ensures.items;
      first = c.in_ok-extend_from_slice.ensures.items;
      block_text = blocks.text;
      edge_text = edges.text;
      blocks_fit = blocks.fit;
      edges_fit = edges.fit;
      blocks_ordered = blocks.ordered;
      edges_ordered = edges.ordered;
    })
    c.block_counts.ensures c.edge_counts.ensures

pub returns-clause-ascending : goal.returns-clause-ascending
returns-clause-ascending c = record {
  blocks = subst (IsOrdered pair_cmp) c.block_counts.ensures c.in_ok-push_blocks.ensures.ordered;
  edges = subst (IsOrdered triple_cmp) c.edge_counts.ensures c.in_ok-push_edges.ensures.ordered;
}
