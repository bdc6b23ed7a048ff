use Rattle.std.proofs.Common.{◌∙◌, map, ap}
use Rattle.vx_mixed.specs.Next.{new_end, rename}
use Rattle.vx_replace.proofs.nodes.renamed_region.Goals as goal

pub returns : goal.returns
returns c = λ i. record {
  blocks = (c.in_ok-blocks.ensures ∙ c.as_slice.ensures) i;
  words = (c.in_ok-words.ensures ∙ ap (map (map (rename (new_end c.args.graph.now c.args.replacement.now.made)))) c.as_slice-2.ensures) i;
  from = c.args.region.now.from;
  last = c.in_ok-last.ensures i;
  drain = c.args.region.now.drain;
}
