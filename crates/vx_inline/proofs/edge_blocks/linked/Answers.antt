use Rattle.std.proofs.Common.{◌∙◌, length, sym, eqb-true}
use Rattle.vx_inline.proofs.Linking.{no_edges}
use Rattle.vx_inline.proofs.edge_blocks.linked.Goals as goal

pub returns-then-is_empty : goal.returns-then-is_empty
returns-then-is_empty c = no_edges c.args.place c.args.edges.now c.args.blocks (eqb-true (length c.args.edges.now) 0 (sym c.is_empty.ensures ∙ c.if-is_empty.true))
