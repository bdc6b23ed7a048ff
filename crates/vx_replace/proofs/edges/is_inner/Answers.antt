use Rattle.std.proofs.Common.{◌∙◌, sym, ap}
use Rattle.vx_mixed.specs.MovedEdges.{is_inner}
use Rattle.vx_replace.proofs.PutSteps.{first_of}
use Rattle.vx_replace.proofs.edges.is_inner.Goals as goal

pub returns-in-len1-up : goal.returns-in-len1-up
returns-in-len1-up c = c.is_inner_behind.ensures ∙ ap (λ bs. is_inner bs c.args.edge) (sym (first_of c.args.blocks.now c.in-len1-up.len_at_least))
