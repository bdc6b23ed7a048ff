use Rattle.std.proofs.Common.{◌++◌, List, ap, ◌∙◌}
use Rattle.vx_flow.specs.declared.graph.Op.{Op}
use Rattle.vx_hoist.proofs.hoisted_flow.with_end.Goals as goal

pub returns-clause-ops : goal.returns-clause-ops
returns-clause-ops c = c.in_ok-append.ensures ∙ ap (λ (ops : List Op). ops ++ c.args.added.now) (c.in_ok-ops.ensures ∙ c.as_slice.ensures)
