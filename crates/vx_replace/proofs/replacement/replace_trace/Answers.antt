use Rattle.std.proofs.Common.{◌∙◌, eqb-true, length, sym, subst}
use Rattle.std.proofs.lemmas.List.{nil_from_length}
use Rattle.vx_mixed.specs.Edges.{EdgesOf}
use Rattle.vx_mixed.specs.Next.{next_mixed}
use Rattle.vx_mixed.specs.Valid.{Valid}
use Rattle.vx_replace.proofs.Replaces.{parts_make, parts_hold}
use Rattle.vx_replace.proofs.replacement.replace_trace.Goals as goal

pub put_trace-requires-clause-none : goal.put_trace-requires-clause-none
put_trace-requires-clause-none c = nil_from_length c.args.replacement.now.made (eqb-true (length c.args.replacement.now.made) 0 (sym c.is_empty.ensures ∙ c.if-is_empty.true))

pub make_all-requires-clause-edges : goal.make_all-requires-clause-edges
make_all-requires-clause-edges c = subst (EdgesOf c.args.graph.now) (sym c.as_slice.ensures) c.requires.edges

pub returns-in-Ok-clause-next : goal.returns-in-Ok-clause-next
returns-in-Ok-clause-next c = parts_make c.args.graph.now c.make_all.new.graph c.args.replacement.now c.swap.new.x c.swap-in-Ok.new.x c.swap-in-Ok-2.new.x c.in-Ok.ensures.regions (c.swap.ensures.x_after ∙ c.in-Ok.ensures.nodes) (c.swap-in-Ok.ensures.x_after ∙ c.in-Ok.ensures.origins) c.swap-in-Ok-2.ensures.x_after

pub returns-in-Ok-clause-edges : goal.returns-in-Ok-clause-edges
returns-in-Ok-clause-edges c =
    subst (λ m. EdgesOf m c.swap-in-Ok-3.new.x) (sym (parts_make c.args.graph.now c.make_all.new.graph c.args.replacement.now c.swap.new.x c.swap-in-Ok.new.x c.swap-in-Ok-2.new.x c.in-Ok.ensures.regions (c.swap.ensures.x_after ∙ c.in-Ok.ensures.nodes) (c.swap-in-Ok.ensures.x_after ∙ c.in-Ok.ensures.origins) c.swap-in-Ok-2.ensures.x_after))
    (subst (EdgesOf (next_mixed c.args.graph.now c.args.replacement.now)) (sym c.swap-in-Ok-3.ensures.x_after) c.in-Ok.ensures.edges)

pub returns-in-Ok-clause-valid : goal.returns-in-Ok-clause-valid
returns-in-Ok-clause-valid c =
    parts_hold c.args.graph.now _ c.args.replacement.now (parts_make c.args.graph.now c.make_all.new.graph c.args.replacement.now c.swap.new.x c.swap-in-Ok.new.x c.swap-in-Ok-2.new.x c.in-Ok.ensures.regions (c.swap.ensures.x_after ∙ c.in-Ok.ensures.nodes) (c.swap-in-Ok.ensures.x_after ∙ c.in-Ok.ensures.origins) c.swap-in-Ok-2.ensures.x_after) c.requires.valid c.requires.can

pub returns-in-Err-clause-edges : goal.returns-in-Err-clause-edges
returns-in-Err-clause-edges c = subst (λ m. EdgesOf m c.args.edges.now) (sym c.in-Err.ensures.unchanged) c.requires.edges

pub returns-in-Err-clause-valid : goal.returns-in-Err-clause-valid
returns-in-Err-clause-valid c = subst Valid (sym c.in-Err.ensures.unchanged) c.requires.valid
