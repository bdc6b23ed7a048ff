use Rattle.std.proofs.Common.{◌++◌, List, sym, ap, ◌∙◌, append-nil, w32}
use Rattle.std.proofs.lemmas.Int.{to_z-of_z}
use Rattle.std.proofs.lemmas.List.{nil_from_length}
use Rattle.vx_linear.specs.declared.form.Term.{Term}
use Rattle.vx_linear.specs.Linear.{scaled}
use Rattle.vx_linear.proofs.linear.scaled.Goals as goal

-- no term is left
pub returns-in-None : goal.returns-in-None
returns-in-None c =
    sym (append-nil c.scale.list)
    ∙ ap (λ (ts : List Term). c.scale.list ++ scaled c.args.number ts) (sym (nil_from_length c.scale.rest.now c.in-None.ensures.cases))
    ∙ (rw (to_z-of_z w32 c.args.number c.ranges.number) at c.scale.invariant)
