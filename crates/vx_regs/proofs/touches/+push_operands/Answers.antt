use Rattle.std.proofs.Common.{◌++◌, List, append-nil, sym, ap, ◌∙◌}
use Rattle.std.proofs.lemmas.List.{nil_from_length}
use Rattle.std.specs.List.{flat_map}
use Rattle.vx_flow.specs.declared.graph.Operand.{Operand}
use Rattle.vx_flow.specs.Effects.{value_in}
use Rattle.vx_regs.proofs.touches.+push_operands.Goals as goal

pub returns-in-None : goal.returns-in-None
returns-in-None t c =
    let old = c.args.values.now in
    sym (append-nil old) ∙ ap (λ (z : List Operand). old ++ flat_map value_in z) (sym (nil_from_length c.args.operands.now c.in-None.ensures.cases))
