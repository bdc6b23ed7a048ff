use Rattle.std.proofs.Common.{◌++◌, ℕ, List, append-nil, sym, ap, ◌∙◌}
use Rattle.std.proofs.lemmas.List.{nil_from_length}
use Rattle.vx_target.specs.Target.{slotted}
use Rattle.vx_slots.specs.Seen.{seen}
use Rattle.vx_slots.proofs.registers.+push_slotted.Goals as goal

pub returns-in-None : goal.returns-in-None
returns-in-None t c =
    let old = c.args.found.now in
    sym (append-nil old) ∙ ap (λ (z : List ℕ). old ++ slotted (seen c.args.whole.now) c.args.function z) (sym (nil_from_length c.args.values.now c.in-None.ensures.cases))
