use Rattle.std.proofs.Common.{sym, ap, ◌∙◌}
use Rattle.std.proofs.lemmas.List.{nil_from_length}
use Rattle.vx_target.specs.Target.{once}
use Rattle.vx_slots.proofs.registers.+once.Goals as goal

pub returns-in-None : goal.returns-in-None
returns-in-None t c = c.new.ensures ∙ ap once (sym (nil_from_length c.args.values.now c.in-None.ensures.cases))
