use Rattle.std.proofs.Common.{List, sym, ap}
use Rattle.std.proofs.lemmas.List.{nil_from_length}
use Rattle.vx_isa.specs.declared.operation.Operation.{Operation}
use Rattle.vx_target.specs.Target.{latest}
use Rattle.vx_slots.proofs.transfers.+latest.Goals as goal

pub returns-in-None : goal.returns-in-None
returns-in-None t c = ap (λ (z : List Operation). latest c.args.machine.now z) (sym (nil_from_length c.args.ops.now c.in-None.ensures.cases))
