use Rattle.std.proofs.Common.{List, sym, ap}
use Rattle.std.proofs.lemmas.List.{nil_from_length}
use Rattle.vx_isa.specs.declared.operation.Operation.{Operation}
use Rattle.vx_target.specs.Target.{landing_of}
use Rattle.vx_calls.proofs.pauses.+landing_of.Goals as goal

pub returns-in-None : goal.returns-in-None
returns-in-None t c = ap (λ (z : List Operation). landing_of c.args.machine.now c.args.register z) (sym (nil_from_length c.args.ops.now c.in-None.ensures.cases))
