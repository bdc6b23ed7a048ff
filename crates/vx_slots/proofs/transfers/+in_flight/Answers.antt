use Rattle.std.proofs.Common.{List, sym, ap}
use Rattle.std.proofs.lemmas.List.{nil_from_length}
use Rattle.vx_isa.specs.declared.program.Word.{Word}
use Rattle.vx_target.specs.Target.{in_flight}
use Rattle.vx_slots.proofs.transfers.+in_flight.Goals as goal

pub returns-in-None : goal.returns-in-None
returns-in-None t c = ap (λ (z : List Word). in_flight c.args.machine.now c.args.before z) (sym (nil_from_length c.args.words.now c.in-None.ensures.cases))
