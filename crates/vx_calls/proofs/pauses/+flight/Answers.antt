use Rattle.std.proofs.Common.{List, sym, ap}
use Rattle.std.proofs.lemmas.List.{nil_from_length}
use Rattle.vx_isa.specs.declared.program.Word.{Word}
use Rattle.vx_target.specs.Target.{flight}
use Rattle.vx_calls.proofs.pauses.+flight.Goals as goal

pub returns-in-None : goal.returns-in-None
returns-in-None t c = ap (λ (z : List Word). flight c.args.machine.now c.args.register c.args.before z) (sym (nil_from_length c.args.words.now c.in-None.ensures.cases))
