use Rattle.std.proofs.Common.{List, ap}
use Rattle.vx_isa.specs.declared.operation.Operation.{Operation}
use Rattle.vx_isa.specs.declared.program.Word.{Word}
use Rattle.vx_slots.proofs.transfers.word_of_two.Goals as goal

abbrev at_once : List Operation → Word
at_once ops = record { ops = ops; idle = 0 }

pub returns : goal.returns
returns c = ap at_once c.in_ok-ops.ensures
