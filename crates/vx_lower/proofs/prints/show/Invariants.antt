use Rattle.std.proofs.Common.{drop}
use Rattle.vx_ast.specs.Meaning.{pieces_of}
use Rattle.vx_lower.specs.Builds.{Ready}
use Rattle.vx_lower.specs.Makes.{Shifts, to_show}
use Rattle.vx_lower.specs.StatementFits.{ShowsWell}
use Rattle.vx_lower.proofs.prints.show.Given as goal

abbrev pub invariant-loop-byte : goal.invariant-loop-byte
invariant-loop-byte l = (Ready l.fn.b → Shifts (pieces_of l.fn.bytes) l.fn.arguments (to_show l.format (drop l.byte-index l.fn.bytes)) (drop l.format.next l.fn.arguments) l.fn.b l.b l.fn.texts l.texts) × ShowsWell l.fn.arguments l.fn.b l.b l.fn.texts l.texts
