use Rattle.std.proofs.Common.{sym, ◌∙◌}
use Rattle.vx_machine.proofs.MarksLaw.{destinations_have_marks}
use Rattle.vx_machine.proofs.bad_word.is_bad_word.Goals as goal

pub writes_twice-requires : goal.writes_twice-requires
writes_twice-requires c = destinations_have_marks c.args.machine.now c.as_slice-ops.result.now c.keeps_ranges.ensures (sym c.has_registers.ensures ∙ c.if-has_registers.true)
