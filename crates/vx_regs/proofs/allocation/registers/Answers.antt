use Rattle.std.proofs.Common.{List, Option, sym, subst}
use Rattle.vx_room.specs.Items.{latency_of_op}
use Rattle.vx_regs.specs.declared.hulls.Hull.{Hull}
use Rattle.vx_regs.specs.BusyPlaces.{AreHulls}
use Rattle.vx_regs.proofs.allocation.registers.Goals as goal

pub keep_without_banks-requires-clause-hulls : goal.keep_without_banks-requires-clause-hulls
keep_without_banks-requires-clause-hulls c = subst (λ (z : List (Option Hull)). AreHulls (latency_of_op c.args.machine.now) c.args.code.now z) (sym c.as_slice.ensures.value) c.in_ok-hulls.ensures

pub keep_by_scan-requires-clause-hulls : goal.keep_by_scan-requires-clause-hulls
keep_by_scan-requires-clause-hulls c = subst (λ (z : List (Option Hull)). AreHulls (latency_of_op c.args.machine.now) c.args.code.now z) (sym c.as_slice-else-is_empty.ensures.value) c.in_ok-hulls.ensures
