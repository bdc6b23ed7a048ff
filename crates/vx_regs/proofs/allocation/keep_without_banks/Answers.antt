use Rattle.std.proofs.Common.{◌≡◌, List, map, sym, subst, rules}
use Rattle.vx_room.specs.Items.{latency_of_op}
use Rattle.vx_regs.specs.declared.map.Kept.{Kept}
use Rattle.vx_regs.specs.Filed.{first_register}
use Rattle.vx_regs.specs.Mapped.{Mapped}
use Rattle.vx_regs.proofs.Allocated.{mapped_without}
use Rattle.vx_regs.proofs.allocation.keep_without_banks.Goals as goal

pub returns : goal.returns
returns c =
    let kept : c.in_ok-values.values ≡ map first_register c.args.hulls.now = search rules in
    subst (λ (z : List Kept). Mapped c.args.machine.now (latency_of_op c.args.machine.now) c.args.code.now (record { values = z })) (sym kept)
    (mapped_without c.args.machine.now (latency_of_op c.args.machine.now) c.args.code.now c.args.hulls.now c.requires.hulls c.requires.none)
