use Rattle.std.proofs.Common.{◌≡◌, true, take}
use Rattle.std.specs.List.{list_all}
use Rattle.vx_isa.specs.Operations.{reads_of}
use Rattle.vx_isa.specs.Fits.{is_in_file}
use Rattle.vx_machine.proofs.fit.has_operands.Given as goal

abbrev pub invariant-loop-op : goal.invariant-loop-op
invariant-loop-op l = list_all (λ op. list_all (is_in_file l.machine) (reads_of op)) (take l.op-index l.ops) ≡ true
