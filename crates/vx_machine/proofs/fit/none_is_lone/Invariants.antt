use Rattle.std.proofs.Common.{◌≡◌, true, not, take}
use Rattle.std.specs.List.{list_all}
use Rattle.vx_isa.specs.Operations.{is_lone}
use Rattle.vx_machine.proofs.fit.none_is_lone.Given as goal

abbrev pub invariant-loop-op : goal.invariant-loop-op
invariant-loop-op l = list_all (λ op. not (is_lone op)) (take l.op-index l.ops) ≡ true
