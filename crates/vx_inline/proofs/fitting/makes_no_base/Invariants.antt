use Rattle.std.proofs.Common.{◌≡◌, true, not, take}
use Rattle.std.specs.List.{list_all}
use Rattle.vx_inline.specs.Fitting.{is_base_made}
use Rattle.vx_inline.proofs.fitting.makes_no_base.Given as goal

abbrev pub invariant-loop-op : goal.invariant-loop-op
invariant-loop-op l = list_all (λ op. not (is_base_made op)) (take l.op-index l.ops) ≡ true
