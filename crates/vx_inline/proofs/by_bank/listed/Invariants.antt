use Rattle.std.proofs.Common.{◌≡◌, true}
use Rattle.std.specs.List.{filter}
use Rattle.vx_flow.specs.Walk.{numbers}
use Rattle.vx_inline.specs.Values.{is_listed}
use Rattle.vx_inline.proofs.by_bank.listed.Given as goal

abbrev pub invariant-loop-value : goal.invariant-loop-value
invariant-loop-value l = l.values ≡ filter (is_listed l.banks l.marks true l.bank) (numbers 0 l.value)
