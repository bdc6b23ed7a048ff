use Rattle.std.proofs.Common.{◌≡◌, ◌≤◌, false, length}
use Rattle.std.specs.List.{filter}
use Rattle.vx_flow.specs.Walk.{numbers}
use Rattle.vx_inline.specs.Values.{is_listed}
use Rattle.vx_inline.proofs.by_bank.first_of.Given as goal

abbrev pub invariant-loop-value : goal.invariant-loop-value
invariant-loop-value l = record {
  found : l.values ≡ filter (is_listed l.banks l.marks false l.bank) (numbers 0 l.value);
  few : length l.values ≤ l.most;
}
