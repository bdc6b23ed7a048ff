use Rattle.std.proofs.Common.{◌≡◌, ◌≤◌, take}
use Rattle.std.specs.Prelude.{count_by}
use Rattle.vx_lower.specs.FlowOf.{is_branch}
use Rattle.vx_select.proofs.padding.branches.Given as goal

abbrev pub invariant-loop-bank : goal.invariant-loop-bank
invariant-loop-bank l = (l.count ≡ count_by is_branch (take l.bank-index l.banks)) × (l.count ≤ l.bank-index)
