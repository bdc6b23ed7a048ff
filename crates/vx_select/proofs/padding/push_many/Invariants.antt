use Rattle.std.proofs.Common.{◌≡◌, ◌++◌, replicate}
use Rattle.vx_select.proofs.padding.push_many.Given as goal

abbrev pub invariant-loop-place : goal.invariant-loop-place
invariant-loop-place l = l.banks ≡ l.initial.banks ++ replicate l._place l.bank
