use Rattle.std.proofs.Common.{◌≡◌, ℕ, ◌+◌, ◌-◌, vec_len}
use Rattle.vx_tally.specs.Storage.{value_at}
use Rattle.vx_tally.proofs.storage.reach.Given as goal

abbrev pub invariant-loop-values : goal.invariant-loop-values
invariant-loop-values l = (v : ℕ) → value_at l.values.items v ≡ value_at l.initial.values.items v

abbrev pub decreases-loop-values : goal.decreases-loop-values
decreases-loop-values l = l.value + 1 - vec_len l.values
