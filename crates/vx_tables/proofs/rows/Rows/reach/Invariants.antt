use Rattle.std.proofs.Common.{◌≡◌, ℕ, ◌+◌, ◌-◌, vec_len}
use Rattle.vx_tables.specs.Rows.{row_at}
use Rattle.vx_tables.proofs.rows.Rows.reach.Given as goal

abbrev pub invariant-loop-self : goal.invariant-loop-self
invariant-loop-self l = (row : ℕ) → row_at l.self-inside.rows.items row ≡ row_at l.initial.self-inside.rows.items row

abbrev pub decreases-loop-self : goal.decreases-loop-self
decreases-loop-self l = l.place + 1 - vec_len l.self-inside.rows
