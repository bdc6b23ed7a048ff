use Rattle.std.proofs.Common.{◌≡◌, ℕ, [], length}
use Rattle.vx_tables.specs.Rows.{row_at}
use Rattle.vx_check.proofs.rounds.empty_rows.Given as goal

abbrev pub invariant-places : goal.invariant-places
invariant-places l = record { len : length l.rows.items ≡ l.counter; empty : (q : ℕ) → row_at l.rows.items q ≡ [] }
