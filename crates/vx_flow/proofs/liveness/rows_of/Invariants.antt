use Rattle.std.proofs.Common.{◌≡◌, ℕ, true, length}
use Rattle.vx_flow.specs.Rows.{is_marked}
use Rattle.vx_flow.proofs.LiveRoutes.{RowsBelow}
use Rattle.vx_flow.proofs.liveness.rows_of.Given as goal

abbrev pub invariant-loop-value : goal.invariant-loop-value
invariant-loop-value l = record { so_far : RowsBelow l.routes l.rows l.value; none : (b : ℕ) → is_marked l.marks.items b ≡ true → ⊥; len : length l.marks.items ≡ l.nodes }
