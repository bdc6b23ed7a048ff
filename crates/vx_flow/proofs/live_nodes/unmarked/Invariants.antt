use Rattle.std.proofs.Common.{◌≡◌, ℕ, true, length}
use Rattle.vx_flow.specs.Rows.{is_marked}
use Rattle.vx_flow.proofs.live_nodes.unmarked.Given as goal

abbrev pub invariant-nodes : goal.invariant-nodes
invariant-nodes l = record { none : (b : ℕ) → is_marked l.row.items b ≡ true → ⊥; len : length l.row.items ≡ l.counter }
