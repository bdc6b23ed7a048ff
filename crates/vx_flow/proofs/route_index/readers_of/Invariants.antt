use Rattle.std.proofs.Common.{ℕ, ◌≤◌}
use Rattle.vx_flow.specs.Closing.{mark_at}
use Rattle.vx_flow.proofs.IndexSteps.{ReadBelow}
use Rattle.vx_flow.proofs.route_index.readers_of.Given as goal

abbrev pub invariant-loop-index : goal.invariant-loop-index
invariant-loop-index l = record { found : ReadBelow l.routes l.rows l.index; most : (v : ℕ) → mark_at l.marks.items v ≤ l.index }
