use Rattle.std.proofs.Common.{◌≡◌, ◌++◌, ℕ, List, drop}
use Rattle.vx_flow.specs.declared.graph.Edge.{Edge}
use Rattle.vx_replace.specs.TraceLists.{Entering}
use Rattle.vx_mixed.specs.TraceOf.{joins_behind}
use Rattle.vx_replace.proofs.joins.joins_behind.Given as goal

abbrev pub invariant-loop-index : goal.invariant-loop-index
invariant-loop-index l =
    (live : ℕ → List ℕ) (edges : List Edge) → Entering edges l.blocks l.entering →
    l.joins ++ joins_behind l.graph live edges l.before l.place (drop l.index l.blocks) ≡ joins_behind l.graph live edges l.first l.above l.blocks
