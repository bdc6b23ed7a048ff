-- Edges that get blocks of their own, one exit at a time.
use Rattle.std.specs.Prelude.{◌==◌, ℕ, Bool, nat_lt, if◌then◌else◌, List, [], length, map}
use Rattle.std.specs.List.{filter}
use Rattle.vx_flow.specs.declared.graph.Exit.TheVariants.{Goto}
use Rattle.vx_flow.specs.declared.graph.Block.{Block}
use Rattle.vx_flow.specs.declared.graph.Edge.{Edge}
use Rattle.vx_flow.specs.Walk.{ascending, edge}
use Rattle.vx_inline.specs.Inlined.{behind, edge_block, entries}

-- two blocks or more lead to block c
abbrev pub is_entered_twice : List Block → ℕ → Bool
is_entered_twice blocks c = nat_lt 1 (entries blocks c)

-- the edges from block b to those of these blocks
abbrev pub crossing : List Block → (b : ℕ) → List ℕ → List Edge
crossing blocks b cs = map (edge b) (filter (λ c. nat_lt 1 (entries blocks c)) cs)

abbrev pub split_sides : ℕ → ℕ → List ℕ
split_sides c d = if c == d then [] else ascending c d

-- where the edge from block b to block c leads
abbrev pub over_block : (place : ℕ) → List Edge → (b c : ℕ) → ℕ
over_block place es b c = edge_block b c place es (behind place (length es) c)

-- the block of an edge
abbrev pub over_edge : (place count : ℕ) → Edge → Block
over_edge place count e = record { ops = []; exit = Goto (behind place count e.to) }
