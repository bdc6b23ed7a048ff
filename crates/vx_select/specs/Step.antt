-- One step of converting diamonds.
use Rattle.std.specs.Prelude.{◌<◌, ℕ, Option, Some, None, length}
use Rattle.vx_flow.specs.declared.graph.Graph.{Graph}
use Rattle.vx_select.specs.Selected.{Selects}

-- a graph with fewer blocks, from which on the rest is done; or none, where nothing is left to do
abbrev pub Step : ℕ → Graph → Option Graph → Type 0
Step most g None = Selects most g g
Step most g (Some h) = ((k : Graph) → Selects most h k → Selects most g k) × (length h.blocks < length g.blocks)
