-- Where the operands of an operation come from, found once for all clusters.
use Rattle.std.specs.Prelude.{◌≡◌, ◌+◌, ℕ, max, map, Option, Some, None, List}
use Rattle.vx_flow.specs.declared.trace.TraceOp.{TraceOp}
use Rattle.vx_flow.specs.declared.trace.Trace.{Trace}
use Rattle.vx_isa.specs.Numbers.{Numbers}
use Rattle.vx_dep.specs.Delays.{reads_of}
use Rattle.vx_dep.specs.Compensation.{greatest}
use Rattle.vx_bug.specs.declared.turns.Source.{Source}
use Rattle.vx_bug.specs.declared.turns.Sources.{Sources}
use Rattle.vx_bug.specs.Clusters.{Books, way_from, available}

-- the cycle from which an operand is there on a cluster
abbrev pub there_on : Numbers → (cluster : ℕ) → Option Source → ℕ
there_on m cluster None = 0
there_on m cluster (Some s) = s.written + way_from m s.home cluster

abbrev pub earliest_on : Numbers → (cluster : ℕ) → Sources → ℕ
earliest_on m cluster s = max (max (there_on m cluster s.first) (there_on m cluster s.second)) (there_on m cluster s.third)

-- on each cluster it tells from which cycle on the values are there
abbrev pub IsSource : Numbers → Trace → Books → (i : ℕ) → TraceOp → (values : List ℕ) → Option Source → Type 0
IsSource m t books i op values s = (cluster : ℕ) → there_on m cluster s ≡ greatest (map (available m t books i op cluster) values)

abbrev pub AreSources : Numbers → Trace → Books → (i : ℕ) → TraceOp → Sources → Type 0
AreSources m t books i op s = (cluster : ℕ) → earliest_on m cluster s ≡ greatest (map (available m t books i op cluster) (reads_of op))
