-- What the calls of planning give is what is asked of a replacement that keeps the meaning.
use Rattle.std.specs.Prelude.{ℕ, List}
use Rattle.vx_flow.specs.declared.graph.Graph.{Graph}
use Rattle.vx_isa.specs.Numbers.{Numbers}
use Rattle.vx_room.specs.Items.{latency_of_op}
use Rattle.vx_mixed.specs.declared.mixed.MixedGraph.{MixedGraph}
use Rattle.vx_motion.specs.Compensation.{Compensated}
use Rattle.vx_mixed.specs.declared.replacement.Replacement.{Replacement}
use Rattle.vx_motion.specs.Scheduled.{Keeps}
use Rattle.vx_mixed.specs.TraceOf.{CanTrace}
use Rattle.vx_mixed.specs.Valid.{Valid}
use Rattle.vx_dep.specs.declared.mode.Mode.{Mode}
use Rattle.vx_region.specs.Planned.{Planned}
use Rattle.vx_region.specs.Regions.{IsGraphOf}

-- What planning gives is compensated.
abbrev pub PlanLaw : Type 0
PlanLaw =
    (graph : Graph) (m : MixedGraph) (blocks : List ℕ) (machine : Numbers) (mode : Mode) (r : Replacement) → Valid m → CanTrace m blocks → IsGraphOf machine graph m →
    Planned m blocks machine mode r → Compensated (latency_of_op machine) m r

-- So it keeps the meaning.
abbrev pub PlanKeeps : Type 0
PlanKeeps =
    (graph : Graph) (m : MixedGraph) (blocks : List ℕ) (machine : Numbers) (mode : Mode) (r : Replacement) → Valid m → CanTrace m blocks → IsGraphOf machine graph m →
    Planned m blocks machine mode r → Keeps (latency_of_op machine) m r
