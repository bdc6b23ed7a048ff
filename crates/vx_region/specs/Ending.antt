-- The steps by which traces become regions come to an end.
use Rattle.std.specs.Prelude.{◌≡◌, ◌<◌, ◌≤◌, ◌+◌, ◌-◌, ◌*◌, ℕ, List, [], ◌∷◌, length}
use Rattle.vx_flow.specs.declared.trace.Homes.{Homes}
use Rattle.vx_flow.specs.declared.trace.Placed.{Placed}
use Rattle.vx_isa.specs.Numbers.{Numbers}
use Rattle.vx_mixed.specs.declared.region.Node.{Node}
use Rattle.vx_mixed.specs.declared.region.Node.TheVariants.{Unused, Enters, Inner}
use Rattle.vx_mixed.specs.declared.mixed.MixedGraph.{MixedGraph}
use Rattle.vx_mixed.specs.declared.replacement.Replacement.{Replacement}
use Rattle.vx_mixed.specs.Layout.{IsDone}
use Rattle.vx_mixed.specs.Next.{next_mixed}
use Rattle.vx_mixed.specs.TraceOf.{CanTrace}
use Rattle.vx_dep.specs.declared.mode.Mode.{Mode}
use Rattle.vx_flow.specs.declared.graph.Graph.{Graph}
use Rattle.vx_mixed.specs.Valid.{Valid}
use Rattle.vx_profile.specs.declared.counts.Counts.{Counts}
use Rattle.vx_region.specs.declared.trace_plan.TracePlan.{TracePlan}
use Rattle.vx_region.specs.RegionPlans.{IsPlaced}
use Rattle.vx_region.specs.Regions.{IsGraphOf, ReplacesOne}
use Rattle.vx_region.specs.Growth.{copies_of, HasMode}

-- how many blocks are in no region

abbrev pub is_unused : Node → ℕ
is_unused (Unused block) = 1
is_unused (Enters r w) = 0
is_unused Inner = 0

abbrev pub unused_in : List Node → ℕ
unused_in [] = 0
unused_in (node ∷ nodes) = is_unused node + unused_in nodes

-- A step: a trace, on whatever clusters, is placed in the mode of the rule and becomes a region, and no more blocks are made
-- than there are copies; these are added to those so far.
pub record Grows (machine : Numbers) (cap : ℕ) (m : MixedGraph) (used : ℕ) (m' : MixedGraph) (used' : ℕ) : Type 0 where
  pub placed : Placed
  pub homes : Homes
  pub mode : Mode
  pub has_mode : HasMode placed.clustered machine homes cap used mode
  pub is_placed : IsPlaced placed.clustered machine homes mode placed
  pub replacement : Replacement
  pub can : CanTrace m replacement.trace.blocks
  pub made : length replacement.made ≤ copies_of placed
  pub next : m' ≡ next_mixed m replacement
  pub rises : used' ≡ used + copies_of placed

-- steps one after the other, so many
pub data GrowsOn (machine : Numbers) (cap : ℕ) : ℕ → MixedGraph → ℕ → MixedGraph → ℕ → Type 0 where
  none : {m : MixedGraph} {used : ℕ} → GrowsOn machine cap 0 m used m used
  one_more : {n used used' used'' : ℕ} {m m' m'' : MixedGraph} → Grows machine cap m used m' used' → GrowsOn machine cap n m' used' m'' used'' → GrowsOn machine cap (n + 1) m used m'' used''

-- laws, each the clause of a public function

-- a trace takes its first block, at least, out of those in no region
abbrev pub BlocksAreUsed : Type 0
BlocksAreUsed = (m : MixedGraph) (r : Replacement) → CanTrace m r.trace.blocks → unused_in (next_mixed m r).nodes < unused_in m.nodes + length r.made

-- exactly its blocks, and the made ones come besides
abbrev pub BlocksAreCounted : Type 0
BlocksAreCounted = (m : MixedGraph) (r : Replacement) → CanTrace m r.trace.blocks → unused_in (next_mixed m r).nodes + length r.trace.blocks ≡ unused_in m.nodes + length r.made

-- a step by a plan is one
abbrev pub PlansGrow : Type 0
PlansGrow =
    (machine : Numbers) (counts : Counts) (cap used used' : ℕ) (graph : Graph) (m m' : MixedGraph) (plan : TracePlan) → Valid m → IsGraphOf machine graph m → ReplacesOne machine counts cap m used plan m' used' → Grows machine cap m used m' used'

-- the measures fall
abbrev pub MeasureFalls : Type 0
MeasureFalls =
    (machine : Numbers) (cap used used' : ℕ) (m m' : MixedGraph) → Grows machine cap m used m' used' →
    (unused_in m'.nodes + (cap - used') < unused_in m.nodes + (cap - used)) × (unused_in m'.nodes + 2 * (cap - used') < unused_in m.nodes + 2 * (cap - used))

-- what was within the cap stays there
abbrev pub CapIsKept : Type 0
CapIsKept = (machine : Numbers) (cap used used' : ℕ) (m m' : MixedGraph) → Grows machine cap m used m' used' → used ≤ cap → used' ≤ cap

-- there are at most so many steps
abbrev pub StepsEnd : Type 0
StepsEnd = (machine : Numbers) (cap n used used' : ℕ) (m m' : MixedGraph) → GrowsOn machine cap n m used m' used' → n + unused_in m'.nodes + (cap - used') ≤ unused_in m.nodes + (cap - used)

-- after so many no block is left
abbrev pub EnoughSteps : Type 0
EnoughSteps = (machine : Numbers) (cap n used used' : ℕ) (m m' : MixedGraph) → GrowsOn machine cap n m used m' used' → unused_in m.nodes + (cap - used) ≤ n → IsDone m'

-- each step makes a region, and the graph has as many blocks more as there were copies, at most
abbrev pub NodesKeepWithin : Type 0
NodesKeepWithin =
    (machine : Numbers) (cap n used used' : ℕ) (m m' : MixedGraph) → GrowsOn machine cap n m used m' used' →
    (length m'.nodes + used ≤ length m.nodes + used') × (length m'.regions ≡ length m.regions + n)
