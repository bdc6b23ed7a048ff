-- Where a step leads, and what it is made of.
use Rattle.std.specs.Prelude.{◌≡◌, ℕ, List, ◌++◌, length}
use Rattle.vx_flow.specs.declared.graph.Graph.{Graph}
use Rattle.vx_flow.specs.declared.trace.Homes.{Homes}
use Rattle.vx_flow.specs.declared.trace.Trace.{Trace}
use Rattle.vx_isa.specs.Numbers.{Numbers}
use Rattle.vx_mixed.specs.declared.mixed.MixedGraph.{MixedGraph}
use Rattle.vx_mixed.specs.CanReplace.{CanReplace}
use Rattle.vx_mixed.specs.Next.{next_mixed}
use Rattle.vx_mixed.specs.TraceOf.{IsTraceOf}
use Rattle.vx_mixed.specs.Valid.{Valid}
use Rattle.vx_bug.specs.declared.clusters.Clusters.{Clusters}
use Rattle.vx_bug.specs.Assigned.{Assigned}
use Rattle.vx_sched.specs.Placement.{HaveRoomAlone}
use Rattle.vx_profile.specs.declared.counts.Counts.{Counts}
use Rattle.vx_region.specs.declared.placed_trace.PlacedTrace.{PlacedTrace}
use Rattle.vx_region.specs.declared.step.Next.{Next}
use Rattle.vx_region.specs.declared.step.OnClusters.{OnClusters}
use Rattle.vx_region.specs.declared.step.Step.{Step}
use Rattle.vx_region.specs.declared.step.Step.TheVariants.{Finished, Replaced}
use Rattle.vx_region.specs.declared.trace_plan.TracePlan.{TracePlan}
use Rattle.vx_region.specs.Regions.{IsGraphOf, ReplacesAll, ReplacesOne}

-- a fact of a step that found no block
abbrev pub OnFinished : Step → Type 0 → Type 0
OnFinished Finished P = P
OnFinished (Replaced plan) P = Unit {0}

-- a fact of the plan of one that made a region
abbrev pub OnReplaced : Step → (TracePlan → Type 0) → Type 0
OnReplaced Finished P = Unit {0}
OnReplaced (Replaced plan) P = P plan

-- the trace of these blocks on the clusters that are assigned with the homes so far; each operation has room there by itself
pub record IsOnClusters (machine : Numbers) (m : MixedGraph) (blocks : List ℕ) (x : OnClusters) : Type 0 where
  pub trace : Trace
  pub is_trace : IsTraceOf m blocks trace
  pub clusters : Clusters
  pub assigned : Assigned machine trace m.homes clusters
  pub clustered_is : x.clustered ≡ clusters.clustered
  pub homes_is : x.homes ≡ clusters.homes
  pub each : length x.clustered.clusters ≡ length x.clustered.trace.ops
  pub alone : HaveRoomAlone machine x.homes x.clustered

-- what is made of a placed trace
pub record IsNextBy (function : ℕ) (blocks : List ℕ) (count : ℕ) (homes : Homes) (x : PlacedTrace) (next : Next) : Type 0 where
  pub plan : next.plan ≡ record { function = function; blocks = blocks; count = count; mode = x.mode; placed = x.placed; splits = x.owed.splits; rejoins = x.owed.rejoins }
  pub replacement : next.replacement ≡ record {
    trace = x.placed.clustered.trace;
    clusters = x.placed.clustered.clusters;
    words = x.placed.words;
    length = x.placed.length;
    drains = x.owed.drains;
    last_drain = x.owed.last_drain;
    rejoins = x.owed.starts;
    made = x.owed.made;
    homes = homes;
  }
  pub used : next.used ≡ x.used

-- a step can be made of it
pub record IsNext (machine : Numbers) (counts : Counts) (cap : ℕ) (m : MixedGraph) (used : ℕ) (next : Next) : Type 0 where
  pub can : CanReplace m next.replacement
  pub one : ReplacesOne machine counts cap m used next.plan (next_mixed m next.replacement) next.used

-- from m on these steps were made; what follows from here on follows these from there on
pub record Stepped (machine : Numbers) (counts : Counts) (cap : ℕ) (m : MixedGraph) (used : ℕ) (plans : List TracePlan) (now : MixedGraph) (used_now : ℕ) : Type 0 where
  pub graph : Graph
  pub is : IsGraphOf machine graph now
  pub valid : Valid now
  pub all : (more : List TracePlan) (last : MixedGraph) (used_last : ℕ) → ReplacesAll machine counts cap now used_now more last used_last → ReplacesAll machine counts cap m used (plans ++ more) last used_last
