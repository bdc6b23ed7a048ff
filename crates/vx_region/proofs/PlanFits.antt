-- What is kept of the calls of planning is what a step asks.
use Rattle.std.proofs.Common.{◌≡◌, ℕ, Result, Ok, Err, IfOk, sym, ap, subst}
use Rattle.vx_flow.specs.declared.trace.Trace.{Trace}
use Rattle.vx_flow.specs.declared.trace.Clustered.{Clustered}
use Rattle.vx_flow.specs.declared.trace.Placed.{Placed}
use Rattle.vx_flow.specs.declared.trace.Homes.{Homes}
use Rattle.vx_isa.specs.Numbers.{Numbers}
use Rattle.vx_mixed.specs.declared.mixed.MixedGraph.{MixedGraph}
use Rattle.vx_dep.specs.declared.mode.Mode.{Mode}
use Rattle.vx_dep.specs.declared.deps.Deps.{Deps}
use Rattle.vx_dep.specs.Deps.{IsDeps, height_in}
use Rattle.vx_dep.specs.Compensation.{at_splits_of, at_joins_of}
use Rattle.vx_sched.specs.Placement.{PlacedBy, length_of, mode_in, AreDeps}
use Rattle.vx_mixed.specs.declared.replacement.Replacement.{Replacement}
use Rattle.vx_profile.specs.declared.counts.Counts.{Counts}
use Rattle.vx_region.specs.declared.owed.Owed.{Owed}
use Rattle.vx_region.specs.declared.trace_plan.TracePlan.{TracePlan}
use Rattle.vx_region.specs.Planned.{placed_in, replacement_of, Planned}
use Rattle.vx_region.specs.Owed.{IsOwed}
use Rattle.vx_region.specs.RegionPlans.{IsPlaced}
use Rattle.vx_region.specs.Regions.{ReplacesOne, replacement_by}

pub own_mode : (m : Numbers) (mode : Mode) (t : Trace) (deps : Deps) → IsDeps m mode t deps → AreDeps m t deps
own_mode m mode t deps d = subst (λ z. IsDeps m z t deps) (sym d.mode_is) d

pub is_placed : (m : Numbers) (homes : Homes) (mode : Mode) (c : Clustered) (deps : Deps) (p : Placed) → IsDeps m mode c.trace deps → PlacedBy c m homes (mode_in deps) (height_in deps) p.words → p.length ≡ length_of p.words → p.clustered ≡ c → IsPlaced c m homes mode p
is_placed m homes mode c deps p d by length clustered = record {
  height = height_in deps;
  heights = d.heights;
  words = subst (λ z. PlacedBy c m homes z (height_in deps) p.words) d.mode_is by;
  length_is = length;
  clustered = clustered;
}

-- where words were made
pub placed_where_made : {E : Type 0} (m : Numbers) (homes : Homes) (mode : Mode) (c : Clustered) (deps : Deps) (r : Result Placed E) → IsDeps m mode c.trace deps → IfOk r (λ p. PlacedBy c m homes (mode_in deps) (height_in deps) p.words) → IfOk r (λ p. p.length ≡ length_of p.words) → IfOk r (λ p. p.clustered ≡ c) →
    IfOk r (IsPlaced c m homes mode)
placed_where_made m homes mode c deps (Ok p) d by length clustered = is_placed m homes mode c deps p d by length clustered
placed_where_made m homes mode c deps (Err e) d by length clustered = tt

placed_is : (c : Clustered) (p : Placed) → p.clustered ≡ c → p.length ≡ length_of p.words → p ≡ placed_in c p.words
placed_is c p e l = λ i. record { clustered = e i; words = p.words; length = l i }

abbrev pub made_by : Homes → Placed → Owed → Replacement
made_by homes p owed = record {
  trace = p.clustered.trace;
  clusters = p.clustered.clusters;
  words = p.words;
  length = p.length;
  drains = owed.drains;
  last_drain = owed.last_drain;
  rejoins = owed.starts;
  made = owed.made;
  homes = homes;
}

-- what is kept of a placed trace makes what takes its place
pub replaced_by : (machine : Numbers) (homes : Homes) (p : Placed) (owed : Owed) → IsOwed machine p owed → made_by homes p owed ≡ replacement_by machine homes p
replaced_by machine homes p owed x = λ i. record {
  trace = p.clustered.trace;
  clusters = p.clustered.clusters;
  words = p.words;
  length = p.length;
  drains = x.drains i;
  last_drain = x.last_drain i;
  rejoins = x.starts i;
  made = x.made i;
  homes = homes;
}

-- a step takes what planning gives
pub planned_by : (machine : Numbers) (counts : Counts) (cap used used' : ℕ) (m m' : MixedGraph) (plan : TracePlan) → (x : ReplacesOne machine counts cap m used plan m' used') → Planned m plan.blocks machine plan.mode (replacement_by machine x.clusters.homes plan.placed)
planned_by machine counts cap used used' m m' plan x =
    let p = plan.placed in
    let same : p ≡ placed_in x.clusters.clustered p.words = placed_is x.clusters.clustered p x.placed.clustered x.placed.length_is in
    record {
      is_a_machine = x.is_a_machine;
      trace = x.trace;
      is_trace = x.is_trace;
      clusters = x.clusters;
      assigned = x.assigned;
      words = p.words;
      height = x.placed.height;
      heights = x.placed.heights;
      placed = x.placed.words;
      splits = at_splits_of p;
      at_splits = ap at_splits_of same;
      rejoins = at_joins_of p;
      at_joins = ap at_joins_of same;
      replacement = ap (λ q. replacement_of machine x.clusters.homes q (at_splits_of p) (at_joins_of p)) same;
    }
