-- Where nothing moves past a split or a join, nothing is owed.
use Rattle.std.specs.Prelude.{◌≡◌, ℕ, false, Some, List, [], ◌∷◌, ◌++◌, drop, slice_get, slice_index_or}
use Rattle.vx_flow.specs.declared.trace.TraceOp.{TraceOp}
use Rattle.vx_flow.specs.declared.trace.TraceOp.TheVariants.{Plain as TracePlain, Split as TraceSplit}
use Rattle.vx_flow.specs.declared.trace.Homes.{Homes}
use Rattle.vx_flow.specs.declared.trace.Placed.{Placed}
use Rattle.vx_flow.specs.Effects.{IsIn}
use Rattle.vx_isa.specs.Numbers.{Numbers}
use Rattle.vx_mixed.specs.declared.region.Item.TheVariants.{Plain, Split}
use Rattle.vx_mixed.specs.Next.{InWord, placed}
use Rattle.vx_dep.specs.declared.mode.Mode.TheVariants.{Barred}
use Rattle.vx_dep.specs.declared.copies.EdgeCopies.{EdgeCopies}
use Rattle.vx_dep.specs.declared.copies.Rejoin.{Rejoin}
use Rattle.vx_dep.specs.Compensation.{at_splits_of, at_joins_of, is_freed, is_dismissible, may_be_dismissed}
use Rattle.vx_region.specs.Planned.{made_at_splits, made_at_joins}
use Rattle.vx_region.specs.RegionPlans.{IsPlaced}
use Rattle.vx_region.specs.Growth.{copies_of}

-- the items of a trace in its order, each with its word, and each load as it is in the trace
abbrev pub placed_as_is : (ℕ → ℕ → ℕ) → List TraceOp → (clusters words drains : List ℕ) → List InWord
placed_as_is to [] clusters words drains = []
placed_as_is to (op ∷ ops) [] words drains = []
placed_as_is to (op ∷ ops) (c ∷ clusters) [] drains = []
placed_as_is to (TracePlain op ∷ ops) (c ∷ clusters) (w ∷ words) drains = record { word = w; item = Plain op c } ∷ placed_as_is to ops clusters words drains
placed_as_is to (TraceSplit p y e live ∷ ops) (c ∷ clusters) (w ∷ words) drains =
    record { word = w; item = Split p y (record e { to = to e.from e.to }) (slice_index_or drains 0 0) } ∷ placed_as_is to ops clusters words (drop 1 drains)

pub record OwesNothing (p : Placed) : Type 0 where
  -- no copies, no blocks
  pub splits : (x : EdgeCopies) → IsIn x (at_splits_of p) → x.copies ≡ []
  pub joins : (x : Rejoin) → IsIn x (at_joins_of p) → x.copies ≡ []
  pub many : copies_of p ≡ 0
  pub made : made_at_splits p (at_splits_of p) ++ made_at_joins p p.clustered.trace.joins (at_joins_of p) ≡ []
  -- a load may be dismissed where it might be before
  pub freed : (i : ℕ) (op : TraceOp) → slice_get p.clustered.trace.ops i ≡ Some op → is_freed p i ≡ false
  pub loads : (i : ℕ) (op : TraceOp) → slice_get p.clustered.trace.ops i ≡ Some op → may_be_dismissed p i (Some op) ≡ is_dismissible false op
  -- so do the words of the region have it
  pub region : (to : ℕ → ℕ → ℕ) (clusters drains : List ℕ) → placed to p.clustered.trace.ops clusters p.words drains [] ≡ placed_as_is to p.clustered.trace.ops clusters p.words drains

-- laws, each the clause of a public function

-- a trace that is placed in mode Barred, on whatever clusters
abbrev pub BarredOwesNothing : Type 0
BarredOwesNothing = (p : Placed) (machine : Numbers) (homes : Homes) → IsPlaced p.clustered machine homes Barred p → OwesNothing p
