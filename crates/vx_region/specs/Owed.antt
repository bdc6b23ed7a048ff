-- What a placed trace owes, as it is kept.
use Rattle.std.specs.Prelude.{◌≡◌, ◌++◌, ◌+◌, ◌-◌, ◌^◌, ℕ, List, min, map}
use Rattle.vx_flow.specs.declared.trace.Clustered.{Clustered}
use Rattle.vx_flow.specs.declared.trace.Homes.{Homes}
use Rattle.vx_flow.specs.declared.trace.Placed.{Placed}
use Rattle.vx_isa.specs.Numbers.{Numbers}
use Rattle.vx_dep.specs.declared.copies.EdgeCopies.{EdgeCopies}
use Rattle.vx_dep.specs.declared.copies.Rejoin.{Rejoin}
use Rattle.vx_dep.specs.Compensation.{word_at, drain_at, at_splits_of, at_joins_of}
use Rattle.vx_region.specs.declared.owed.Owed.{Owed}
use Rattle.vx_region.specs.declared.placed_trace.PlacedTrace.{PlacedTrace}
use Rattle.vx_region.specs.Growth.{HasMode, copies_of}
use Rattle.vx_region.specs.Planned.{made_at_splits, made_at_joins}
use Rattle.vx_region.specs.RegionPlans.{IsPlaced}

-- copies at splits, with the empty cycles behind each
abbrev pub with_drains : Numbers → Placed → List EdgeCopies → List EdgeCopies
with_drains machine p splits = map (λ (x : EdgeCopies). record x { drain = drain_at machine p (word_at p.words x.split + 1) }) splits

pub record IsOwed (machine : Numbers) (p : Placed) (owed : Owed) : Type 0 where
  pub splits : owed.splits ≡ with_drains machine p (at_splits_of p)
  pub rejoins : owed.rejoins ≡ at_joins_of p
  pub drains : owed.drains ≡ map (λ (x : EdgeCopies). drain_at machine p (word_at p.words x.split + 1)) (at_splits_of p)
  pub last_drain : owed.last_drain ≡ drain_at machine p p.length
  pub starts : owed.starts ≡ map (λ (x : Rejoin). x.word) (at_joins_of p)
  pub made : owed.made ≡ made_at_splits p (at_splits_of p) ++ made_at_joins p p.clustered.trace.joins (at_joins_of p)
  pub copies : owed.copies ≡ min (2 ^ 64 - 1) (copies_of p)

-- a trace that is placed in the mode that the cap gives, what it owes, and the copies with its own
pub record IsPlacedWithin (c : Clustered) (machine : Numbers) (homes : Homes) (cap used : ℕ) (x : PlacedTrace) : Type 0 where
  pub mode : HasMode c machine homes cap used x.mode
  pub placed : IsPlaced c machine homes x.mode x.placed
  pub owed : IsOwed machine x.placed x.owed
  pub rises : x.used ≡ used + copies_of x.placed
