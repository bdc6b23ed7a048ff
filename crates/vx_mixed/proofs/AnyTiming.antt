-- A settled graph whenever writes land.
use Rattle.std.proofs.Common.{◌≡◌, ℕ, Option, Some, None, slice_get, refl}
use Rattle.vx_mixed.specs.declared.region.Region.{Region}
use Rattle.vx_mixed.specs.declared.region.Node.{Node}
use Rattle.vx_mixed.specs.declared.region.Node.TheVariants.{Unused, Enters, Inner}
use Rattle.vx_mixed.specs.Meaning.{early_words, timed_from_start, in_region, node_hop}
use Rattle.vx_mixed.specs.AnyTiming.{AnyTiming, RegionAnyTiming}
use Rattle.vx_mixed.proofs.Timed.{timed_is_early}

pub region_any_timing : RegionAnyTiming
region_any_timing latency g in_time setting times w s = timed_is_early setting times latency g in_time w s

pub any_timing : AnyTiming
any_timing room latency m settled setting times b s = by (slice_get m.nodes b)
  where
    of_region : (r w : ℕ) (o : Option Region) → slice_get m.regions r ≡ o → in_region (timed_from_start setting times latency) w o s ≡ in_region (early_words setting) w o s
    of_region r w None e = refl
    of_region r w (Some g) e = timed_is_early setting times latency g (settled.times r g e) w s

    by : (o : Option Node) → node_hop setting (timed_from_start setting times latency) m b o s ≡ node_hop setting (early_words setting) m b o s
    by None = refl
    by (Some (Unused block)) = refl
    by (Some (Enters r w)) = of_region r w (slice_get m.regions r) refl
    by (Some Inner) = refl
