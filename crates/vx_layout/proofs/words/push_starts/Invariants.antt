use Rattle.std.proofs.Common.{◌≡◌, ◌+◌, map}
use Rattle.vx_flow.specs.Walk.{numbers}
use Rattle.vx_mixed.specs.Layout.{region_place}
use Rattle.vx_layout.proofs.words.push_starts.Given as goal

abbrev pub invariant-loop-region : goal.invariant-loop-region
invariant-loop-region l = (l.start ≡ region_place l.regions l.region-index) × (l.starts.items ≡ map (region_place l.regions) (numbers 0 (l.region-index + 1)))
