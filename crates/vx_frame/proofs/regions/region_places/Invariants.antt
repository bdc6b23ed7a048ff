use Rattle.std.proofs.Common.{◌≡◌, ◌++◌, length}
use Rattle.vx_frame.specs.Regions.{all_traces}
use Rattle.vx_frame.proofs.regions.region_places.Given as goal

abbrev pub invariant-layouts : goal.invariant-layouts
invariant-layouts l = l.regions ++ all_traces l.places l.function l.rest ≡ all_traces l.places 0 l.layouts

abbrev pub decreases-layouts : goal.decreases-layouts
decreases-layouts l = length l.rest
