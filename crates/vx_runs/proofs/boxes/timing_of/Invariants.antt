-- The first box of the name is the first one of the rest, or the one found so far.
use Rattle.std.proofs.Common.{◌≡◌, length}
use Rattle.std.specs.Prelude.{option_map}
use Rattle.vx_runs.specs.Boxes.{timing_boxes, timing_named}
use Rattle.vx_runs.proofs.Picking.{first_or}
use Rattle.vx_runs.proofs.boxes.timing_of.Given as goal

abbrev pub invariant-boxes : goal.invariant-boxes
invariant-boxes g l =
    first_or (timing_named l.name (timing_boxes (λ b. (goal.Timing-dyn g (b.vtable, b.value)).named b.value) (λ b. (goal.Timing-dyn g (b.vtable, b.value)).times b.value) l.timings.items))
    (option_map (λ b. (goal.Timing-dyn g (b.vtable, b.value)).times b.value) l.found)
    ≡ timing_named l.name (timing_boxes (λ b. (goal.Timing-dyn g (b.vtable, b.value)).named b.value) (λ b. (goal.Timing-dyn g (b.vtable, b.value)).times b.value) l.fn.timings.items)

abbrev pub decreases-boxes : goal.decreases-boxes
decreases-boxes g l = length l.timings.items
