-- The first box of the name is the first one of the rest, or the one found so far.
use Rattle.std.proofs.Common.{◌≡◌, length}
use Rattle.std.specs.Prelude.{option_map}
use Rattle.vx_runs.specs.Boxes.{probe_boxes, probe_named}
use Rattle.vx_runs.proofs.Picking.{first_or}
use Rattle.vx_runs.proofs.boxes.probe_of.Given as goal

abbrev pub invariant-boxes : goal.invariant-boxes
invariant-boxes g l =
    first_or (probe_named l.name (probe_boxes (λ b. (goal.Probe-dyn g (b.vtable, b.value)).called b.value) (λ b. (goal.Probe-dyn g (b.vtable, b.value)).watch b.value) l.probes.items))
    (option_map (λ b. (goal.Probe-dyn g (b.vtable, b.value)).watch b.value) l.found)
    ≡ probe_named l.name (probe_boxes (λ b. (goal.Probe-dyn g (b.vtable, b.value)).called b.value) (λ b. (goal.Probe-dyn g (b.vtable, b.value)).watch b.value) l.fn.probes.items)

abbrev pub decreases-boxes : goal.decreases-boxes
decreases-boxes g l = length l.probes.items
