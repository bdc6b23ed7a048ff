-- Every probe is asked for.
use Rattle.std.proofs.Common.{◌∙◌, sym, ap}
use Rattle.std.specs.Prelude.{option_map}
use Rattle.vx_runs.proofs.Picking.{every_probe}
use Rattle.vx_runs.proofs.boxes.probes_of.Goals as goal

pub returns-then-is_all-clause-picked : goal.returns-then-is_all-clause-picked
returns-then-is_all-clause-picked g c =
    every_probe (λ b. (goal.Probe-dyn g (b.vtable, b.value)).called b.value) (λ b. (goal.Probe-dyn g (b.vtable, b.value)).watch b.value) _ c.in-Some.name.now c.args.probes.items (ap (option_map (λ s. s.now)) c.in-Some.is) (sym c.is_all.ensures ∙ c.if-is_all.true)
