-- The last box of those left is taken away.
use Rattle.std.proofs.Common.{true, false, sym, ◌∙◌}
use Rattle.std.specs.Prelude.{option_map}
use Rattle.std.specs.Str.{bytes_eq}
use Rattle.vx_runs.specs.Boxes.{ProbeBox}
use Rattle.vx_runs.proofs.Picking.{one_less}
use Rattle.vx_runs.proofs.boxes.probe_of.Goals as goal

pub boxes-preserved-then-probe_is : goal.boxes-preserved-then-probe_is
boxes-preserved-then-probe_is g c =
    one_less (λ b. record { name = (goal.Probe-dyn g (b.vtable, b.value)).called b.value; watch = (goal.Probe-dyn g (b.vtable, b.value)).watch b.value }) (λ (box : ProbeBox). bytes_eq box.name c.args.name.now) (λ (box : ProbeBox). box.watch) c.boxes.probes.items c.pop.new.self.items c.in-Some.probe
    (option_map (λ b. (goal.Probe-dyn g (b.vtable, b.value)).watch b.value) c.boxes.found) _ true c.in-Some.ensures.items (sym c.probe_is.ensures ∙ c.if-probe_is.true) c.boxes.invariant

pub boxes-preserved : goal.boxes-preserved
boxes-preserved g c =
    one_less (λ b. record { name = (goal.Probe-dyn g (b.vtable, b.value)).called b.value; watch = (goal.Probe-dyn g (b.vtable, b.value)).watch b.value }) (λ (box : ProbeBox). bytes_eq box.name c.args.name.now) (λ (box : ProbeBox). box.watch) c.boxes.probes.items c.pop.new.self.items c.in-Some.probe
    (option_map (λ b. (goal.Probe-dyn g (b.vtable, b.value)).watch b.value) c.boxes.found) _ false c.in-Some.ensures.items (sym c.probe_is.ensures ∙ c.if-probe_is.false) c.boxes.invariant
