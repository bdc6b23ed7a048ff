-- The last box of those left is taken away.
use Rattle.std.proofs.Common.{true, false, sym, ◌∙◌}
use Rattle.std.specs.Prelude.{option_map}
use Rattle.std.specs.Str.{bytes_eq}
use Rattle.vx_runs.specs.Boxes.{TimingBox}
use Rattle.vx_runs.proofs.Picking.{one_less}
use Rattle.vx_runs.proofs.boxes.timing_of.Goals as goal

pub boxes-preserved-then-timing_is : goal.boxes-preserved-then-timing_is
boxes-preserved-then-timing_is g c =
    one_less (λ b. record { name = (goal.Timing-dyn g (b.vtable, b.value)).named b.value; times = (goal.Timing-dyn g (b.vtable, b.value)).times b.value }) (λ (box : TimingBox). bytes_eq box.name c.args.name.now) (λ (box : TimingBox). box.times) c.boxes.timings.items c.pop.new.self.items c.in-Some.timing
    (option_map (λ b. (goal.Timing-dyn g (b.vtable, b.value)).times b.value) c.boxes.found) _ true c.in-Some.ensures.items (sym c.timing_is.ensures ∙ c.if-timing_is.true) c.boxes.invariant

pub boxes-preserved : goal.boxes-preserved
boxes-preserved g c =
    one_less (λ b. record { name = (goal.Timing-dyn g (b.vtable, b.value)).named b.value; times = (goal.Timing-dyn g (b.vtable, b.value)).times b.value }) (λ (box : TimingBox). bytes_eq box.name c.args.name.now) (λ (box : TimingBox). box.times) c.boxes.timings.items c.pop.new.self.items c.in-Some.timing
    (option_map (λ b. (goal.Timing-dyn g (b.vtable, b.value)).times b.value) c.boxes.found) _ false c.in-Some.ensures.items (sym c.timing_is.ensures ∙ c.if-timing_is.false) c.boxes.invariant
