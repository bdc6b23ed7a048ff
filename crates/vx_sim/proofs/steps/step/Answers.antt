use Rattle.std.proofs.Common.{◌≡◌, ◌∙◌, [], List, count_by, map, None, refl, sym, ap, subst}
use Rattle.std.specs.List.{flat_map}
use Rattle.vx_io.specs.Outside.{with_bytes, PutsFront}
use Rattle.vx_isa.specs.declared.operation.Operation.{Operation}
use Rattle.vx_isa.specs.declared.operation.UnitKind.TheVariants.{Memory}
use Rattle.vx_isa.specs.Fits.{is_of}
use Rattle.vx_isa.specs.Machine.{print_of, stuck_by}
use Rattle.vx_probe.specs.Times.{list_of}
use Rattle.vx_sim.specs.Flying.{flying_of}
use Rattle.vx_sim.specs.Room.{widest}
use Rattle.vx_sim.specs.Shapes.{shape_of}
use Rattle.vx_sim.specs.declared.shape.Shape.{Shape}
use Rattle.vx_sim.specs.Standing.{state_of}
use Rattle.vx_sim.proofs.Elsewhere.{elsewhere}
use Rattle.vx_sim.proofs.Naming.{item_here, none_here, found, found_below, widest_at}
use Rattle.vx_sim.proofs.Passing.{taken_at}
use Rattle.vx_sim.proofs.Taking.{stepped_as, text_of, takes_it, refused, refused_here, no_fault, not_true}
use Rattle.vx_sim.proofs.steps.step.Goals as goal

pub returns-in-Ok-clause-stepped : goal.returns-in-Ok-clause-stepped
returns-in-Ok-clause-stepped g c =
    let m = c.args.loaded.now.machine.now in
    let w = c.args.loaded.now.program.now in
    let b = state_of c.args.now.now [] in
    let t = (goal.Timing-dyn g (c.args.timing.now.vtable, c.args.timing.now.value)).times c.args.timing.now.value in
    let word = c.in-Some.word.now in
    let l = c.in-Some.ensures.lookup in
    let at = item_here w.words c.as_slice.result.now c.args.now.now.place word c.as_slice.ensures (sym l.0) l.1 in
    let shape_is : c.shape_at-shape.result.now ≡ shape_of m word = found m w.words c.args.now.now.place word c.args.loaded.now.shapes.now.items c.shape_at-shape.result.now c.shape_at-shape.ensures c.requires.tested at in
    let free : stuck_by m w b word.ops ≡ None = sym (c.stuck_by.ensures m shape_is) ∙ c.in_default.is in
    let took = c.pass.ensures.took in
    let earlier = g.K.Sink.told c.args.out.now in
    stepped_as earlier (g.K.Sink.told c.print.new.out) c.pass.result c.ended_by.result c.ended_by.ensures took
    (c.in-Ok.ensures.all ∙ ap (λ (ops : List Operation). with_bytes earlier (flat_map (print_of w b) ops)) c.as_slice-2.ensures
    ∙ ap (with_bytes earlier) (sym (text_of m w (list_of t) b (flying_of c.args.ring.now) t.place word took.word at free took.is)))

pub returns-in-Err-clause-stepped : goal.returns-in-Err-clause-stepped
returns-in-Err-clause-stepped g c =
    let m = c.args.loaded.now.machine.now in
    let w = c.args.loaded.now.program.now in
    let b = state_of c.args.now.now [] in
    let t = (goal.Timing-dyn g (c.args.timing.now.vtable, c.args.timing.now.value)).times c.args.timing.now.value in
    let ws = flying_of c.args.ring.now in
    let word = c.in-Some.word.now in
    let l = c.in-Some.ensures.lookup in
    let at = item_here w.words c.as_slice.result.now c.args.now.now.place word c.as_slice.ensures (sym l.0) l.1 in
    let shape_is : c.shape_at-shape.result.now ≡ shape_of m word = found m w.words c.args.now.now.place word c.args.loaded.now.shapes.now.items c.shape_at-shape.result.now c.shape_at-shape.ensures c.requires.tested at in
    let free : stuck_by m w b word.ops ≡ None = sym (c.stuck_by.ensures m shape_is) ∙ c.in_default.is in
    let it = takes_it m w (list_of t) b ws t.place word at free in
    record {
      stayed = record { state = refl; timing = refl; seen = refl; counts = refl };
      word = taken_at m (list_of t) w (elsewhere b b.cycle ws [] t.place) word;
      is = it;
      front = subst (PutsFront (g.K.Sink.told c.args.out.now) (g.K.Sink.told c.print.new.out))
          (ap (flat_map (print_of w b)) c.as_slice-2.ensures ∙ sym (text_of m w (list_of t) b ws t.place word (taken_at m (list_of t) w (elsewhere b b.cycle ws [] t.place) word) at free it)) c.in-Err.ensures.front;
    }

pub shape_at-shape-requires : goal.shape_at-shape-requires
shape_at-shape-requires g c =
    let w = c.args.loaded.now.program.now in
    let word = c.in-Some.word.now in
    let l = c.in-Some.ensures.lookup in
    let at = item_here w.words c.as_slice.result.now c.args.now.now.place word c.as_slice.ensures (sym l.0) l.1 in
    found_below c.args.loaded.now.machine.now w.words c.args.now.now.place word c.args.loaded.now.shapes.now.items c.requires.tested at

pub pass-requires-clause-counts : goal.pass-requires-clause-counts
pass-requires-clause-counts g c =
    let m = c.args.loaded.now.machine.now in
    let w = c.args.loaded.now.program.now in
    let word = c.in-Some.word.now in
    let l = c.in-Some.ensures.lookup in
    let at = item_here w.words c.as_slice.result.now c.args.now.now.place word c.as_slice.ensures (sym l.0) l.1 in
    let shape_is : c.shape_at-shape.result.now ≡ shape_of m word = found m w.words c.args.now.now.place word c.args.loaded.now.shapes.now.items c.shape_at-shape.result.now c.shape_at-shape.ensures c.requires.tested at in
    ap (λ (s : Shape). s.counts) shape_is

pub stuck_by-requires : goal.stuck_by-requires
stuck_by-requires g c =
    let m = c.args.loaded.now.machine.now in
    let w = c.args.loaded.now.program.now in
    let word = c.in-Some.word.now in
    let l = c.in-Some.ensures.lookup in
    let at = item_here w.words c.as_slice.result.now c.args.now.now.place word c.as_slice.ensures (sym l.0) l.1 in
    let shape_is : c.shape_at-shape.result.now ≡ shape_of m word = found m w.words c.args.now.now.place word c.args.loaded.now.shapes.now.items c.shape_at-shape.result.now c.shape_at-shape.ensures c.requires.tested at in
    ap (λ (s : Shape). s.counts) shape_is

pub print-requires : goal.print-requires
print-requires g c =
    let m = c.args.loaded.now.machine.now in
    let w = c.args.loaded.now.program.now in
    let word = c.in-Some.word.now in
    let l = c.in-Some.ensures.lookup in
    let at = item_here w.words c.as_slice.result.now c.args.now.now.place word c.as_slice.ensures (sym l.0) l.1 in
    let shape_is : c.shape_at-shape.result.now ≡ shape_of m word = found m w.words c.args.now.now.place word c.args.loaded.now.shapes.now.items c.shape_at-shape.result.now c.shape_at-shape.ensures c.requires.tested at in
    ap (λ (s : Shape). s.counts.memory) shape_is ∙ ap (λ (ops : List Operation). count_by (is_of Memory) ops) (sym c.as_slice-2.ensures)

pub pass-requires-clause-room : goal.pass-requires-clause-room
pass-requires-clause-room g c =
    let m = c.args.loaded.now.machine.now in
    let w = c.args.loaded.now.program.now in
    let b = state_of c.args.now.now [] in
    let word = c.in-Some.word.now in
    let l = c.in-Some.ensures.lookup in
    let at = item_here w.words c.as_slice.result.now c.args.now.now.place word c.as_slice.ensures (sym l.0) l.1 in
    let shape_is : c.shape_at-shape.result.now ≡ shape_of m word = found m w.words c.args.now.now.place word c.args.loaded.now.shapes.now.items c.shape_at-shape.result.now c.shape_at-shape.ensures c.requires.tested at in
    let free : stuck_by m w b word.ops ≡ None = sym (c.stuck_by.ensures m shape_is) ∙ c.in_default.is in
    (widest c.args.loaded.now.shapes.now.items, widest_at m w b c.args.now.now.place word c.args.loaded.now.shapes.now.items c.requires.tested at free, c.requires.room)

pub returns-in-Ok-clause-has_room : goal.returns-in-Ok-clause-has_room
returns-in-Ok-clause-has_room g c =
    let m = c.args.loaded.now.machine.now in
    let w = c.args.loaded.now.program.now in
    let b = state_of c.args.now.now [] in
    let word = c.in-Some.word.now in
    let l = c.in-Some.ensures.lookup in
    let at = item_here w.words c.as_slice.result.now c.args.now.now.place word c.as_slice.ensures (sym l.0) l.1 in
    let shape_is : c.shape_at-shape.result.now ≡ shape_of m word = found m w.words c.args.now.now.place word c.args.loaded.now.shapes.now.items c.shape_at-shape.result.now c.shape_at-shape.ensures c.requires.tested at in
    let free : stuck_by m w b word.ops ≡ None = sym (c.stuck_by.ensures m shape_is) ∙ c.in_default.is in
    c.pass.ensures.has_room (widest c.args.loaded.now.shapes.now.items) (widest_at m w b c.args.now.now.place word c.args.loaded.now.shapes.now.items c.requires.tested at free) c.requires.room

pub pass-requires-clause-word : goal.pass-requires-clause-word
pass-requires-clause-word g c =
    let w = c.args.loaded.now.program.now in
    let word = c.in-Some.word.now in
    let l = c.in-Some.ensures.lookup in
    let at = item_here w.words c.as_slice.result.now c.args.now.now.place word c.as_slice.ensures (sym l.0) l.1 in
    at

pub pass-requires-clause-free : goal.pass-requires-clause-free
pass-requires-clause-free g c =
    let m = c.args.loaded.now.machine.now in
    let w = c.args.loaded.now.program.now in
    let b = state_of c.args.now.now [] in
    let word = c.in-Some.word.now in
    let l = c.in-Some.ensures.lookup in
    let at = item_here w.words c.as_slice.result.now c.args.now.now.place word c.as_slice.ensures (sym l.0) l.1 in
    let shape_is : c.shape_at-shape.result.now ≡ shape_of m word = found m w.words c.args.now.now.place word c.args.loaded.now.shapes.now.items c.shape_at-shape.result.now c.shape_at-shape.ensures c.requires.tested at in
    sym (c.stuck_by.ensures m shape_is) ∙ c.in_default.is

pub returns-in-Some-stuck_by-clause-stepped : goal.returns-in-Some-stuck_by-clause-stepped
returns-in-Some-stuck_by-clause-stepped g c =
    let m = c.args.loaded.now.machine.now in
    let w = c.args.loaded.now.program.now in
    let b = state_of c.args.now.now [] in
    let t = (goal.Timing-dyn g (c.args.timing.now.vtable, c.args.timing.now.value)).times c.args.timing.now.value in
    let watches = map (λ p. (goal.Probe-dyn g (p.vtable, p.value)).watch p.value) c.args.probes.now.items in
    let word = c.in-Some.word.now in
    let l = c.in-Some.ensures.lookup in
    let at = item_here w.words c.as_slice.result.now c.args.now.now.place word c.as_slice.ensures (sym l.0) l.1 in
    let shape_is : c.shape_at-shape.result.now ≡ shape_of m word = found m w.words c.args.now.now.place word c.args.loaded.now.shapes.now.items c.shape_at-shape.result.now c.shape_at-shape.ensures c.requires.tested at in
    refused m w t b (flying_of c.args.ring.now) watches c.args.issued.now (g.K.Sink.told c.args.out.now) word c.in-Some-stuck_by.reason at (sym (c.stuck_by.ensures m shape_is) ∙ c.in-Some-stuck_by.is)

pub returns-in-None-clause-stepped : goal.returns-in-None-clause-stepped
returns-in-None-clause-stepped g c =
    let m = c.args.loaded.now.machine.now in
    let w = c.args.loaded.now.program.now in
    let b = state_of c.args.now.now [] in
    let t = (goal.Timing-dyn g (c.args.timing.now.vtable, c.args.timing.now.value)).times c.args.timing.now.value in
    let watches = map (λ p. (goal.Probe-dyn g (p.vtable, p.value)).watch p.value) c.args.probes.now.items in
    refused_here c.args.loaded.now.machine.now w t b (flying_of c.args.ring.now) watches c.args.issued.now (g.K.Sink.told c.args.out.now) (none_here w.words c.as_slice.result.now c.args.now.now.place c.as_slice.ensures (sym c.in-None.ensures.lookup.0))

pub returns-in-Some-stuck_by-clause-failed : goal.returns-in-Some-stuck_by-clause-failed
returns-in-Some-stuck_by-clause-failed g c = not_true

pub returns-in-None-clause-failed : goal.returns-in-None-clause-failed
returns-in-None-clause-failed g c = not_true

pub returns-in-Ok-clause-failed : goal.returns-in-Ok-clause-failed
returns-in-Ok-clause-failed g c = no_fault c.pass.result c.ended_by.result c.ended_by.ensures

pub returns-in-Err-clause-failed : goal.returns-in-Err-clause-failed
returns-in-Err-clause-failed g c = λ e. c.in-Err.ensures.failed

pub returns-in-Ok-clause-faults_never_fall : goal.returns-in-Ok-clause-faults_never_fall
returns-in-Ok-clause-faults_never_fall g c = c.print.ensures.faults_never_fall

pub returns-in-Err-clause-faults_never_fall : goal.returns-in-Err-clause-faults_never_fall
returns-in-Err-clause-faults_never_fall g c = c.print.ensures.faults_never_fall

pub returns-in-Ok-clause-size_stays : goal.returns-in-Ok-clause-size_stays
returns-in-Ok-clause-size_stays g c = c.pass.ensures.size_stays
