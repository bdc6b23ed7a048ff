use Rattle.std.proofs.Common.{◌≡◌, ◌+◌, ◌++◌, [], refl, subst, arith}
use Rattle.vx_dep.specs.Earlier.{AreEarlier, noted}
use Rattle.vx_dep.proofs.Noting.{none_noted, one_noted, passed}
use Rattle.vx_dep.proofs.earlier.find_earlier.Goals as goal

pub note-init : goal.note-init
note-init c =
    let s = c.args.sight.now in
    let empty : c.clear.new.self.items ≡ [] = c.clear.ensures.items in
    (passed s.machine s.mode s.trace.now c.args.place 0 c.next_near-above.result c.clear.new.self.items (none_noted s.machine s.mode s.trace.now c.args.place 0 c.clear.new.self.items empty refl) c.next_near-above.ensures.none, c.next_near-above.ensures.within)

pub note-preserved : goal.note-preserved
note-preserved c =
    let s = c.args.sight.now in
    let longer : c.note-in-note.new.found.items ≡ c.note.found.items ++ noted c.note.above c.delay-delay.result = c.in_ok-note.ensures in
    let so : AreEarlier s.machine s.mode s.trace.now c.args.place (c.note.above + 1) c.note-in-note.new.found.items = one_noted s.machine s.mode s.trace.now c.args.place c.note.above c.note.found.items c.note-in-note.new.found.items c.delay-delay.result c.note.invariant.0 c.delay-delay.ensures longer in
    (passed s.machine s.mode s.trace.now c.args.place (c.note.above + 1) c.next_near-above-in-note.result c.note-in-note.new.found.items so c.next_near-above-in-note.ensures.none, c.next_near-above-in-note.ensures.within)

pub overflow_add-above : goal.overflow_add-above
overflow_add-above c =
    let small = c.ranges.place.fits in
    let test = c.note-test.true in
    record { fits = omega (arith, small, test) }

pub returns : goal.returns
returns c =
    let s = c.args.sight.now in
    let past = c.note-test.false in
    let most = c.note.invariant.1 in
    let all : c.note.above ≡ c.args.place = omega (arith, past, most) in
    subst (λ k. AreEarlier s.machine s.mode s.trace.now c.args.place k c.note.found.items) all c.note.invariant.0
