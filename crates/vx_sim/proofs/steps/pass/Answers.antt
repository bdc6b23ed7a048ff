use Rattle.std.proofs.Common.{◌∙◌, [], List, count_by, map, refl, sym, ap, arith}
use Rattle.vx_isa.specs.declared.operation.Operation.{Operation}
use Rattle.vx_isa.specs.Operations.{is_control}
use Rattle.vx_isa.specs.Machine.{lead_of}
use Rattle.vx_probe.specs.Watch.{shown}
use Rattle.vx_sim.specs.Flying.{flying_of}
use Rattle.vx_sim.specs.Leads.{place_behind}
use Rattle.vx_sim.specs.declared.shape.UnitCounts.{UnitCounts}
use Rattle.vx_sim.specs.Standing.{state_of}
use Rattle.vx_sim.proofs.Naming.{names_at, has_good_addresses, place_below}
use Rattle.vx_sim.proofs.Taking.{took}
use Rattle.vx_sim.proofs.steps.pass.Goals as goal

pub take_effect-requires-clause-touches : goal.take_effect-requires-clause-touches
take_effect-requires-clause-touches g c = ap (λ (counts : UnitCounts). counts.memory) c.requires.counts

pub take_effect-requires-clause-named : goal.take_effect-requires-clause-named
take_effect-requires-clause-named g c = names_at c.args.loaded.now.program.now c.args.now.now.place c.args.word.now c.requires.sound c.requires.word

pub take_effect-requires-clause-good : goal.take_effect-requires-clause-good
take_effect-requires-clause-good g c = has_good_addresses c.args.loaded.now.machine.now c.args.loaded.now.program.now (state_of c.args.now.now []) c.args.word.now.ops c.requires.free

pub returns-clause-took : goal.returns-clause-took
returns-clause-took g c =
    let now = c.args.now.now in
    let b = state_of now [] in
    let timing = (goal.Timing-dyn g (c.args.timing.now.vtable, c.args.timing.now.value)).times c.args.timing.now.value in
    let led = c.lead_of_word-lead.ensures ∙ ap (lead_of b) c.as_slice.ensures in
    let e = c.take_effect.ensures in
    took c.args.loaded.now.machine.now c.args.loaded.now.program.now timing _ b (flying_of c.args.ring.now) c.args.word.now c.lead_of_word-lead.result _ _ _ _ _ c.requires.word c.requires.free led
    (record {
      place = c.place_behind-now.ensures ∙ ap (λ l. place_behind l c.take_effect.new.now.place) led ∙ ap (place_behind (lead_of b c.args.word.now.ops)) e.place;
      cycle = e.cycle;
      registers = e.lands;
      flying = e.flies;
      memory = e.stores;
      input = e.takes;
      out = refl;
      asked = refl;
    })
    e.timing
    (c.show.ensures ∙ ap (λ x. map (λ w. shown w x) (map (λ p. (goal.Probe-dyn g (p.vtable, p.value)).watch p.value) c.args.probes.now.items)) (c.event_of-event.ensures c.args.word.now c.requires.counts led))
    (omega (arith, c.saturating_add.ensures))

pub lead_of_word-lead-requires-clause-control : goal.lead_of_word-lead-requires-clause-control
lead_of_word-lead-requires-clause-control g c = ap (λ (counts : UnitCounts). counts.control) c.requires.counts ∙ ap (λ (ops : List Operation). count_by is_control ops) (sym c.as_slice.ensures)

pub following-next-requires : goal.following-next-requires
following-next-requires g c = place_below c.args.loaded.now.program.now.words c.args.now.now.place c.args.word.now c.requires.word

pub lead_of_word-lead-requires-clause-following : goal.lead_of_word-lead-requires-clause-following
lead_of_word-lead-requires-clause-following g c = c.following-next.ensures

pub take_effect-requires-clause-size : goal.take_effect-requires-clause-size
take_effect-requires-clause-size g c = c.requires.size

pub take_effect-requires-clause-room : goal.take_effect-requires-clause-room
take_effect-requires-clause-room g c = c.requires.room

pub returns-clause-size_stays : goal.returns-clause-size_stays
returns-clause-size_stays g c = c.take_effect.ensures.memory

pub returns-clause-has_room : goal.returns-clause-has_room
returns-clause-has_room g c = c.take_effect.ensures.has_room
