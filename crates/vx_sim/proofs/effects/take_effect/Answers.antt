use Rattle.std.proofs.Common.{◌≡◌, ◌≤◌, ◌+◌, ◌∙◌, ◌++◌, [], List, length, ap, arith}
use Rattle.vx_base.specs.Flight.{landed_in}
use Rattle.vx_isa.specs.declared.operation.Operation.{Operation}
use Rattle.vx_isa.specs.Operations.{same}
use Rattle.vx_isa.specs.Machine.{Write, writes_of, cycles_of}
use Rattle.vx_probe.specs.Times.{list_of}
use Rattle.vx_sim.specs.declared.state.Standing.{Standing}
use Rattle.vx_sim.specs.Flying.{flying_of, by_landing}
use Rattle.vx_sim.specs.Held.{held_by}
use Rattle.vx_sim.specs.Passed.{counted}
use Rattle.vx_sim.specs.Standing.{state_of}
use Rattle.vx_sim.proofs.Sorting.{landed_in_issued, flying_in_issued}
use Rattle.vx_sim.proofs.effects.take_effect.Goals as goal

pub returns-clause-lands : goal.returns-clause-lands
returns-clause-lands g c =
    let here = (goal.Timing-dyn g (c.args.timing.now.vtable, c.args.timing.now.value)).times c.args.timing.now.value in
    let ring = c.args.ring.now in
    let word = c.args.word.now in
    let ws : List Write = flying_of ring ++ writes_of c.args.machine.now (list_of here) c.args.size (state_of c.args.now.now []) here.place word.ops in
    let puts : flying_of c.issue_writes.new.ring ≡ by_landing ws =
    c.issue_writes.ensures.writes ∙ ap (λ (os : List Operation). by_landing (flying_of ring ++ writes_of c.args.machine.now (list_of here) c.args.size (state_of c.args.now.now []) here.place os)) c.as_slice-ops.ensures in
    landed_in_issued c.cycles_of.result (cycles_of word) (held_by c.make_stores.new.now.registers) (held_by c.pass_cycles-now.new.registers) ws (flying_of c.issue_writes.new.ring) c.cycles_of.ensures.exact puts c.pass_cycles-now.ensures.lands
    ∙ ap (λ (now : Standing). landed_in same (cycles_of word) (held_by now.registers) ws) c.make_stores.ensures.rest

pub returns-clause-flies : goal.returns-clause-flies
returns-clause-flies g c =
    let here = (goal.Timing-dyn g (c.args.timing.now.vtable, c.args.timing.now.value)).times c.args.timing.now.value in
    let ring = c.args.ring.now in
    let word = c.args.word.now in
    let ws : List Write = flying_of ring ++ writes_of c.args.machine.now (list_of here) c.args.size (state_of c.args.now.now []) here.place word.ops in
    let puts : flying_of c.issue_writes.new.ring ≡ by_landing ws =
    c.issue_writes.ensures.writes ∙ ap (λ (os : List Operation). by_landing (flying_of ring ++ writes_of c.args.machine.now (list_of here) c.args.size (state_of c.args.now.now []) here.place os)) c.as_slice-ops.ensures in
    flying_in_issued c.cycles_of.result (cycles_of word) ws (flying_of c.issue_writes.new.ring) (flying_of c.pass_cycles-now.new.ring) c.cycles_of.ensures.exact puts c.pass_cycles-now.ensures.flies

pub returns-clause-has_room : goal.returns-clause-has_room
returns-clause-has_room g c = λ widest few room.
    let same_length : length c.as_slice-ops.result.now ≡ length c.args.word.now.ops = ap length c.as_slice-ops.ensures in
    let few' : length c.as_slice-ops.result.now ≤ widest = omega (arith, few, same_length) in
    c.pass_cycles-now.ensures.has_room widest (length c.as_slice-ops.result.now) c.cycles_of.ensures.some few' (c.issue_writes.ensures.has_room widest few' room)

pub issue_writes-requires-clause-room : goal.issue_writes-requires-clause-room
issue_writes-requires-clause-room g c =
    let r = c.requires.room in
    let same_length : length c.as_slice-ops.result.now ≡ length c.args.word.now.ops = ap length c.as_slice-ops.ensures in
    (r.0, (let few = r.1 in omega (arith, few, same_length)), r.2)

pub returns-clause-place : goal.returns-clause-place
returns-clause-place g c = ap (λ (now : Standing). now.place) c.make_stores.ensures.rest

pub returns-clause-cycle : goal.returns-clause-cycle
returns-clause-cycle g c =
    c.pass_cycles-now.ensures.counts ∙ ap (λ (now : Standing). counted (now.cycle + c.cycles_of.result)) c.make_stores.ensures.rest ∙ ap (λ n. counted (c.args.now.now.cycle + n)) c.cycles_of.ensures.exact
