use Rattle.std.proofs.Common.{◌≡◌, ◌-◌, ◌+◌, suc, sym, subst, arith, ⊎_elim, eq-zero-or-pos}
use Rattle.vx_sim.specs.Flying.{flying_of}
use Rattle.vx_sim.specs.Held.{held_by}
use Rattle.vx_sim.specs.Room.{HasRoom}
use Rattle.vx_sim.proofs.Flying.{landed_more, flying_more, landed_end}
use Rattle.vx_sim.proofs.flights.pass_cycles.Goals as goal

pub cycles-preserved : goal.cycles-preserved
cycles-preserved c =
    let i = c.cycles.passed in
    let n = c.args.count in
    let e : n - i ≡ suc (n - (i + 1)) = omega (arith, c.cycles-test.true) in
    let h = c.cycles.invariant in
    record {
      counts = omega (arith, c.saturating_add-now.ensures, h.counts);
      lands = landed_more (n - i) (n - (i + 1)) (held_by c.cycles.registers) (held_by c.pass_cycle.new.registers) _ (flying_of c.cycles.ring) (flying_of c.pass_cycle.new.ring) e c.pass_cycle.ensures.lands c.pass_cycle.ensures.flies h.lands;
      flies = flying_more (n - i) (n - (i + 1)) (flying_of c.cycles.ring) (flying_of c.pass_cycle.new.ring) _ e c.pass_cycle.ensures.flies h.flies;
      first = λ none. absurd (omega (arith, none));
      has_room = λ widest here some few room. ⊎_elim
          (λ none. c.pass_cycle.ensures.has_room widest here few (subst (HasRoom widest here) (sym (h.first none)) room))
          (λ more. c.pass_cycle.ensures.has_room widest 0 (omega arith) (h.has_room widest here (omega (arith, more)) few room)) (eq-zero-or-pos i);
    }

pub returns-clause-lands : goal.returns-clause-lands
returns-clause-lands c = landed_end (c.args.count - c.cycles.passed) (held_by c.cycles.registers) _ (flying_of c.cycles.ring) (omega (arith, c.cycles-test.false)) c.cycles.invariant.lands

pub returns-clause-has_room : goal.returns-clause-has_room
returns-clause-has_room c = λ widest here some few room. c.cycles.invariant.has_room widest here (omega (arith, some, c.cycles-test.false, c.cycles.auto.passed-end)) few room
