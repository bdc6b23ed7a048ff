use Rattle.std.proofs.Common.{◌≡◌, ◌≤◌, false, map}
use Rattle.vx_sim.specs.Flying.{flying_of}
use Rattle.vx_sim.specs.Standing.{state_of, standing_at}
use Rattle.vx_sim.proofs.SoFar.{SoFar}
use Rattle.vx_sim.proofs.sim.Sim.run.Given as goal

abbrev pub invariant-words : goal.invariant-words
invariant-words g l =
    let first = (goal.Timing-dyn g (l.fn.timing.vtable, l.fn.timing.value)).times l.fn.timing.value in
    let here = (goal.Timing-dyn g (l.timing.vtable, l.timing.value)).times l.timing.value in
    let told = g.K.Sink.told in
    let faults = g.K.Sink.faults in
    record {
      so_far : SoFar l.self.machine l.self.program l.passed (standing_at l.fn.self.standing (flying_of l.fn.self.ring) first) (state_of l.self.standing (flying_of l.self.ring)) first here
          (map (λ b. (goal.Probe-dyn g (b.vtable, b.value)).watch b.value) l.fn.probes.items) (map (λ b. (goal.Probe-dyn g (b.vtable, b.value)).watch b.value) l.probes.items)
          l.fn.self.issued l.self.issued (told l.fn.out) (told l.out);
      program : l.self.program ≡ l.fn.self.program;
      machine : l.self.machine ≡ l.fn.self.machine;
      ended : l.self.ended ≡ false;
      never_fall : faults l.fn.out ≤ faults l.out;
    }
