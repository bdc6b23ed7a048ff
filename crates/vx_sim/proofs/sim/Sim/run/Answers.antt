use Rattle.std.proofs.Common.{refl, arith}
use Rattle.vx_sim.specs.Flying.{flying_of}
use Rattle.vx_sim.specs.Standing.{state_of}
use Rattle.vx_sim.proofs.SoFar.{so_far_none, so_far_more, ran_stopped, ran_ended}
use Rattle.vx_sim.proofs.Taking.{fault_of, not_true}
use Rattle.vx_sim.proofs.Turning.{ring_sorted}
use Rattle.vx_io.proofs.OutsideLaws.{rose_throughout}
use Rattle.vx_sim.proofs.sim.Sim.run.Goals as goal

pub words-init : goal.words-init
words-init g c =
    let t = (goal.Timing-dyn g (c.args.timing.now.vtable, c.args.timing.now.value)).times c.args.timing.now.value in
    record {
      so_far = so_far_none c.args.self.now.machine c.args.self.now.program (state_of c.args.self.now.standing (flying_of c.args.self.now.ring)) t _ _ _ refl refl (ring_sorted c.args.self.now.ring) c.keeps_count.ensures c.keeps_count-2.ensures;
      program = refl;
      machine = refl;
      ended = c.requires;
      never_fall = omega arith;
    }

pub words-preserved : goal.words-preserved
words-preserved g c =
    let h = c.words.invariant in
    record {
      so_far = so_far_more _ _ _ _ _ _ _ _ _ _ _ _ _ h.so_far _ _ _ _ _ c.in_default.ensures.stepped;
      program = h.program;
      machine = h.machine;
      ended = h.ended;
      never_fall = omega (arith, h.never_fall, c.step-ended.ensures.faults_never_fall);
    }

pub returns-in-Some-clause-ran : goal.returns-in-Some-clause-ran
returns-in-Some-clause-ran g c =
    let h = c.words.invariant in
    ran_ended c.args.words c.words.passed c.args.self.now _ c.words.self.machine c.words.self.program h.machine h.program _ _ _ _ _ _ c.words.self.issued _ _ _ (state_of c.words.self.standing (flying_of c.words.self.ring)) h.so_far refl h.program h.machine
    (state_of c.step-ended.new.now (flying_of c.step-ended.new.ring)) c.in-Some.ended c.words-test.true refl c.in-Some.ensures.stepped

pub returns-clause-ran : goal.returns-clause-ran
returns-clause-ran g c =
    let h = c.words.invariant in
    ran_stopped c.args.words c.words.passed c.args.self.now c.words.self c.words.self.machine c.words.self.program h.machine h.program _ _ _ _ _ _ (state_of c.words.self.standing (flying_of c.words.self.ring)) h.so_far
    (omega (arith, c.words-test.false, c.words.auto.passed-end)) refl (record { over = h.ended; same_program = h.program; same_machine = h.machine })

pub returns-in-Some-clause-faults_never_fall : goal.returns-in-Some-clause-faults_never_fall
returns-in-Some-clause-faults_never_fall g c = omega (arith, c.words.invariant.never_fall, c.step-ended.ensures.faults_never_fall)

pub returns-clause-failed : goal.returns-clause-failed
returns-clause-failed g c = not_true

pub returns-clause-faults_never_fall : goal.returns-clause-faults_never_fall
returns-clause-faults_never_fall g c = c.words.invariant.never_fall

pub returns-in-Some-clause-failed : goal.returns-in-Some-clause-failed
returns-in-Some-clause-failed g c = λ e.
    let faults = g.K.Sink.faults in
    rose_throughout (faults c.args.out.now) (faults c.words.out) (faults c.step-ended.new.out) (faults c.step-ended.new.out) c.words.invariant.never_fall c.step-ended.ensures.faults_never_fall (omega arith) (c.in-Some.ensures.failed (fault_of c.in-Some.ended e))
