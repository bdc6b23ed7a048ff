use Rattle.std.proofs.Common.{◌≡◌, [], sym, ◌∙◌, ap, arith}
use Rattle.std.proofs.lemmas.List.{nil_from_length}
use Rattle.vx_bug.specs.Tasks.{all_done}
use Rattle.vx_bug.proofs.Tasks.{next_turn, one_entered}
use Rattle.vx_bug.proofs.order.visit.Goals as goal

pub returns-in-None-clause-order : goal.returns-in-None-clause-order
returns-in-None-clause-order c =
    let h = c.in-None.ensures.cases in
    let none : c.turns.tasks.items ≡ [] = nil_from_length c.turns.tasks.items (omega arith) in
    sym (ap (λ ts. all_done c.args.trace.now ts c.turns.order) none) ∙ c.turns.invariant.left

pub turns-preserved : goal.turns-preserved
turns-preserved c =
    record {
      left = next_turn c.args.trace.now c.turns.tasks.items c.pop.new.self.items c.turn.new.tasks.items c.in-Some.task c.turns.order c.turn.new.order c.in-Some.ensures.items c.in_ok-turn-in-Some.ensures.done ∙ c.turns.invariant.left;
      marks = c.in_ok-turn-in-Some.ensures.marks;
    }

pub turns-smaller : goal.turns-smaller
turns-smaller c =
    let all = one_entered c.pop.new.self.items c.turns.tasks.items c.in-Some.task c.in-Some.ensures.items in
    let less = c.in_ok-turn-in-Some.ensures.fewer in
    omega (arith, all, less)
