use Rattle.std.proofs.Common.{ℕ, List, sym, subst}
use Rattle.std.proofs.lemmas.Result.{IfOk-weaker}
use Rattle.vx_check.specs.InFlight.{Marked}
use Rattle.vx_check.proofs.Reaches.{marks_then}
use Rattle.vx_check.proofs.reached.+mark_all.Goals as goal

pub returns-in_ok-mark-in-Some : goal.returns-in_ok-mark-in-Some
returns-in_ok-mark-in-Some t c =
    IfOk-weaker c.mark_all.result (λ x. Marked c.in-Some.rest.now c.mark.new.marks.items c.mark_all.new.marks.items c.mark.new.waiting.items c.mark_all.new.waiting.items)
    (λ x. Marked c.args.places.now c.args.marks.now.items c.mark_all.new.marks.items c.args.waiting.now.items c.mark_all.new.waiting.items)
    (λ x k. subst (λ (l : List ℕ). Marked l c.args.marks.now.items c.mark_all.new.marks.items c.args.waiting.now.items c.mark_all.new.waiting.items) (sym c.in-Some.ensures.cases.0)
    (marks_then c.in-Some.first.now c.in-Some.rest.now c.args.marks.now.items c.mark.new.marks.items c.mark_all.new.marks.items c.args.waiting.now.items c.mark.new.waiting.items c.mark_all.new.waiting.items c.in_ok-mark-in-Some.ensures k))
    c.mark_all.ensures
