use Rattle.std.proofs.Common.{ℕ, List, [], ◌∷◌, true, slice_set, sym, subst, arith}
use Rattle.vx_check.specs.InFlight.{Marked}
use Rattle.vx_check.proofs.Reaches.{marks_new}
use Rattle.vx_check.proofs.reached.mark.Goals as goal

pub returns-in_ok-push : goal.returns-in_ok-push
returns-in_ok-push c =
    subst (λ (l : List ℕ). Marked (c.args.place ∷ []) c.args.marks.now.items (slice_set c.args.marks.now.items c.args.place true) c.args.waiting.now.items l) (sym c.in_ok-push.ensures.items)
    (marks_new c.args.place c.args.marks.now.items c.args.waiting.now.items (let lt = c.if-place-len.true in let e = c.len.ensures in omega arith) (cc))
