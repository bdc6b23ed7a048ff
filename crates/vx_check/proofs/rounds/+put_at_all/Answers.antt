use Rattle.std.proofs.Common.{ℕ, List, sym, subst}
use Rattle.std.proofs.lemmas.Result.{IfOk-weaker}
use Rattle.vx_check.specs.InFlight.{JoinsAt}
use Rattle.vx_check.proofs.Passing.{joins_at_then}
use Rattle.vx_check.proofs.rounds.+put_at_all.Goals as goal

pub returns-in_ok-put_at-in-Some : goal.returns-in_ok-put_at-in-Some
returns-in_ok-put_at-in-Some t c =
    IfOk-weaker c.put_at_all.result (λ x. JoinsAt c.in-Some.rest.now c.args.out.now c.put_at.new.rows.items c.put_at_all.new.rows.items)
    (λ x. JoinsAt c.args.places.now c.args.out.now c.args.rows.now.items c.put_at_all.new.rows.items)
    (λ x k. subst (λ (l : List ℕ). JoinsAt l c.args.out.now c.args.rows.now.items c.put_at_all.new.rows.items) (sym c.in-Some.ensures.cases.0)
    (joins_at_then c.in-Some.first.now c.in-Some.rest.now c.args.out.now c.args.rows.now.items c.put_at.new.rows.items c.put_at_all.new.rows.items c.in_ok-put_at-in-Some.ensures k))
    c.put_at_all.ensures
