use Rattle.std.proofs.Common.{◌∙◌, ◌∷◌, refl, ap, sym}
use Rattle.vx_dep.specs.Tables.{lives_from, lives_of}
use Rattle.vx_dep.proofs.Moved.{moved, all_moved}
use Rattle.vx_dep.proofs.tables.lives.Goals as goal

pub leave-preserved : goal.leave-preserved
leave-preserved c =
    moved lives_from (lives_of c.args.trace.now) c.leave.lives c.push.new.self c.leave.rest.now c.in-Some.behind.now c.in_ok-live_behind-in-Some.field-0 c.leave.invariant
    (ap lives_from c.in-Some.ensures.cases.0 ∙ ap (λ x. x ∷ lives_from c.in-Some.behind.now) (sym c.in_ok-live_behind-in-Some.ensures)) c.in_ok-push-in-Some.ensures.ok

pub returns-in-None : goal.returns-in-None
returns-in-None c = all_moved lives_from (lives_of c.args.trace.now) c.leave.lives c.leave.rest.now refl c.in-None.ensures.cases c.leave.invariant
