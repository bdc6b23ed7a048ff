use Rattle.std.proofs.Common.{◌∙◌, ◌∷◌, map, refl, ap, sym}
use Rattle.vx_sound.specs.Origins.{bases_taken}
use Rattle.vx_sound.proofs.Moved.{moved, all_moved}
use Rattle.vx_sound.proofs.arguments.all_taken.Goals as goal

pub take-preserved : goal.take-preserved
take-preserved c =
    let all = map bases_taken in
    moved all (all c.args.functions.now) c.take.taken c.push.new.self c.take.rest.now c.in-Some.others.now c.in_ok-bases_taken-in-Some.field-0 c.take.invariant
    (ap all c.in-Some.ensures.cases.0 ∙ ap (λ x. x ∷ all c.in-Some.others.now) (sym c.in_ok-bases_taken-in-Some.ensures)) c.in_ok-push-in-Some.ensures.ok

pub returns-in-None : goal.returns-in-None
returns-in-None c =
    let all = map bases_taken in all_moved all (all c.args.functions.now) c.take.taken c.take.rest.now refl c.in-None.ensures.cases c.take.invariant
