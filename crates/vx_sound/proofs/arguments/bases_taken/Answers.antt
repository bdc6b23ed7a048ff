use Rattle.std.proofs.Common.{◌∙◌, ◌∷◌, map, refl, ap, sym}
use Rattle.vx_flow.specs.Sound.{is_given_base}
use Rattle.vx_sound.specs.Origins.{bases_taken}
use Rattle.vx_sound.proofs.Moved.{moved, all_moved}
use Rattle.vx_sound.proofs.arguments.bases_taken.Goals as goal

pub mark-preserved : goal.mark-preserved
mark-preserved c =
    let all = map (is_given_base c.args.graph.now) in
    moved all (bases_taken c.args.graph.now) c.mark.taken c.push.new.self c.mark.rest.now c.in-Some.others.now c.is_given_base.result c.mark.invariant
    (ap all c.in-Some.ensures.cases.0 ∙ ap (λ x. x ∷ all c.in-Some.others.now) (sym c.is_given_base.ensures)) c.in_ok-push-in-Some.ensures.ok

pub returns-in-None : goal.returns-in-None
returns-in-None c =
    let all = map (is_given_base c.args.graph.now) in all_moved all (bases_taken c.args.graph.now) c.mark.taken c.mark.rest.now refl c.in-None.ensures.cases c.mark.invariant
