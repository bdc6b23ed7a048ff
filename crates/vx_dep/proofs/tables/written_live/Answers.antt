use Rattle.std.proofs.Common.{◌∙◌, ◌∷◌, map, refl, ap, sym}
use Rattle.vx_dep.specs.Traits.{written, has}
use Rattle.vx_dep.proofs.Moved.{moved, all_moved}
use Rattle.vx_dep.proofs.tables.written_live.Goals as goal

pub mark-preserved : goal.mark-preserved
mark-preserved c =
    let all = map (λ op. has (written op) c.args.values.now) in
    moved all (all c.args.ops.now) c.mark.live c.push.new.self c.mark.rest.now c.in-Some.others.now c.writes_one_of.result c.mark.invariant (ap all c.in-Some.ensures.cases.0 ∙ ap (λ x. x ∷ all c.in-Some.others.now) (sym c.writes_one_of.ensures)) c.in_ok-push-in-Some.ensures.ok

pub returns-in-None : goal.returns-in-None
returns-in-None c =
    let all = map (λ op. has (written op) c.args.values.now) in
    all_moved all (all c.args.ops.now) c.mark.live c.mark.rest.now refl c.in-None.ensures.cases c.mark.invariant
