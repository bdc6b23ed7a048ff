use Rattle.std.proofs.Common.{◌≡◌, ◌∙◌, subst, sym, true}
use Rattle.vx_flow.specs.Sound.{is_sound_flow}
use Rattle.vx_shape.specs.Flows.{Each, OrSame}
use Rattle.vx_fold.specs.Thinning.{GraphThins}
use Rattle.vx_fold.proofs.ThinFlow.{once_thinned}
use Rattle.vx_fold.proofs.thin.thinned_once.Goals as goal

pub returns-then-branch-clause-flow : goal.returns-then-branch-clause-flow
returns-then-branch-clause-flow c =
    let graphs = c.in_ok-functions.functions in
    let s : Each (OrSame GraphThins) c.args.flow.now.functions graphs = subst (λ gs. Each (OrSame GraphThins) gs graphs) c.as_slice.ensures c.in_ok-functions.ensures in
    let t : is_sound_flow c.in_ok-thinned.thinned ≡ true = sym c.in_ok-is_sound.ensures ∙ c.if-branch.true in
    once_thinned c.args.flow.now c.in_ok-thinned.thinned graphs s c.in_ok-thinned.ensures t
