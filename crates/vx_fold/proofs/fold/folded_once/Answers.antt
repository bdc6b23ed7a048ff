use Rattle.std.proofs.Common.{◌≡◌, ◌∙◌, subst, sym, true}
use Rattle.vx_flow.specs.Sound.{is_sound_flow}
use Rattle.vx_shape.specs.Flows.{Each, OrSame}
use Rattle.vx_fold.specs.Folding.{GraphFolds}
use Rattle.vx_fold.proofs.FoldFlow.{once_folded}
use Rattle.vx_fold.proofs.fold.folded_once.Goals as goal

pub returns-then-branch-clause-flow : goal.returns-then-branch-clause-flow
returns-then-branch-clause-flow c =
    let graphs = c.in_ok-functions.functions in
    let s : Each (OrSame GraphFolds) c.args.flow.now.functions graphs = subst (λ gs. Each (OrSame GraphFolds) gs graphs) c.as_slice.ensures c.in_ok-functions.ensures in
    let t : is_sound_flow c.in_ok-folded.folded ≡ true = sym c.in_ok-is_sound.ensures ∙ c.if-branch.true in
    once_folded c.args.flow.now c.in_ok-folded.folded graphs s c.in_ok-folded.ensures t
