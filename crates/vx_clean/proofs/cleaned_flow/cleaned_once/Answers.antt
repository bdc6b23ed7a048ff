use Rattle.std.proofs.Common.{◌≡◌, ◌∙◌, subst, sym, true}
use Rattle.vx_flow.specs.Sound.{is_sound_flow}
use Rattle.vx_shape.specs.Flows.{Each, OrSame}
use Rattle.vx_clean.specs.Staying.{GraphStays}
use Rattle.vx_clean.proofs.Stays.{once_stays}
use Rattle.vx_clean.proofs.cleaned_flow.cleaned_once.Goals as goal

pub returns-then-branch-clause-flow : goal.returns-then-branch-clause-flow
returns-then-branch-clause-flow c =
    let graphs = c.in_ok-functions.functions in
    let s : Each (OrSame GraphStays) c.args.flow.now.functions graphs = subst (λ gs. Each (OrSame GraphStays) gs graphs) c.as_slice.ensures c.in_ok-functions.ensures in
    let t : is_sound_flow c.in_ok-cleaned.cleaned ≡ true = sym c.in_ok-is_sound.ensures ∙ c.if-branch.true in
    once_stays c.args.flow.now c.in_ok-cleaned.cleaned graphs s c.in_ok-cleaned.ensures t
