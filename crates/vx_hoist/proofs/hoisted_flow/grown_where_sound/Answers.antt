use Rattle.std.proofs.Common.{◌≡◌, ◌∙◌, subst, sym, true}
use Rattle.vx_flow.specs.Sound.{is_sound_flow}
use Rattle.vx_shape.specs.Flows.{Each, OrSame}
use Rattle.vx_hoist.specs.Growing.{GraphGrows}
use Rattle.vx_hoist.proofs.GrowFlow.{once_grown}
use Rattle.vx_hoist.proofs.hoisted_flow.grown_where_sound.Goals as goal

pub returns-in-Ok-true-clause-flow : goal.returns-in-Ok-true-clause-flow
returns-in-Ok-true-clause-flow c =
    let graphs = c.in_ok-functions.functions in
    let s : Each (OrSame GraphGrows) c.args.flow.now.functions graphs = subst (λ gs. Each (OrSame GraphGrows) gs graphs) c.as_slice.ensures c.in_ok-functions.ensures in
    let t : is_sound_flow c.in_ok-grown.grown ≡ true = sym c.in-Ok-true.ensures ∙ c.in-Ok-true.field-0-test in
    once_grown c.args.flow.now c.in_ok-grown.grown graphs s c.in_ok-grown.ensures t
