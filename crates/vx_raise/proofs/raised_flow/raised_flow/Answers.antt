use Rattle.std.proofs.Common.{◌≡◌, ◌∙◌, subst, sym, true}
use Rattle.vx_flow.specs.Sound.{is_sound_flow}
use Rattle.vx_shape.specs.Flows.{Each, OrSame}
use Rattle.vx_raise.specs.Moving.{GraphMoved}
use Rattle.vx_raise.proofs.Moves.{once_moved, once_paths}
use Rattle.vx_raise.proofs.raised_flow.raised_flow.Goals as goal

pub returns-in-Ok-true-clause-flow : goal.returns-in-Ok-true-clause-flow
returns-in-Ok-true-clause-flow c =
    let graphs = c.in_ok-functions.functions in
    let s : Each (OrSame GraphMoved) c.args.flow.now.functions graphs = subst (λ gs. Each (OrSame GraphMoved) gs graphs) c.as_slice.ensures c.in_ok-functions.ensures in
    let t : is_sound_flow c.in_ok-raised.raised ≡ true = sym c.in-Ok-true.ensures ∙ c.in-Ok-true.field-0-test in
    once_moved c.args.flow.now c.in_ok-raised.raised graphs s c.in_ok-raised.ensures t

pub returns-in-Ok-true-clause-paths : goal.returns-in-Ok-true-clause-paths
returns-in-Ok-true-clause-paths c =
    let graphs = c.in_ok-functions.functions in
    let s : Each (OrSame GraphMoved) c.args.flow.now.functions graphs = subst (λ gs. Each (OrSame GraphMoved) gs graphs) c.as_slice.ensures c.in_ok-functions.ensures in
    let t : is_sound_flow c.in_ok-raised.raised ≡ true = sym c.in-Ok-true.ensures ∙ c.in-Ok-true.field-0-test in
    once_paths c.args.flow.now c.in_ok-raised.raised graphs s c.in_ok-raised.ensures t
