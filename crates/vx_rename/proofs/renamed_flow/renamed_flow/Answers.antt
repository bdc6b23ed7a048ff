use Rattle.std.proofs.Common.{◌≡◌, ◌∙◌, subst, sym, true}
use Rattle.vx_flow.specs.Sound.{is_sound_flow}
use Rattle.vx_shape.specs.Flows.{Each, OrSame}
use Rattle.vx_rename.specs.Renaming.{GraphRenames}
use Rattle.vx_rename.proofs.RenameFlow.{once_renamed}
use Rattle.vx_rename.proofs.RenameWays.{once_keeps}
use Rattle.vx_rename.proofs.renamed_flow.renamed_flow.Goals as goal

pub returns-in-Ok-true-clause-flow : goal.returns-in-Ok-true-clause-flow
returns-in-Ok-true-clause-flow c =
    let graphs = c.in_ok-functions.functions in
    let s : Each (OrSame GraphRenames) c.args.flow.now.functions graphs = subst (λ gs. Each (OrSame GraphRenames) gs graphs) c.as_slice.ensures c.in_ok-functions.ensures in
    let t : is_sound_flow c.in_ok-renamed.renamed ≡ true = sym c.in-Ok-true.ensures ∙ c.in-Ok-true.field-0-test in
    once_renamed c.args.flow.now c.in_ok-renamed.renamed graphs s c.in_ok-renamed.ensures t

pub returns-in-Ok-true-clause-ways : goal.returns-in-Ok-true-clause-ways
returns-in-Ok-true-clause-ways c =
    let graphs = c.in_ok-functions.functions in
    let s : Each (OrSame GraphRenames) c.args.flow.now.functions graphs = subst (λ gs. Each (OrSame GraphRenames) gs graphs) c.as_slice.ensures c.in_ok-functions.ensures in
    once_keeps c.args.flow.now c.in_ok-renamed.renamed graphs s c.in_ok-renamed.ensures
