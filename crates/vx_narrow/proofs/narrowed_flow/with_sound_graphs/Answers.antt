use Rattle.std.proofs.Common.{◌≡◌, ◌∙◌, sym, true}
use Rattle.vx_flow.specs.Sound.{is_sound_flow}
use Rattle.vx_narrow.proofs.Staged.{once_stays}
use Rattle.vx_narrow.proofs.narrowed_flow.with_sound_graphs.Goals as goal

pub returns-in-Ok-true-clause-flow : goal.returns-in-Ok-true-clause-flow
returns-in-Ok-true-clause-flow c =
    let sound : is_sound_flow c.in_ok-narrowed.narrowed ≡ true = sym c.in-Ok-true.ensures ∙ c.in-Ok-true.field-0-test in
    once_stays c.args.flow.now c.in_ok-narrowed.narrowed c.args.functions c.requires.graphs c.requires.numbers c.in_ok-narrowed.ensures sound
