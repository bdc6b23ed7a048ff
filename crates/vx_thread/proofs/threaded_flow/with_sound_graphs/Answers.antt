use Rattle.std.proofs.Common.{◌≡◌, ◌∙◌, sym, true}
use Rattle.vx_flow.specs.Sound.{is_sound_flow}
use Rattle.vx_thread.proofs.ThreadFlow.{flow_threaded}
use Rattle.vx_thread.proofs.threaded_flow.with_sound_graphs.Goals as goal

pub returns-in-Ok-true-clause-flow : goal.returns-in-Ok-true-clause-flow
returns-in-Ok-true-clause-flow c =
    let sound : is_sound_flow c.in_ok-threaded.threaded ≡ true = sym c.in-Ok-true.ensures ∙ c.in-Ok-true.field-0-test in
    flow_threaded c.args.flow.now c.in_ok-threaded.threaded c.args.functions c.requires.graphs c.requires.numbers c.in_ok-threaded.ensures sound
