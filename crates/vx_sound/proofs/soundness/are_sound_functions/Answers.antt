use Rattle.std.proofs.Common.{◌∙◌, ap}
use Rattle.vx_flow.specs.Sound.{is_sound_function}
use Rattle.vx_sound.proofs.Turns.{all_more, all_not, all_whole}
use Rattle.vx_sound.proofs.soundness.are_sound_functions.Goals as goal

pub loop-graph-preserved : goal.loop-graph-preserved
loop-graph-preserved c = all_more _ c.args.graphs.now c.loop-graph.graph-index _ c.is_sound_function.result c.loop-graph-test.true c.loop-graph.invariant (c.is_sound_function.ensures ∙ ap (is_sound_function c.args.flow.now) c.graph-item.is) c.if-not-is_sound_function.false

pub returns-then-not-is_sound_function : goal.returns-then-not-is_sound_function
returns-then-not-is_sound_function c = all_not _ c.args.graphs.now c.loop-graph.graph-index _ c.is_sound_function.result c.loop-graph-test.true (c.is_sound_function.ensures ∙ ap (is_sound_function c.args.flow.now) c.graph-item.is) c.if-not-is_sound_function.true

pub returns : goal.returns
returns c = all_whole _ c.args.graphs.now c.loop-graph.graph-index c.loop-graph-test.false c.loop-graph.invariant
