use Rattle.std.proofs.Common.{◌∙◌, ap}
use Rattle.vx_flow.specs.Sound.{is_sound_function}
use Rattle.vx_sound.proofs.Turns.{all_not, rest_more, rest_whole}
use Rattle.vx_sound.proofs.sound.are_sound_functions.Goals as goal

pub loop-graph-preserved : goal.loop-graph-preserved
loop-graph-preserved c = rest_more _ c.args.graphs.now c.loop-graph.graph-index _ _ c.loop-graph-test.true c.loop-graph.invariant (c.in_ok-is_sound_one.ensures ∙ ap (is_sound_function c.args.flow.now) c.graph-item.is) c.if-not-branch.false

pub returns-then-not-branch : goal.returns-then-not-branch
returns-then-not-branch c = all_not _ c.args.graphs.now c.loop-graph.graph-index _ _ c.loop-graph-test.true (c.in_ok-is_sound_one.ensures ∙ ap (is_sound_function c.args.flow.now) c.graph-item.is) c.if-not-branch.true

pub returns : goal.returns
returns c = rest_whole _ c.args.graphs.now c.loop-graph.graph-index c.loop-graph-test.false c.loop-graph.invariant
