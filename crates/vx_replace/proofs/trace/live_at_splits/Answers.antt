use Rattle.std.proofs.Common.{◌∙◌, sym}
use Rattle.std.proofs.lemmas.Result.{IfOk-weaker}
use Rattle.vx_mixed.specs.Routes.{live_values}
use Rattle.vx_replace.proofs.TraceLives.{none_live, split_live}
use Rattle.vx_replace.proofs.trace.live_at_splits.Goals as goal

pub returns-then-has_split : goal.returns-then-has_split
returns-then-has_split c = IfOk-weaker c.live_at_blocks.result _ _ (λ live at. split_live c.args.graph.now c.requires.valid c.args.blocks.now c.requires.can (live_values live) at) c.live_at_blocks.ensures

pub returns : goal.returns
returns c = none_live c.args.graph.now (live_values c.nowhere.result) c.args.blocks.now (sym c.has_split.ensures ∙ c.if-has_split.false)
