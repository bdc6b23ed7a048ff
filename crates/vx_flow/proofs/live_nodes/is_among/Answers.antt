use Rattle.std.proofs.Common.{◌==◌, ap, sym, ◌∙◌}
use Rattle.std.specs.List.{list_any}
use Rattle.std.proofs.lemmas.Bool.{eq-eqb, ne_eqb}
use Rattle.std.proofs.lemmas.List.{take_all}
use Rattle.vx_flow.proofs.Copying.{none_more, one_found}
use Rattle.vx_flow.proofs.live_nodes.is_among.Goals as goal

pub loop-other-preserved : goal.loop-other-preserved
loop-other-preserved c = none_more c.args.node c.args.nodes.now c.loop-other.other-index _ c.loop-other-test.true c.loop-other.invariant (ne_eqb _ _ c.if-other-node.false)

pub returns-then-other-node : goal.returns-then-other-node
returns-then-other-node c = one_found c.args.node c.args.nodes.now c.loop-other.other-index _ c.loop-other-test.true (eq-eqb _ _ c.if-other-node.true)

pub returns : goal.returns
returns c = sym c.loop-other.invariant ∙ ap (list_any (λ u. u == c.args.node)) (take_all c.loop-other.other-index c.args.nodes.now c.loop-other-test.false)
