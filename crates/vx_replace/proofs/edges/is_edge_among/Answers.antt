use Rattle.std.proofs.Common.{◌∙◌, sym}
use Rattle.vx_mixed.specs.FromGraph.{same_edge}
use Rattle.vx_replace.proofs.Looking.{none_more, one_found, none_found}
use Rattle.vx_replace.proofs.edges.is_edge_among.Goals as goal

pub loop-other-preserved : goal.loop-other-preserved
loop-other-preserved c = none_more (λ other. same_edge other c.args.edge) c.args.edges.now c.loop-other.other-index _ c.loop-other-test.true c.loop-other.invariant (sym c.eq.ensures ∙ c.if-eq.false)

pub returns-then-eq : goal.returns-then-eq
returns-then-eq c = one_found (λ other. same_edge other c.args.edge) c.args.edges.now c.loop-other.other-index _ c.loop-other-test.true (sym c.eq.ensures ∙ c.if-eq.true)

pub returns : goal.returns
returns c = none_found (λ other. same_edge other c.args.edge) c.args.edges.now c.loop-other.other-index c.loop-other-test.false c.loop-other.invariant
