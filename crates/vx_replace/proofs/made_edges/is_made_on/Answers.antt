use Rattle.std.proofs.Common.{◌∙◌, ap, sym}
use Rattle.vx_mixed.specs.declared.region.Made.{Made}
use Rattle.vx_mixed.specs.FromGraph.{same_edge}
use Rattle.vx_replace.proofs.Looking.{none_more, one_found, none_found}
use Rattle.vx_replace.proofs.made_edges.is_made_on.Goals as goal

pub loop-block-preserved : goal.loop-block-preserved
loop-block-preserved c = none_more (λ (x : Made). same_edge x.edge c.args.edge) c.args.made.now c.loop-block.block-index c.block-item.result c.loop-block-test.true c.loop-block.invariant (ap (λ (x : Made). same_edge x.edge c.args.edge) (sym c.block-item.is) ∙ sym c.eq.ensures ∙ c.if-eq.false)

pub returns-then-eq : goal.returns-then-eq
returns-then-eq c = one_found (λ (x : Made). same_edge x.edge c.args.edge) c.args.made.now c.loop-block.block-index c.block-item.result c.loop-block-test.true (ap (λ (x : Made). same_edge x.edge c.args.edge) (sym c.block-item.is) ∙ sym c.eq.ensures ∙ c.if-eq.true)

pub returns : goal.returns
returns c = none_found (λ (x : Made). same_edge x.edge c.args.edge) c.args.made.now c.loop-block.block-index c.loop-block-test.false c.loop-block.invariant
