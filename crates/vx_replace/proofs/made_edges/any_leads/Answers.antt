use Rattle.std.proofs.Common.{◌∙◌, ap, sym}
use Rattle.vx_replace.specs.MadeEdges.{region_leads}
use Rattle.vx_replace.proofs.Looking.{none_more, one_found, none_found}
use Rattle.vx_replace.proofs.made_edges.any_leads.Goals as goal

pub loop-region-preserved : goal.loop-region-preserved
loop-region-preserved c = none_more (region_leads c.args.made.now) c.args.regions.now c.loop-region.region-index c.region-item.result c.loop-region-test.true c.loop-region.invariant (ap (region_leads c.args.made.now) (sym c.region-item.is) ∙ sym c.region_leads.ensures ∙ c.if-region_leads.false)

pub returns-then-region_leads : goal.returns-then-region_leads
returns-then-region_leads c = one_found (region_leads c.args.made.now) c.args.regions.now c.loop-region.region-index c.region-item.result c.loop-region-test.true (ap (region_leads c.args.made.now) (sym c.region-item.is) ∙ sym c.region_leads.ensures ∙ c.if-region_leads.true)

pub returns : goal.returns
returns c = none_found (region_leads c.args.made.now) c.args.regions.now c.loop-region.region-index c.loop-region-test.false c.loop-region.invariant
