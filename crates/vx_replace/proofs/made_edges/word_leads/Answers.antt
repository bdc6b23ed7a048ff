use Rattle.std.proofs.Common.{◌∙◌, sym}
use Rattle.vx_replace.specs.MadeEdges.{item_leads}
use Rattle.vx_replace.proofs.Looking.{none_more, one_found, none_found}
use Rattle.vx_replace.proofs.made_edges.word_leads.Goals as goal

pub loop-item-preserved : goal.loop-item-preserved
loop-item-preserved c = none_more (item_leads c.args.made.now) c.args.word.now c.loop-item.item-index _ c.loop-item-test.true c.loop-item.invariant (sym c.item_leads.ensures ∙ c.if-item_leads.false)

pub returns-then-item_leads : goal.returns-then-item_leads
returns-then-item_leads c = one_found (item_leads c.args.made.now) c.args.word.now c.loop-item.item-index _ c.loop-item-test.true (sym c.item_leads.ensures ∙ c.if-item_leads.true)

pub returns : goal.returns
returns c = none_found (item_leads c.args.made.now) c.args.word.now c.loop-item.item-index c.loop-item-test.false c.loop-item.invariant
