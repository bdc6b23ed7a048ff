use Rattle.std.proofs.Common.{◌∙◌, ap, sym}
use Rattle.std.specs.List.{list_any}
use Rattle.vx_replace.specs.MadeEdges.{item_leads}
use Rattle.vx_replace.proofs.Looking.{none_more, one_found, none_found}
use Rattle.vx_replace.proofs.made_edges.words_lead.Goals as goal

pub loop-word-preserved : goal.loop-word-preserved
loop-word-preserved c = none_more (list_any (item_leads c.args.made.now)) c.args.words.now c.loop-word.word-index c.word-item.result c.loop-word-test.true c.loop-word.invariant (ap (list_any (item_leads c.args.made.now)) (sym c.word-item.is) ∙ ap (list_any (item_leads c.args.made.now)) (sym c.as_slice.ensures) ∙ sym c.word_leads.ensures ∙ c.if-word_leads.false)

pub returns-then-word_leads : goal.returns-then-word_leads
returns-then-word_leads c = one_found (list_any (item_leads c.args.made.now)) c.args.words.now c.loop-word.word-index c.word-item.result c.loop-word-test.true (ap (list_any (item_leads c.args.made.now)) (sym c.word-item.is) ∙ ap (list_any (item_leads c.args.made.now)) (sym c.as_slice.ensures) ∙ sym c.word_leads.ensures ∙ c.if-word_leads.true)

pub returns : goal.returns
returns c = none_found (list_any (item_leads c.args.made.now)) c.args.words.now c.loop-word.word-index c.loop-word-test.false c.loop-word.invariant
