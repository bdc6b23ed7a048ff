use Rattle.std.proofs.Common.{◌∙◌}
use Rattle.std.proofs.lemmas.List.{take_all}
use Rattle.vx_flow.proofs.Copying.{copied_more}
use Rattle.vx_frame.proofs.program_words.copied_texts.Goals as goal

-- one text more
pub loop-text-preserved : goal.loop-text-preserved
loop-text-preserved c = copied_more c.args.texts.now c.loop-text.copies c.push.new.self _ _ c.loop-text.text-index c.loop-text-test.true c.loop-text.invariant c.in_ok-push.ensures.ok (c.in_ok-copied.ensures ∙ c.as_slice.ensures ∙ c.text-item.is)

-- no text is left
pub returns : goal.returns
returns c = c.loop-text.invariant ∙ take_all c.loop-text.text-index c.args.texts.now c.loop-text-test.false
