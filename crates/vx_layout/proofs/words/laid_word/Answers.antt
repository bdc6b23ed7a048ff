use Rattle.std.proofs.Common.{◌∙◌, refl, ap}
use Rattle.std.proofs.lemmas.List.{take_all}
use Rattle.vx_mixed.specs.Layout.{laid}
use Rattle.vx_layout.proofs.LayingSteps.{laid_turn, word_stubs_turn}
use Rattle.vx_layout.proofs.words.laid_word.Goals as goal

pub loop-item-preserved : goal.loop-item-preserved
loop-item-preserved c = (
  word_stubs_turn c.args.word.now c.args.first c.loop-item.item-index _ _ _ _ _ c.loop-item-test.true refl c.loop-item.invariant.0 c.stub_length.ensures c.in_ok-place.ensures,
  laid_turn c.args.first c.args.word.now c.loop-item.item-index c.loop-item.place _ _ _ _ _ c.loop-item-test.true refl c.loop-item.invariant.0 c.loop-item.invariant.1 c.laid_item.ensures c.in_ok-push.ensures.ok,
)

pub returns : goal.returns
returns c = c.loop-item.invariant.1 ∙ ap (laid c.args.first) (take_all c.loop-item.item-index c.args.word.now c.loop-item-test.false)
