use Rattle.std.proofs.Common.{refl}
use Rattle.vx_layout.proofs.LayingSteps.{word_stubs_turn}
use Rattle.vx_layout.proofs.words.word_stubs_end.Goals as goal

pub loop-item-preserved : goal.loop-item-preserved
loop-item-preserved c = word_stubs_turn c.args.word.now c.args.first c.loop-item.item-index _ _ _ _ _ c.loop-item-test.true refl c.loop-item.invariant c.stub_length.ensures c.in_ok-place.ensures
