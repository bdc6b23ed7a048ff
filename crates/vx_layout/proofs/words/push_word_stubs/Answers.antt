use Rattle.std.proofs.Common.{refl}
use Rattle.vx_layout.specs.Laying.{place_in}
use Rattle.vx_layout.proofs.LayingSteps.{push_word_stubs_turn}
use Rattle.vx_layout.proofs.words.push_word_stubs.Goals as goal

pub loop-item-preserved : goal.loop-item-preserved
loop-item-preserved c = push_word_stubs_turn (place_in c.args.places.now) c.args.word.now c.loop-item.item-index _ _ _ _ _ c.loop-item-test.true refl c.loop-item.invariant c.in_ok-push_stub.ensures
