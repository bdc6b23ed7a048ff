use Rattle.std.proofs.Common.{◌++◌, sym, ap, ◌∙◌}
use Rattle.vx_mixed.specs.Layout.{word_stubs}
use Rattle.vx_layout.specs.Laying.{place_in}
use Rattle.vx_layout.proofs.LayingSteps.{push_stubs_turn}
use Rattle.vx_layout.proofs.words.push_stubs.Goals as goal

pub loop-word-preserved : goal.loop-word-preserved
loop-word-preserved c =
    let x = c.word-item.result in
    let place = place_in c.args.places.now in
    push_stubs_turn place c.args.list.now c.loop-word.word-index x x _ c.loop-word.words c.push_word_stubs.new.words c.loop-word-test.true (sym c.word-item.is) c.loop-word.invariant (c.in_ok-push_word_stubs.ensures ∙ ap (λ z. c.loop-word.words ++ word_stubs place z) c.as_slice.ensures)
