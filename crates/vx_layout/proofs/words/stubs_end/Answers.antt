use Rattle.std.proofs.Common.{◌+◌, List, length, refl, sym, ap, ◌∙◌}
use Rattle.vx_mixed.specs.declared.region.Item.{Item}
use Rattle.vx_mixed.specs.Layout.{word_stubs}
use Rattle.vx_layout.proofs.LayingSteps.{stubs_turn}
use Rattle.vx_layout.proofs.words.stubs_end.Goals as goal

pub loop-word-preserved : goal.loop-word-preserved
loop-word-preserved c =
    let x = c.word-item.result in
    stubs_turn c.args.words.now c.args.first c.loop-word.word-index c.loop-word.place (length (word_stubs (λ b. 0) x)) _ x x c.loop-word-test.true (sym c.word-item.is) c.loop-word.invariant refl (c.in_ok-place.ensures ∙ ap (λ (z : List Item). c.loop-word.place + length (word_stubs (λ b. 0) z)) c.as_slice.ensures)
