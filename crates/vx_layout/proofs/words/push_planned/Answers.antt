use Rattle.std.proofs.Common.{◌+◌, List, length, refl, sym, ap, ◌∙◌}
use Rattle.vx_mixed.specs.declared.region.Item.{Item}
use Rattle.vx_mixed.specs.Layout.{laid, word_stubs}
use Rattle.vx_layout.proofs.LayingSteps.{planned_turn, stubs_turn}
use Rattle.vx_layout.proofs.words.push_planned.Goals as goal

pub loop-number-preserved : goal.loop-number-preserved
loop-number-preserved c =
    let x = c.index-list-number.result in (
      stubs_turn c.args.list.now c.args.first c.loop-number.number c.loop-number.place (length (word_stubs (λ b. 0) x)) _ x x c.loop-number-test.true (sym c.index-list-number.is) c.loop-number.invariant.0 refl (c.in_ok-place.ensures ∙ ap (λ (z : List Item). c.loop-number.place + length (word_stubs (λ b. 0) z)) c.as_slice-in-loop-number.ensures),
      planned_turn c.args.region c.args.first c.args.list.now c.loop-number.number c.loop-number.place x x c.in_ok-items.items _ c.loop-number.words c.push.new.words c.loop-number-test.true (sym c.index-list-number.is) c.loop-number.invariant.0 (c.in_ok-items.ensures ∙ ap (laid c.loop-number.place) c.as_slice.ensures) c.loop-number.invariant.1 c.in_ok-push.ensures,
    )
