use Rattle.std.proofs.Common.{◌<◌, get_or, sym, ap, ◌∙◌, subst}
use Rattle.vx_layout.proofs.LayingSteps.{graph_turn}
use Rattle.vx_layout.proofs.words.graph_words.Goals as goal

pub loop-number-preserved : goal.loop-number-preserved
loop-number-preserved c =
    let x = c.index-as_slice-number.result in
    let i = c.loop-number.number in
    graph_turn c.args.graph.now c.args.places.now i x x c.loop-number.words c.push_region.new.words c.requires (subst (λ z. i < z) c.len-number-end.ensures.len c.loop-number-test.true)
    (sym (c.index-as_slice-number.is ∙ ap (λ z. get_or z i x) c.as_slice.ensures)) c.loop-number.invariant c.in_ok-push_region.ensures
