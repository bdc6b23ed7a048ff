use Rattle.std.proofs.Common.{◌∙◌, ◌++◌, List, sym}
use Rattle.std.proofs.lemmas.List.{append-nil, at_drop_all}
use Rattle.vx_flow.specs.declared.graph.Block.{Block}
use Rattle.vx_inline.specs.Placing.{place_behind, places_from}
use Rattle.vx_inline.proofs.Placing.{placed_where_told}
use Rattle.vx_inline.proofs.places.places_of.Goals as goal

pub returns : goal.returns
returns c =
    let blocks = c.args.blocks.now in
    let i = c.loop-block.block-index in
    let next = c.loop-block.next in
    let listed = c.loop-block.places.items in
    λ b. placed_where_told c.args.first c.args.traps c.args.kinds.now blocks (record { blocks = c.loop-block.places; beyond = next })
    (sym (append-nil listed) ∙ sym (at_drop_all (λ (z : List Block). listed ++ places_from next c.args.traps c.args.kinds.now z) blocks i c.loop-block-test.false) ∙ c.loop-block.invariant.told)
    (sym (at_drop_all (λ (z : List Block). place_behind next z) blocks i c.loop-block-test.false) ∙ c.loop-block.invariant.beyond) b
