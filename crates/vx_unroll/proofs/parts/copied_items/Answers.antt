use Rattle.std.proofs.Common.{ap, ◌∙◌, map}
use Rattle.std.proofs.lemmas.List.{take_all}
use Rattle.vx_ast.specs.View.{item_of}
use Rattle.vx_unroll.proofs.Lists.{same_items}
use Rattle.vx_unroll.proofs.parts.copied_items.Goals as goal

pub returns : goal.returns
returns c = same_items c.loop-item.copy.items c.args.items.now (c.loop-item.invariant ∙ ap (map item_of) (take_all c.loop-item.item-index c.args.items.now c.loop-item-test.false))
