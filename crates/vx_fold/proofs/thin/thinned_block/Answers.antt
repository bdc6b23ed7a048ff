use Rattle.std.proofs.Common.{◌∙◌, List, ap}
use Rattle.vx_flow.specs.declared.graph.Block.{Block}
use Rattle.vx_flow.specs.declared.graph.Exit.{Exit}
use Rattle.vx_flow.specs.declared.graph.Op.{Op}
use Rattle.vx_fold.specs.Thinning.{thinned_ops, unread_of}
use Rattle.vx_fold.proofs.thin.thinned_block.Goals as goal

abbrev block : List Op → Exit → Block
block ops exit = record { ops = ops; exit = exit }

pub returns : goal.returns
returns c =
    let unread = unread_of c.args.needed.now in
    ap (λ ops. block ops c.in_ok-exit.exit) (c.in_ok-ops.ensures ∙ ap (thinned_ops unread) c.as_slice.ensures) ∙ ap (block (thinned_ops unread c.args.block.now.ops)) c.in_ok-exit.ensures
