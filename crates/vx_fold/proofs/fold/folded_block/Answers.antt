use Rattle.std.proofs.Common.{◌∙◌, List, ap, map}
use Rattle.vx_flow.specs.declared.graph.Block.{Block}
use Rattle.vx_flow.specs.declared.graph.Exit.{Exit}
use Rattle.vx_flow.specs.declared.graph.Op.{Op}
use Rattle.vx_fold.specs.Folding.{folded_op, numbers_of}
use Rattle.vx_fold.proofs.fold.folded_block.Goals as goal

abbrev block : List Op → Exit → Block
block ops exit = record { ops = ops; exit = exit }

pub returns : goal.returns
returns c =
    let numbers = numbers_of c.args.numbers.now in
    ap (λ ops. block ops c.in_ok-exit.exit) (c.in_ok-ops.ensures ∙ ap (map (folded_op numbers)) c.as_slice.ensures) ∙ ap (block (map (folded_op numbers) c.args.block.now.ops)) c.in_ok-exit.ensures
