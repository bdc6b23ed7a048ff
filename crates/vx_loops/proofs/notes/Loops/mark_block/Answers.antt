use Rattle.std.proofs.Common.{◌++◌, subst}
use Rattle.std.specs.List.{flat_map}
use Rattle.vx_flow.specs.Effects.{writes}
use Rattle.vx_flow.specs.Sound.{results_of_exit}
use Rattle.vx_loops.specs.Noted.{Notes, stores_of}
use Rattle.std.specs.Prelude.{◌||◌}
use Rattle.vx_loops.specs.Noted.{is_call}
use Rattle.vx_loops.proofs.Notings.{block_parts}
use Rattle.vx_loops.proofs.notes.Loops.mark_block.Goals as goal

pub returns-clause-notes : goal.returns-clause-notes
returns-clause-notes c = λ m w s called h.
    let ops = c.args.block.now.ops in
    let exit = c.args.block.now.exit in
    let first = subst (λ z. Notes m (w ++ flat_map writes z) (s ++ flat_map stores_of z) called c.mark_ops.new.self) c.as_slice.ensures (c.mark_ops.ensures.notes m w s called h) in
    block_parts m w (s ++ flat_map stores_of ops) (called || is_call exit) c.mark_exit.new.self (flat_map writes ops) (results_of_exit exit) (c.mark_exit.ensures.notes m (w ++ flat_map writes ops) (s ++ flat_map stores_of ops) called first)

pub returns-clause-tables : goal.returns-clause-tables
returns-clause-tables c = λ g t. c.mark_exit.ensures.tables g (c.mark_ops.ensures.tables g t)
