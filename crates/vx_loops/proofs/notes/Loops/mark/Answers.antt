use Rattle.std.proofs.Common.{[], ◌∷◌, ◌++◌}
use Rattle.vx_loops.specs.Noted.{calls_in, stores_in, writes_in}
use Rattle.vx_loops.proofs.Notings.{block_noted}
use Rattle.vx_loops.proofs.notes.Loops.mark.Goals as goal

pub returns-then-not-is_inside-clause-notes : goal.returns-then-not-is_inside-clause-notes
returns-then-not-is_inside-clause-notes c = λ members h.
    let blocks = c.args.blocks.now in
    let w = writes_in blocks members in
    let s = stores_in blocks members in
    let called = calls_in blocks members in
    block_noted blocks members c.args.block c.mark_found.new.self (c.mark_found.ensures.notes (members ++ c.args.block ∷ []) w s called (c.put_member.ensures.notes members w s called h))

pub returns-then-not-is_inside-clause-tables : goal.returns-then-not-is_inside-clause-tables
returns-then-not-is_inside-clause-tables c = λ g t. c.mark_found.ensures.tables g (c.put_member.ensures.tables g t)
