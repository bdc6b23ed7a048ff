use Rattle.std.proofs.Common.{None, Some, ltb-false, ltb-true, sym}
use Rattle.std.proofs.lemmas.Option.{slice_get_past}
use Rattle.vx_flow.proofs.IndexSteps.{get_some}
use Rattle.vx_loops.proofs.Notings.{found_noted, nothing_more}
use Rattle.std.specs.Prelude.{slice_get}
use Rattle.vx_loops.proofs.notes.Loops.mark_found.Goals as goal

pub returns-in-Some-clause-notes : goal.returns-in-Some-clause-notes
returns-in-Some-clause-notes c = λ m w s called h.
    let l = c.in-Some.ensures.lookup in
    let at = get_some c.args.blocks.now c.args.block c.in-Some.found.now (ltb-true _ _ (sym l.0)) l.1 in
    found_noted m w s called c.mark_block.new.self (slice_get c.args.blocks.now c.args.block) (Some c.in-Some.found.now) at (c.mark_block.ensures.notes m w s called h)

pub returns-in-None-clause-notes : goal.returns-in-None-clause-notes
returns-in-None-clause-notes c = λ m w s called h.
    let at = slice_get_past c.args.blocks.now c.args.block (ltb-false _ _ (sym c.in-None.ensures.lookup.0)) in
    found_noted m w s called c.args.self.now (slice_get c.args.blocks.now c.args.block) None at (nothing_more m w s called c.args.self.now h)
