-- no mark before this one begins the text
use Rattle.std.proofs.Common.{◌≡◌, drop}
use Rattle.vx_lex.specs.Table.{mark_in, marked}
use Rattle.vx_lex.proofs.mark.mark_in.Given as goal

abbrev pub invariant-loop-entry : goal.invariant-loop-entry
invariant-loop-entry l = mark_in (marked (drop l.entry-index l.table)) l.text ≡ mark_in (marked l.table) l.text
