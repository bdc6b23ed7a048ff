use Rattle.std.proofs.Common.{[]}
use Rattle.vx_loops.proofs.Notings.{looks}
use Rattle.vx_loops.proofs.Orders.{none_from}
use Rattle.vx_loops.proofs.loops.entries_at.Goals as goal

pub returns-then-len-eq0-clause-looks : goal.returns-then-len-eq0-clause-looks
returns-then-len-eq0-clause-looks c = λ few. looks c.args.blocks.now [] c.begin.new.self (c.begin.ensures.notes few)

pub returns-then-branch-clause-looks : goal.returns-then-branch-clause-looks
returns-then-branch-clause-looks c = c.in_ok-gather.ensures.looks

pub returns-then-branch-clause-tables : goal.returns-then-branch-clause-tables
returns-then-branch-clause-tables c = c.in_ok-gather.ensures.tables

pub returns-then-branch-clause-number : goal.returns-then-branch-clause-number
returns-then-branch-clause-number c = c.in_ok-gather.ensures.number

pub returns-else-branch-clause-sources : goal.returns-else-branch-clause-sources
returns-else-branch-clause-sources c = none_from _ _ c.new.ensures.items

pub returns-else-branch-clause-looks : goal.returns-else-branch-clause-looks
returns-else-branch-clause-looks c = c.in_ok-gather.ensures.looks

pub returns-else-branch-clause-tables : goal.returns-else-branch-clause-tables
returns-else-branch-clause-tables c = c.in_ok-gather.ensures.tables

pub returns-else-branch-clause-number : goal.returns-else-branch-clause-number
returns-else-branch-clause-number c = c.in_ok-gather.ensures.number
