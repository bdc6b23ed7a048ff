use Rattle.std.proofs.Common.{refl, true}
use Rattle.vx_loops.proofs.Notings.{exit_called, exit_quiet}
use Rattle.vx_loops.proofs.notes.Loops.mark_exit.Goals as goal

pub returns-in-Call-clause-notes : goal.returns-in-Call-clause-notes
returns-in-Call-clause-notes c = λ m w s called h. exit_called m w s called c.write_some.new.self c.args.exit.now c.in-Call.function c.in-Call.arguments c.in-Call.held c.in-Call.next c.in-Call.is (c.write_some.ensures.notes m w s true (c.call.ensures.notes m w s called h))

pub returns-in-Goto-clause-notes : goal.returns-in-Goto-clause-notes
returns-in-Goto-clause-notes c = λ m w s called h. exit_quiet m w s called c.args.self.now c.args.exit.now _ c.in-Goto.is refl refl h

pub returns-in-Split-clause-notes : goal.returns-in-Split-clause-notes
returns-in-Split-clause-notes c = λ m w s called h. exit_quiet m w s called c.args.self.now c.args.exit.now _ c.in-Split.is refl refl h

pub returns-in-Return-clause-notes : goal.returns-in-Return-clause-notes
returns-in-Return-clause-notes c = λ m w s called h. exit_quiet m w s called c.args.self.now c.args.exit.now _ c.in-Return.is refl refl h

pub returns-in-Ends-clause-notes : goal.returns-in-Ends-clause-notes
returns-in-Ends-clause-notes c = λ m w s called h. exit_quiet m w s called c.args.self.now c.args.exit.now _ c.in-Ends.is refl refl h

pub returns-in-Call-clause-tables : goal.returns-in-Call-clause-tables
returns-in-Call-clause-tables c = λ g t. c.write_some.ensures.tables g (c.call.ensures.tables g t)
