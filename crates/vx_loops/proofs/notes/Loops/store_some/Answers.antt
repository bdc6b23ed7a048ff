use Rattle.vx_loops.proofs.Notings.{none_stored, some_stored}
use Rattle.vx_loops.proofs.notes.Loops.store_some.Goals as goal

pub returns-in-Some-clause-notes : goal.returns-in-Some-clause-notes
returns-in-Some-clause-notes c = λ m w s called h. some_stored m w s called c.store.new.self c.args.array c.in-Some.array c.in-Some.is (c.store.ensures.notes m w s called h)

pub returns-in-None-clause-notes : goal.returns-in-None-clause-notes
returns-in-None-clause-notes c = λ m w s called h. none_stored m w s called c.args.self.now c.args.array c.in-None.is h
