use Rattle.vx_loops.proofs.Notings.{none_written, some_written}
use Rattle.vx_loops.proofs.notes.Loops.write_some.Goals as goal

pub returns-in-Some-clause-notes : goal.returns-in-Some-clause-notes
returns-in-Some-clause-notes c = λ m w s called h. some_written m w s called c.write.new.self c.args.value c.in-Some.value c.in-Some.is (c.write.ensures.notes m w s called h)

pub returns-in-None-clause-notes : goal.returns-in-None-clause-notes
returns-in-None-clause-notes c = λ m w s called h. none_written m w s called c.args.self.now c.args.value c.in-None.is h
