-- What is read is the text of the program.
use Rattle.vx_reader.proofs.ReadLemmas.{spells_if_read}
use Rattle.vx_reader.proofs.RoundTrip.{only_spelled}
use Rattle.vx_reader.proofs.reader.read.Goals as goal

pub returns-clause-spelled : goal.returns-clause-spelled
returns-clause-spelled c = spells_if_read c.args.bytes.now c.read_text.result c.read_text.ensures.small c.read_text.ensures.exact

pub returns-clause-only : goal.returns-clause-only
returns-clause-only c = λ w x e. only_spelled c.args.bytes.now c.read_text.result c.read_text.ensures.exact w (x.0, e) x.1
