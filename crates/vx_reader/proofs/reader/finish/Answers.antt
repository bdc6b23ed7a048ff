-- What the test says of the stage.
use Rattle.std.proofs.Common.{◌∙◌, sym}
use Rattle.vx_reader.proofs.Taken.{when_false, when_true}
use Rattle.vx_reader.proofs.reader.finish.Goals as goal

pub returns-then-not-is_between : goal.returns-then-not-is_between
returns-then-not-is_between c = when_false _ _ _ (sym c.is_between.ensures ∙ c.if-not-is_between.true)

pub returns : goal.returns
returns c = when_true _ _ _ (sym c.is_between.ensures ∙ c.if-not-is_between.false)
