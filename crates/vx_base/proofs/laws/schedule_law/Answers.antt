use Rattle.std.proofs.Common.{◌≡◌, true}
use Rattle.vx_base.specs.Schedule.{SameIfKnown, Passes}
use Rattle.vx_base.proofs.Schedule.{at_end}
use Rattle.vx_base.proofs.laws.schedule_law.Goals as goal

pub returns : goal.returns
returns c = λ order words reads writes wanted when end io iw od l p ex want. at_end SameIfKnown order words (Passes reads) (Passes writes) when end (λ k. wanted k ≡ true) io iw od l p ex want
