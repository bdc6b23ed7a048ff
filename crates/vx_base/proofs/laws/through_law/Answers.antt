use Rattle.vx_base.specs.Schedule.{Passes}
use Rattle.vx_base.proofs.Leaving.{ordered_through, exactly_through}
use Rattle.vx_base.proofs.laws.through_law.Goals as goal

pub returns : goal.returns
returns c = λ reads writes word n r w e d few late le. (ordered_through (Passes reads) (Passes writes) word n r w e d few late, (λ l live. exactly_through (Passes reads) (Passes writes) word n r w e d few late l le live))
