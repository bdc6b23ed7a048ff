use Rattle.std.proofs.Common.{ap}
use Rattle.std.specs.Prelude.{slice_set}
use Rattle.vx_lower.proofs.slots.Slots.set.Goals as goal

pub returns-then-place-len : goal.returns-then-place-len
returns-then-place-len o c = ap (λ items. slice_set items c.args.place c.args.item) c.self.view_is
