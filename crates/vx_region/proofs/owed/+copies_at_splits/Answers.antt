use Rattle.std.proofs.Common.{◌-◌, ◌^◌, min, sym, ap}
use Rattle.std.proofs.lemmas.List.{nil_from_length}
use Rattle.vx_region.specs.Growth.{count_splits}
use Rattle.vx_region.proofs.owed.+copies_at_splits.Goals as goal

pub returns-in-None : goal.returns-in-None
returns-in-None n c = ap (λ splits. min (2 ^ 64 - 1) (count_splits splits)) (sym (nil_from_length c.args.splits.now c.in-None.ensures.cases))
