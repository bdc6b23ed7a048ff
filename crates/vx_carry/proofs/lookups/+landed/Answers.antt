use Rattle.std.proofs.Common.{List, sym, ap}
use Rattle.std.proofs.lemmas.List.{nil_from_length}
use Rattle.vx_slots.specs.Seen.{landed}
use Rattle.vx_slots.specs.declared.program.SplitLanding.{SplitLanding}
use Rattle.vx_carry.proofs.lookups.+landed.Goals as goal

pub returns-in-None : goal.returns-in-None
returns-in-None t c = ap (λ (z : List SplitLanding). landed z c.args.to) (sym (nil_from_length c.args.landings.now c.in-None.ensures.cases))
