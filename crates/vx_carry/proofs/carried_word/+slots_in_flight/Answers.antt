use Rattle.std.proofs.Common.{List, sym, ap}
use Rattle.std.proofs.lemmas.List.{nil_from_length}
use Rattle.vx_mixed.specs.declared.layout.Laid.{Laid}
use Rattle.vx_target.specs.Target.{slots_in_flight}
use Rattle.vx_slots.specs.Seen.{seen}
use Rattle.vx_carry.proofs.carried_word.+slots_in_flight.Goals as goal

pub returns-in-None : goal.returns-in-None
returns-in-None t c = ap (λ (z : List Laid). slots_in_flight (seen c.args.whole.now) c.args.function z) (sym (nil_from_length c.args.items.now c.in-None.ensures.cases))
