use Rattle.std.proofs.Common.{ℕ, List, sym, ap}
use Rattle.std.proofs.lemmas.List.{nil_from_length}
use Rattle.vx_target.specs.Target.{scratch}
use Rattle.vx_slots.specs.Seen.{seen}
use Rattle.vx_slots.proofs.registers.+scratch.Goals as goal

pub returns-in-None-clause-exact : goal.returns-in-None-clause-exact
returns-in-None-clause-exact t c = ap (λ (z : List ℕ). scratch (seen c.args.whole.now) c.args.function z c.args.value) (sym (nil_from_length c.args.names.now c.in-None.ensures.cases))
