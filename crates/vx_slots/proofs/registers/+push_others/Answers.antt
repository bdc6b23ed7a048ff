use Rattle.std.proofs.Common.{◌++◌, ◌==◌, ℕ, List, not, append-nil, sym, ap, ◌∙◌}
use Rattle.std.specs.List.{filter}
use Rattle.std.proofs.lemmas.List.{nil_from_length}
use Rattle.vx_slots.proofs.registers.+push_others.Goals as goal

pub returns-in-None : goal.returns-in-None
returns-in-None t c =
    let old = c.args.found.now in
    sym (append-nil old) ∙ ap (λ (z : List ℕ). old ++ filter (λ u. not (u == c.args.but)) z) (sym (nil_from_length c.args.values.now c.in-None.ensures.cases))
