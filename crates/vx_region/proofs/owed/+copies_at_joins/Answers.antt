use Rattle.std.proofs.Common.{◌∷◌, ◌-◌, ◌^◌, ◌∙◌, min, sym, ap}
use Rattle.std.proofs.lemmas.List.{nil_from_length}
use Rattle.vx_region.specs.Growth.{count_joins}
use Rattle.vx_region.proofs.owed.+copies_at_joins.Goals as goal

pub returns-in-None : goal.returns-in-None
returns-in-None n c = ap (λ joins. min (2 ^ 64 - 1) (count_joins joins c.args.rejoins.now)) (sym (nil_from_length c.args.joins.now c.in-None.ensures.cases))

pub returns-in-None-split_first : goal.returns-in-None-split_first
returns-in-None-split_first n c =
    ap (λ rejoins. min (2 ^ 64 - 1) (count_joins (c.in-Some.join.now ∷ c.in-Some.joins_behind.now) rejoins)) (sym (nil_from_length c.args.rejoins.now c.in-None-split_first.ensures.cases))
    ∙ ap (λ joins. min (2 ^ 64 - 1) (count_joins joins c.args.rejoins.now)) (sym c.in-Some.ensures.cases.0)
