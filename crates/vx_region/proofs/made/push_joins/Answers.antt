use Rattle.std.proofs.Common.{◌∷◌, ◌++◌, ◌∙◌, ap}
use Rattle.std.proofs.lemmas.List.{nil_from_length}
use Rattle.vx_region.specs.Planned.{made_at_joins}
use Rattle.vx_region.proofs.Fronts.{no_more, piece_more}
use Rattle.vx_region.proofs.made.push_joins.Goals as goal

pub joins-init : goal.joins-init
joins-init c = ap (λ joins. c.args.made.now ++ made_at_joins c.args.placed.now joins c.args.rejoins.now) c.as_slice-joins_left.ensures

pub returns-in-None-split_first : goal.returns-in-None-split_first
returns-in-None-split_first c =
    let p = c.args.placed.now in
    no_more c.joins.made _ _
    (ap (λ js. made_at_joins p js c.joins.rejoins_left.now) c.in-Some.ensures.cases.0
    ∙ ap (made_at_joins p (c.in-Some.join.now ∷ c.in-Some.joins_behind.now)) (nil_from_length c.joins.rejoins_left.now c.in-None-split_first.ensures.cases)) c.joins.invariant

pub joins-preserved : goal.joins-preserved
joins-preserved c =
    let p = c.args.placed.now in
    piece_more c.joins.made c.push_join.new.made _ (made_at_joins p c.in-Some.joins_behind.now c.in-Some-split_first.rejoins_behind.now) _ _ c.in_ok-push_join-in-Some-split_first.ensures
    (ap (λ js. made_at_joins p js c.joins.rejoins_left.now) c.in-Some.ensures.cases.0
    ∙ ap (made_at_joins p (c.in-Some.join.now ∷ c.in-Some.joins_behind.now)) c.in-Some-split_first.ensures.cases.0) c.joins.invariant

pub returns-in-None : goal.returns-in-None
returns-in-None c = no_more c.joins.made _ _ (ap (λ joins. made_at_joins c.args.placed.now joins c.joins.rejoins_left.now) (nil_from_length c.joins.joins_left.now c.in-None.ensures.cases)) c.joins.invariant
