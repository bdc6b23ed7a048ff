use Rattle.std.proofs.lemmas.Bool.{ltb-true, ltb-false}
use Rattle.std.proofs.Common.{Bool, List, sym, ap, ◌∙◌}
use Rattle.vx_sound.specs.Origins.{hands_shown, takes_shown}
use Rattle.vx_sound.proofs.Found.{found_at, none_at}
use Rattle.vx_sound.proofs.arguments.takes_shown.Goals as goal

pub returns-in-Some : goal.returns-in-Some
returns-in-Some c =
    let l = c.in-Some.ensures.lookup in
    c.hands_shown.ensures ∙ ap (λ (z : List Bool). hands_shown c.args.origins.now c.args.arguments.now z) c.as_slice.ensures
    ∙ found_at (takes_shown c.args.origins.now c.args.arguments.now) c.args.taken.now c.args.function c.in-Some.bases.now (ltb-true _ _ (sym l.0)) l.1

pub returns-in-None : goal.returns-in-None
returns-in-None c = none_at (takes_shown c.args.origins.now c.args.arguments.now) c.args.taken.now c.args.function (ltb-false _ _ (sym c.in-None.ensures.lookup.0))
