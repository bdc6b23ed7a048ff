use Rattle.std.proofs.lemmas.Bool.{ltb-true, ltb-false}
use Rattle.std.proofs.Common.{sym}
use Rattle.vx_sound.specs.Origins.{origin_or_none}
use Rattle.vx_sound.proofs.Found.{found_at, none_at}
use Rattle.vx_sound.proofs.origins.noted.Goals as goal

pub returns-in-Some : goal.returns-in-Some
returns-in-Some c =
    let l = c.in-Some.ensures.lookup in
    found_at origin_or_none c.args.origins.now c.args.value c.in-Some.origin.now (ltb-true _ _ (sym l.0)) l.1

pub returns-in-None : goal.returns-in-None
returns-in-None c = none_at origin_or_none c.args.origins.now c.args.value (ltb-false _ _ (sym c.in-None.ensures.lookup.0))
