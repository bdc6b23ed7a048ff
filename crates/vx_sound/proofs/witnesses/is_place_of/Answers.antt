use Rattle.std.proofs.lemmas.Bool.{ltb-true, ltb-false}
use Rattle.std.proofs.Common.{sym, ◌∙◌}
use Rattle.vx_sound.specs.Origins.{is_place_of}
use Rattle.vx_sound.proofs.Found.{found_at, none_at}
use Rattle.vx_sound.proofs.witnesses.is_place_of.Goals as goal

pub returns-in-Some : goal.returns-in-Some
returns-in-Some c =
    let l = c.in-Some.ensures.lookup in
    c.is_place_in.ensures ∙ found_at (is_place_of c.args.value c.args.array) c.args.ops.now c.args.op c.in-Some.found.now (ltb-true _ _ (sym l.0)) l.1

pub returns-in-None : goal.returns-in-None
returns-in-None c = none_at (is_place_of c.args.value c.args.array) c.args.ops.now c.args.op (ltb-false _ _ (sym c.in-None.ensures.lookup.0))
