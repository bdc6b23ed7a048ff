use Rattle.std.proofs.lemmas.Bool.{ltb-true, ltb-false}
use Rattle.std.proofs.Common.{ℕ, Option, sym}
use Rattle.vx_sound.proofs.Found.{found_at, none_at}
use Rattle.vx_sound.proofs.witnesses.value_at.Goals as goal

pub returns-in-Some : goal.returns-in-Some
returns-in-Some c =
    let l = c.in-Some.ensures.lookup in
    found_at (λ (o : Option ℕ). o) c.args.values.now c.args.place c.in-Some.value.now (ltb-true _ _ (sym l.0)) l.1

pub returns-in-None : goal.returns-in-None
returns-in-None c = none_at (λ (o : Option ℕ). o) c.args.values.now c.args.place (ltb-false _ _ (sym c.in-None.ensures.lookup.0))
