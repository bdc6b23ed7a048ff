use Rattle.std.proofs.lemmas.Bool.{ltb-true, ltb-false}
use Rattle.std.proofs.Common.{Option, sym, ◌∙◌}
use Rattle.vx_flow.specs.declared.graph.Array.{Array}
use Rattle.vx_flow.specs.Sound.{is_made_from}
use Rattle.vx_sound.proofs.Found.{found_at, none_at}
use Rattle.vx_sound.proofs.bases.is_made_from.Goals as goal

pub returns-in-Some : goal.returns-in-Some
returns-in-Some c =
    let l = c.in-Some.ensures.lookup in
    c.is_made_of.ensures ∙ found_at (λ (o : Option Array). is_made_from o c.args.from.now) c.args.arrays.now c.args.array c.in-Some.array.now (ltb-true _ _ (sym l.0)) l.1

pub returns-in-None : goal.returns-in-None
returns-in-None c = none_at (λ (o : Option Array). is_made_from o c.args.from.now) c.args.arrays.now c.args.array (ltb-false _ _ (sym c.in-None.ensures.lookup.0))
