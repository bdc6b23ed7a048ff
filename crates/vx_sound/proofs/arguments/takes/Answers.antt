use Rattle.std.proofs.lemmas.Bool.{ltb-true, ltb-false}
use Rattle.std.proofs.Common.{List, ℕ, sym, ap, ◌∙◌}
use Rattle.vx_flow.specs.Sound.{hands_over, takes}
use Rattle.vx_sound.proofs.Found.{found_at, none_at}
use Rattle.vx_sound.proofs.arguments.takes.Goals as goal

pub returns-in-Some : goal.returns-in-Some
returns-in-Some c =
    let l = c.in-Some.ensures.lookup in
    c.hands_over.ensures ∙ ap (λ (z : List ℕ). hands_over c.args.graph.now c.in-Some.called.now c.args.arguments.now z) c.as_slice.ensures
    ∙ found_at (takes c.args.graph.now c.args.arguments.now) c.args.functions.now c.args.function c.in-Some.called.now (ltb-true _ _ (sym l.0)) l.1

pub returns-in-None : goal.returns-in-None
returns-in-None c = none_at (takes c.args.graph.now c.args.arguments.now) c.args.functions.now c.args.function (ltb-false _ _ (sym c.in-None.ensures.lookup.0))
