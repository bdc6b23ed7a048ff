use Rattle.std.proofs.lemmas.Bool.{ltb-true, ltb-false}
use Rattle.std.proofs.Common.{◌==◌, sym, ap, ◌∙◌}
use Rattle.vx_flow.specs.Sound.{has_parameters}
use Rattle.vx_sound.proofs.Found.{found_at, none_at}
use Rattle.vx_sound.proofs.program_names.has_parameters.Goals as goal

pub returns-in-Some : goal.returns-in-Some
returns-in-Some c =
    let l = c.in-Some.ensures.lookup in
    ap (λ n. n == c.args.count) c.len.ensures.len ∙ found_at (has_parameters c.args.count) c.args.functions.now c.args.function c.in-Some.graph.now (ltb-true _ _ (sym l.0)) l.1

pub returns-in-None : goal.returns-in-None
returns-in-None c = none_at (has_parameters c.args.count) c.args.functions.now c.args.function (ltb-false _ _ (sym c.in-None.ensures.lookup.0))
