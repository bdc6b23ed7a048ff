use Rattle.std.proofs.Common.{◌≡◌, ◌∙◌, List, None, slice_get, sym, ap}
use Rattle.std.proofs.lemmas.Bool.{ltb-false}
use Rattle.std.proofs.lemmas.Option.{slice_get_past}
use Rattle.vx_flow.specs.declared.graph.Graph.{Graph}
use Rattle.vx_inline.proofs.Firsts.{passed_none}
use Rattle.vx_inline.proofs.choice.best_with.Goals as goal

pub returns-in-None : goal.returns-in-None
returns-in-None c =
    let asked = c.args.asked.now in
    let none : slice_get asked.flow.now.functions c.args.function ≡ None =
    ap (λ (z : List Graph). slice_get z c.args.function) (sym c.as_slice.ensures) ∙ slice_get_past c.as_slice.result.now c.args.function (ltb-false _ _ (sym c.in-None.ensures.lookup.0)) in
    passed_none asked.flow.now asked.counts.now asked.most c.args.function c.args.best none c.requires.best
