use Rattle.std.proofs.Common.{◌≡◌, ◌∙◌, List, ℕ, None, slice_get, sym, ap}
use Rattle.std.proofs.lemmas.Bool.{ltb-false}
use Rattle.std.proofs.lemmas.Option.{slice_get_past}
use Rattle.vx_inline.proofs.Likely.{not_listed}
use Rattle.vx_inline.proofs.choice.likely_in.Goals as goal

pub returns-in-None : goal.returns-in-None
returns-in-None c =
    let asked = c.args.asked.now in
    let none : slice_get asked.calls.now.items c.args.function ≡ None =
    ap (λ (z : List (List ℕ)). slice_get z c.args.function) (sym c.as_slice.ensures.value) ∙ slice_get_past c.as_slice.result.now c.args.function (ltb-false _ _ (sym c.in-None.ensures.lookup.0)) in
    not_listed asked.flow.now asked.counts.now asked.most c.args.function asked.calls.now.items c.args.best c.requires.calls none
