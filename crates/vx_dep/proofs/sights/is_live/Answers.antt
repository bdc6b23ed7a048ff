use Rattle.std.proofs.Common.{◌≡◌, ◌∙◌, ◌-◌, None, Some, slice_get, false, ap, sym, ltb-true, ltb-false}
use Rattle.std.proofs.lemmas.List.{get_or_read, get_or_past}
use Rattle.std.proofs.lemmas.Option.{slice_get-get_or, slice_get_past}
use Rattle.vx_dep.specs.Sights.{is_live}
use Rattle.vx_dep.proofs.sights.is_live.Goals as goal

pub returns-in-None-get : goal.returns-in-None-get
returns-in-None-get c =
    let lives = c.args.lives.now in
    let i = c.args.i in
    let j = c.args.j in
    let live = c.in-Some.live.now in
    let l = c.in-Some.ensures.lookup in
    let at : slice_get lives i ≡ Some live = slice_get-get_or lives i live (ltb-true _ _ (sym l.0)) ∙ ap Some (sym l.1) in
    sym (get_or_past c.as_slice.result.now (j - i - 1) false (ltb-false _ _ (sym c.in-None-get.ensures.lookup.0))) ∙ ap (λ row. is_live (Some row) i j) c.as_slice.ensures ∙ ap (λ row. is_live row i j) (sym at)

pub returns-in-Some-get : goal.returns-in-Some-get
returns-in-Some-get c =
    let lives = c.args.lives.now in
    let i = c.args.i in
    let j = c.args.j in
    let live = c.in-Some.live.now in
    let l = c.in-Some.ensures.lookup in
    let m = c.in-Some-get.ensures.lookup in
    let at : slice_get lives i ≡ Some live = slice_get-get_or lives i live (ltb-true _ _ (sym l.0)) ∙ ap Some (sym l.1) in
    get_or_read c.as_slice.result.now (j - i - 1) c.in-Some-get.live.now (ltb-true _ _ (sym m.0)) m.1 false ∙ ap (λ row. is_live (Some row) i j) c.as_slice.ensures ∙ ap (λ row. is_live row i j) (sym at)

pub returns-in-None : goal.returns-in-None
returns-in-None c =
    let none : slice_get c.args.lives.now c.args.i ≡ None = slice_get_past c.args.lives.now c.args.i (ltb-false _ _ (sym c.in-None.ensures.lookup.0)) in
    ap (λ row. is_live row c.args.i c.args.j) (sym none)
