use Rattle.std.proofs.Common.{◌≡◌, ◌∙◌, ◌+◌, Bool, ℕ, false, nat_eq, take, sym, ap}
use Rattle.std.specs.List.{list_any}
use Rattle.std.proofs.lemmas.Bool.{eq-eqb, ne_eqb}
use Rattle.vx_flow.specs.declared.trace.Join.{Join}
use Rattle.vx_bug.proofs.Listing.{none_more, one_passes, none_passes}
use Rattle.vx_bug.proofs.clustered.is_join.Goals as goal

pub returns-then-join-place : goal.returns-then-join-place
returns-then-join-place c =
    let p : Join → Bool = λ join. nat_eq join.place c.args.place in
    one_passes p c.as_slice-join-items.result.now c.loop-join.join-index c.join-item.result c.loop-join-test.true (ap p (sym c.join-item.is) ∙ eq-eqb _ _ c.if-join-place.true) ∙ ap (list_any p) c.as_slice-join-items.ensures

pub loop-join-preserved : goal.loop-join-preserved
loop-join-preserved c =
    let i : ℕ = c.loop-join.join-index in
    let p : Join → Bool = λ join. nat_eq join.place c.args.place in
    let so : list_any p (take i c.as_slice-join-items.result.now) ≡ false = ap (λ zs. list_any p (take i zs)) c.as_slice-join-items.ensures ∙ c.loop-join.invariant in
    ap (λ zs. list_any p (take (i + 1) zs)) (sym c.as_slice-join-items.ensures) ∙ none_more p c.as_slice-join-items.result.now i c.join-item.result c.loop-join-test.true so (ap p (sym c.join-item.is) ∙ ne_eqb _ _ c.if-join-place.false)

pub returns : goal.returns
returns c =
    let i : ℕ = c.loop-join.join-index in
    let p : Join → Bool = λ join. nat_eq join.place c.args.place in
    let so : list_any p (take i c.as_slice-join-items.result.now) ≡ false = ap (λ zs. list_any p (take i zs)) c.as_slice-join-items.ensures ∙ c.loop-join.invariant in
    none_passes p c.as_slice-join-items.result.now i c.loop-join-test.false so ∙ ap (list_any p) c.as_slice-join-items.ensures
