use Rattle.std.proofs.Common.{◌≡◌, Bool, ℤ, ◌*ℤ◌, to_z, of_z, w32, w64, ap, sym, rules, ◌∙◌}
use Rattle.vx_claims.specs.Facts.{fitting, product_if}
use Rattle.vx_claims.proofs.intervals.product_if.Goals as goal

pub returns-then-test : goal.returns-then-test
returns-then-test c =
    let i = c.args.i in
    let j = c.args.j in
    let a : to_z w32 (of_z w32 i.low) ≡ i.low = search rules in
    let b : to_z w32 (of_z w32 j.low) ≡ j.low = search rules in
    let d : to_z w32 (of_z w32 i.high) ≡ i.high = search rules in
    let e : to_z w32 (of_z w32 j.high) ≡ j.high = search rules in
    let x = c.scaled.result in
    let y = c.scaled-then-test.result in
    let g : to_z w64 (of_z w64 x) ≡ x = search rules in
    let h : to_z w64 (of_z w64 y) ≡ y = search rules in
    c.fit.ensures ∙ ap (λ (z : ℤ). fitting z (to_z w64 (of_z w64 y))) g ∙ ap (λ (z : ℤ). fitting x z) h
    ∙ ap (λ (z : ℤ). fitting z y) (c.scaled.ensures ∙ ap (λ (z : ℤ). z *ℤ to_z w32 (of_z w32 j.low)) a ∙ ap (λ (z : ℤ). i.low *ℤ z) b)
    ∙ ap (λ (z : ℤ). fitting (i.low *ℤ j.low) z) (c.scaled-then-test.ensures ∙ ap (λ (z : ℤ). z *ℤ to_z w32 (of_z w32 j.high)) d ∙ ap (λ (z : ℤ). i.high *ℤ z) e)
    ∙ ap (λ (t : Bool). product_if t i j) (sym c.if-test.true)
