use Rattle.std.proofs.Common.{◌≡◌, Bool, ℤ, ◌*ℤ◌, to_z, of_z, w32, w64, ap, sym, rules, ◌∙◌}
use Rattle.vx_claims.specs.Facts.{fitting, times_if}
use Rattle.vx_claims.proofs.intervals.times_if.Goals as goal

pub returns-then-test : goal.returns-then-test
returns-then-test c =
    let i = c.args.i in
    let n = c.args.number in
    let a : to_z w32 (of_z w32 i.low) ≡ i.low = search rules in
    let d : to_z w32 (of_z w32 i.high) ≡ i.high = search rules in
    let m : to_z w32 (of_z w32 n) ≡ n = search rules in
    let x = c.scaled.result in
    let y = c.scaled-then-test.result in
    let g : to_z w64 (of_z w64 x) ≡ x = search rules in
    let h : to_z w64 (of_z w64 y) ≡ y = search rules in
    c.fit.ensures ∙ ap (λ (z : ℤ). fitting z (to_z w64 (of_z w64 y))) g ∙ ap (λ (z : ℤ). fitting x z) h
    ∙ ap (λ (z : ℤ). fitting z y) (c.scaled.ensures ∙ ap (λ (z : ℤ). z *ℤ to_z w32 (of_z w32 n)) a ∙ ap (λ (z : ℤ). i.low *ℤ z) m) ∙ ap (λ (z : ℤ). fitting (i.low *ℤ n) z) (c.scaled-then-test.ensures ∙ ap (λ (z : ℤ). z *ℤ to_z w32 (of_z w32 n)) d ∙ ap (λ (z : ℤ). i.high *ℤ z) m)
    ∙ ap (λ (t : Bool). times_if t i n) (sym c.if-test.true)
