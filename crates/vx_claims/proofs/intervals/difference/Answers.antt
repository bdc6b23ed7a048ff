use Rattle.std.proofs.Common.{◌≡◌, ℤ, ◌-ℤ◌, to_z, of_z, w32, w64, ap, rules, ◌∙◌}
use Rattle.vx_claims.specs.Facts.{fitting}
use Rattle.vx_claims.proofs.intervals.difference.Goals as goal

pub returns : goal.returns
returns c =
    let i = c.args.i in
    let j = c.args.j in
    let a : to_z w32 (of_z w32 i.low) ≡ i.low = search rules in
    let b : to_z w32 (of_z w32 j.low) ≡ j.low = search rules in
    let d : to_z w32 (of_z w32 i.high) ≡ i.high = search rules in
    let e : to_z w32 (of_z w32 j.high) ≡ j.high = search rules in
    let x = c.gap.result in
    let y = c.gap-2.result in
    let g : to_z w64 (of_z w64 x) ≡ x = search rules in
    let h : to_z w64 (of_z w64 y) ≡ y = search rules in
    c.fit.ensures ∙ ap (λ (z : ℤ). fitting z (to_z w64 (of_z w64 y))) g ∙ ap (λ (z : ℤ). fitting x z) h
    ∙ ap (λ (z : ℤ). fitting z y) (c.gap.ensures ∙ ap (λ (z : ℤ). z -ℤ to_z w32 (of_z w32 j.high)) a ∙ ap (λ (z : ℤ). i.low -ℤ z) e)
    ∙ ap (λ (z : ℤ). fitting (i.low -ℤ j.high) z) (c.gap-2.ensures ∙ ap (λ (z : ℤ). z -ℤ to_z w32 (of_z w32 j.low)) d ∙ ap (λ (z : ℤ). i.high -ℤ z) b)
