use Rattle.std.proofs.Common.{ℤ, ◌*ℤ◌, to_z, of_z, w32, w64, ap, rules, ◌∙◌}
use mir.Val.{SFits}
use Rattle.std.proofs.lemmas.Int.{ints, to_z-of_z}
use Rattle.vx_claims.proofs.intervals.scaled.Goals as goal

pub returns : goal.returns
returns c =
    let x = c.from.result in
    let y = c.from-2.result in
    let fits : SFits w64 (to_z w64 (of_z w64 x) *ℤ to_z w64 (of_z w64 y)) = search (ints, rules) in
    to_z-of_z w64 (to_z w64 (of_z w64 x) *ℤ to_z w64 (of_z w64 y)) fits
    ∙ ap (λ (z : ℤ). z *ℤ to_z w64 (of_z w64 y)) (to_z-of_z w64 x (record { sfits = c.from.type_inv }) ∙ c.from.ensures ∙ to_z-of_z w32 c.args.a c.ranges.a)
    ∙ ap (λ (z : ℤ). c.args.a *ℤ z) (to_z-of_z w64 y (record { sfits = c.from-2.type_inv }) ∙ c.from-2.ensures ∙ to_z-of_z w32 c.args.b c.ranges.b)
