use Rattle.std.proofs.Common.{◌≡◌, ℤ, to_z, of_z, w32, ap, rules, ◌∙◌}
use Rattle.std.specs.Int.{int_max, int_min}
use Rattle.std.proofs.lemmas.Int.{to_z-of_z}
use Rattle.vx_claims.specs.declared.intervals.Interval.{Interval}
use Rattle.vx_claims.proofs.intervals.meet.Goals as goal

abbrev from_to : ℤ → ℤ → Interval
from_to a b = record { low = a; high = b }

pub returns : goal.returns
returns c =
    let i : Interval = c.args.i in
    let j : Interval = c.args.j in
    let a : to_z w32 (of_z w32 i.low) ≡ i.low = search rules in
    let b : to_z w32 (of_z w32 j.low) ≡ j.low = search rules in
    let d : to_z w32 (of_z w32 i.high) ≡ i.high = search rules in
    let e : to_z w32 (of_z w32 j.high) ≡ j.high = search rules in
    let low : to_z w32 (of_z w32 c.max.result) ≡ int_max i.low j.low = to_z-of_z w32 c.max.result (record { sfits = c.max.type_inv }) ∙ c.max.ensures.value ∙ ap (λ (z : ℤ). int_max z (to_z w32 (of_z w32 j.low))) a ∙ ap (λ (z : ℤ). int_max i.low z) b in
    let high : to_z w32 (of_z w32 c.min.result) ≡ int_min i.high j.high = to_z-of_z w32 c.min.result (record { sfits = c.min.type_inv }) ∙ c.min.ensures.value ∙ ap (λ (z : ℤ). int_min z (to_z w32 (of_z w32 j.high))) d ∙ ap (λ (z : ℤ). int_min i.high z) e in
    ap (λ (z : ℤ). from_to z (to_z w32 (of_z w32 c.min.result))) low ∙ ap (λ (z : ℤ). from_to (int_max i.low j.low) z) high
