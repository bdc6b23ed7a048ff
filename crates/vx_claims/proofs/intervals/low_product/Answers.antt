use Rattle.std.proofs.Common.{◌≡◌, Bool, ℤ, pos, int_le, ◌&&◌, to_z, of_z, w32, ap, sym, rules, ◌∙◌}
use Rattle.vx_claims.specs.declared.intervals.Interval.{Interval}
use Rattle.vx_claims.specs.Facts.{is_half, times_or_product}
use Rattle.vx_claims.proofs.intervals.low_product.Goals as goal
use Rattle.vx_claims.proofs.intervals.low_product.Goals.{then-j, else-j, then-i-ge0, else-i-ge0}

pub returns : goal.returns
returns c =
    let i : Interval = c.args.i in
    let j : Interval = c.args.j in
    let a : to_z w32 (of_z w32 j.high) ≡ j.high = search rules in
    let b : to_z w32 (of_z w32 j.low) ≡ j.low = search rules in
    let d : to_z w32 (of_z w32 i.low) ≡ i.low = search rules in
    let one : int_le (to_z w32 (of_z w32 j.high)) (to_z w32 (of_z w32 j.low)) ≡ int_le j.high j.low = ap (λ (z : ℤ). int_le z (to_z w32 (of_z w32 j.low))) a ∙ ap (λ (z : ℤ). int_le j.high z) b in
    let least : int_le (pos 0) (to_z w32 (of_z w32 i.low)) ≡ int_le (pos 0) i.low = ap (λ (z : ℤ). int_le (pos 0) z) d in
    let first : c.if-j.times_or_product ≡ (int_le j.high j.low && is_half j) = elim c.if-j.branch [
      | then-j w ↦ w.times_or_product-is ∙ w.is_half.ensures ∙ ap (λ (t : Bool). t && is_half j) (sym w.if-j.true ∙ one)
      | else-j w ↦ w.times_or_product-is ∙ w.if-j.false ∙ ap (λ (t : Bool). t && is_half j) (sym w.if-j.false ∙ one)
    ] in
    let second : c.if-i-ge0.times_or_product ≡ (int_le (pos 0) i.low && is_half j) = elim c.if-i-ge0.branch [
      | then-i-ge0 w ↦ w.times_or_product-is ∙ w.is_half-then-i-ge0.ensures ∙ ap (λ (t : Bool). t && is_half j) (sym w.if-i-ge0.true ∙ least)
      | else-i-ge0 w ↦ w.times_or_product-is ∙ w.if-i-ge0.false ∙ ap (λ (t : Bool). t && is_half j) (sym w.if-i-ge0.false ∙ least)
    ] in
    c.times_or_product.ensures ∙ ap (λ (t : Bool). times_or_product t c.if-i-ge0.times_or_product i j) first ∙ ap (λ (t : Bool). times_or_product (int_le j.high j.low && is_half j) t i j) second
