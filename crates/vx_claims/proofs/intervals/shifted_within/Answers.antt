use Rattle.std.proofs.Common.{◌≡◌, ◌&&◌, Bool, ℤ, pos, int_le, to_z, of_z, w32, ap, sym, rules, ◌∙◌}
use Rattle.std.proofs.lemmas.Int.{to_z-of_z}
use Rattle.vx_base.specs.Arithmetic.{shl_of}
use Rattle.vx_claims.specs.declared.intervals.Interval.{Interval}
use Rattle.vx_claims.specs.Facts.{times_if}
use Rattle.vx_claims.proofs.intervals.shifted_within.Goals as goal
use Rattle.vx_claims.proofs.intervals.shifted_within.Goals.{then-j, else-j}

pub returns : goal.returns
returns c =
    let i : Interval = c.args.i in
    let j : Interval = c.args.j in
    let power : ℤ = c.value-power.result in
    let a : to_z w32 (of_z w32 j.high) ≡ j.high = search rules in
    let b : to_z w32 (of_z w32 j.low) ≡ j.low = search rules in
    let same : to_z w32 (of_z w32 power) ≡ power = to_z-of_z w32 power (record { sfits = c.value-power.type_inv }) in
    let is : power ≡ shl_of (pos 1) j.low = c.value-power.ensures ∙ ap (λ (z : ℤ). shl_of (pos 1) z) b in
    let one : int_le (to_z w32 (of_z w32 j.high)) (to_z w32 (of_z w32 j.low)) ≡ int_le j.high j.low = ap (λ (z : ℤ). int_le z (to_z w32 (of_z w32 j.low))) a ∙ ap (λ (z : ℤ). int_le j.high z) b in
    let test : c.if-j.times_if ≡ (int_le j.high j.low && int_le (pos 0) power) = elim c.if-j.branch [
      | then-j w ↦ w.times_if-is ∙ ap (λ (z : ℤ). int_le (pos 0) z) same ∙ ap (λ (t : Bool). t && int_le (pos 0) power) (sym w.if-j.true ∙ one)
      | else-j w ↦ w.times_if-is ∙ w.if-j.false ∙ ap (λ (t : Bool). t && int_le (pos 0) power) (sym w.if-j.false ∙ one)
    ] in
    c.times_if.ensures ∙ ap (λ (z : ℤ). times_if c.if-j.times_if i z) same ∙ ap (λ (t : Bool). times_if t i power) test ∙ ap (λ (z : ℤ). times_if (int_le j.high j.low && int_le (pos 0) z) i z) is
