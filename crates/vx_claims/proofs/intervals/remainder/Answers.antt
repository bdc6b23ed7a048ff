use Rattle.std.proofs.Common.{◌≡◌, ◌&&◌, Bool, true, ℤ, pos, ◌-ℤ◌, to_z, of_z, w32, ap, subst, sym, rules, ◌∙◌}
use mir.Val.{SFits}
use Rattle.std.proofs.lemmas.Int.{to_z-of_z}
use Rattle.vx_claims.specs.declared.intervals.Interval.{Interval}
use Rattle.vx_claims.specs.Facts.{full, is_above, up_to}
use Rattle.vx_claims.proofs.Bounds.{above_fits}
use Rattle.vx_claims.proofs.intervals.remainder.Goals as goal

pub overflow_sub-j : goal.overflow_sub-j
overflow_sub-j c =
    let j : Interval = c.args.j in
    let same : to_z w32 (of_z w32 j.high) ≡ j.high = search rules in
    subst (λ (z : ℤ). SFits w32 (z -ℤ pos 1)) (sym same) (above_fits j (sym c.is_above-then-is_above.ensures ∙ c.if-is_above-2.true))

pub returns-then-is_above-2 : goal.returns-then-is_above-2
returns-then-is_above-2 c =
    let i : Interval = c.args.i in
    let j : Interval = c.args.j in
    let same : to_z w32 (of_z w32 j.high) ≡ j.high = search rules in
    let above : is_above (pos 1) j ≡ true = sym c.is_above-then-is_above.ensures ∙ c.if-is_above-2.true in
    let both : (is_above (pos 0) i && is_above (pos 1) j) ≡ true = ap (λ (t : Bool). t && is_above (pos 1) j) (sym c.is_above.ensures ∙ c.if-is_above.true) ∙ above in
    c.up_to.ensures ∙ ap (λ (z : ℤ). up_to true (to_z w32 (of_z w32 (z -ℤ pos 1))) full) same ∙ ap (λ (z : ℤ). up_to true z full) (to_z-of_z w32 (j.high -ℤ pos 1) (above_fits j above)) ∙ ap (λ (t : Bool). up_to t (j.high -ℤ pos 1) full) (sym both)
