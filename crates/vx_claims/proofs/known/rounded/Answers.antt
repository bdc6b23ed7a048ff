use Rattle.std.proofs.Common.{◌≡◌, ℕ, Bool, ℤ, pos, ◌+ℤ◌, ◌-ℤ◌, to_z, of_z, w32, ap, sym, rules, ◌∙◌}
use Rattle.vx_base.specs.Arithmetic.{difference_of}
use Rattle.vx_claims.specs.declared.intervals.Interval.{Interval}
use Rattle.vx_claims.specs.declared.residues.Residue.{Residue}
use Rattle.vx_claims.specs.Residues.{low_bits}
use Rattle.vx_claims.specs.Facts.{number_or, rounded_unless}
use Rattle.vx_claims.proofs.Fronts.{not_equal}
use Rattle.vx_claims.proofs.known.rounded.Goals as goal

abbrev from_to : ℤ → ℤ → Interval
from_to a b = record { low = a; high = b }

abbrev first : ℕ → ℤ → ℤ → ℤ
first places rest n = number_or n (n +ℤ pos (low_bits places (difference_of rest n)))

abbrev last : ℕ → ℤ → ℤ → ℤ
last places rest n = number_or n (n -ℤ pos (low_bits places (difference_of n rest)))

pub returns : goal.returns
returns c =
    let i : Interval = c.args.within in
    let r : Residue = c.args.residue in
    let x : ℤ = c.first_from.result in
    let y : ℤ = c.last_up_to.result in
    let a : to_z w32 (of_z w32 i.low) ≡ i.low = search rules in
    let b : to_z w32 (of_z w32 i.high) ≡ i.high = search rules in
    let q : to_z w32 (of_z w32 r.rest) ≡ r.rest = search rules in
    let g : to_z w32 (of_z w32 x) ≡ x = search rules in
    let h : to_z w32 (of_z w32 y) ≡ y = search rules in
    let low : to_z w32 (of_z w32 x) ≡ first r.places r.rest i.low = g ∙ c.first_from.ensures ∙ ap (λ (z : ℤ). first r.places z (to_z w32 (of_z w32 i.low))) q ∙ ap (λ (z : ℤ). first r.places r.rest z) a in
    let high : to_z w32 (of_z w32 y) ≡ last r.places r.rest i.high = h ∙ c.last_up_to.ensures ∙ ap (λ (z : ℤ). last r.places z (to_z w32 (of_z w32 i.high))) q ∙ ap (λ (z : ℤ). last r.places r.rest z) b in
    ap (λ (z : ℤ). from_to z (to_z w32 (of_z w32 y))) low ∙ ap (λ (z : ℤ). from_to (first r.places r.rest i.low) z) high ∙ ap (λ (t : Bool). rounded_unless t r i) (sym (not_equal r.places 0 c.if-residue-eq0.false))
