use Rattle.std.proofs.Common.{◌≡◌, Bool, true, false, ℤ, to_z, of_z, w32, if◌then◌else◌, refl, ap, sym, rules, ◌∙◌}
use Rattle.std.specs.Ordering.{int_eq}
use Rattle.std.proofs.lemmas.Bool.Decides.{Decides-int_eq}
use Rattle.vx_claims.specs.declared.intervals.Interval.{Interval}
use Rattle.vx_claims.specs.Facts.{without_end}
use Rattle.vx_claims.proofs.intervals.unequal.Goals as goal

fails : (b : Bool) → (b ≡ true → ⊥) → b ≡ false
fails true n = absurd (n refl)
fails false n = refl

pub returns-then-j : goal.returns-then-j
returns-then-j c =
    let i : Interval = c.args.i in
    let j : Interval = c.args.j in
    let a : to_z w32 (of_z w32 j.low) ≡ j.low = search rules in
    let b : to_z w32 (of_z w32 j.high) ≡ j.high = search rules in
    let e : int_eq j.low j.high ≡ true = (Decides-int_eq j.low j.high).1 (sym a ∙ ap (to_z w32) c.if-j.true ∙ b) in
    c.without_end.ensures ∙ ap (λ (z : ℤ). without_end i z) a ∙ ap (λ (t : Bool). if t then without_end i j.low else i) (sym e)

pub returns-else-j : goal.returns-else-j
returns-else-j c =
    let i : Interval = c.args.i in
    let j : Interval = c.args.j in
    let e : int_eq j.low j.high ≡ false = fails (int_eq j.low j.high) (λ t. c.if-j.false (ap (of_z w32) ((Decides-int_eq j.low j.high).0 t))) in
    ap (λ (t : Bool). if t then without_end i j.low else i) (sym e)
