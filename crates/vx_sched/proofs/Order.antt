-- Which operation comes before which: the greater height, and of equal heights the lower place.
use Rattle.std.proofs.Common.{◌≡◌, ℕ, ◌<◌, ◌≤◌, ◌⊎◌, inl, inr, ◌+◌, Bool, ◌&&◌, ◌||◌, true, false, nat_lt, nat_eq, sym, refl, arith}
use Rattle.std.proofs.lemmas.Bool.{true≢false, and_parts, or_cases, cases_order, ltb-true, eqb-true, lt-ltb, eq-eqb, and_from}
use Rattle.std.proofs.lemmas.Option.{slice_get_within}
use Rattle.vx_flow.specs.declared.trace.Trace.{Trace}
use Rattle.vx_isa.specs.Numbers.{Numbers}
use Rattle.vx_dep.specs.declared.mode.Mode.{Mode}
use Rattle.vx_dep.specs.Delays.{Applies, AreHeights}
use Rattle.vx_sched.specs.Placement.{comes_before}

or_left : (a b : Bool) → a ≡ true → (a || b) ≡ true
or_left true b e = refl
or_left false b e = absurd (true≢false (sym e))

or_right : (a b : Bool) → b ≡ true → (a || b) ≡ true
or_right true b e = refl
or_right false b e = e

pub before_tells : (h : ℕ → ℕ) (o p : ℕ) → comes_before h o p ≡ true → (h p < h o) ⊎ ((h o ≡ h p) × (o < p))
before_tells h o p e = by (or_cases (nat_lt (h p) (h o)) (nat_eq (h o) (h p) && nat_lt o p) e)
  where
    by : (nat_lt (h p) (h o) ≡ true) ⊎ ((nat_eq (h o) (h p) && nat_lt o p) ≡ true) → (h p < h o) ⊎ ((h o ≡ h p) × (o < p))
    by (inl higher) = inl (ltb-true (h p) (h o) higher)
    by (inr level) =
        let parts = and_parts (nat_eq (h o) (h p)) (nat_lt o p) level in
        inr (eqb-true (h o) (h p) parts.0, ltb-true o p parts.1)

pub before_is : (h : ℕ → ℕ) (o p : ℕ) → (h p < h o) ⊎ ((h o ≡ h p) × (o < p)) → comes_before h o p ≡ true
before_is h o p (inl higher) = or_left (nat_lt (h p) (h o)) (nat_eq (h o) (h p) && nat_lt o p) (lt-ltb (h p) (h o) higher)
before_is h o p (inr level) =
    or_right (nat_lt (h p) (h o)) (nat_eq (h o) (h p) && nat_lt o p) (and_from (nat_eq (h o) (h p)) (nat_lt o p) (eq-eqb (h o) (h p) level.0) (lt-ltb o p level.1))

-- not both come before each other
pub before_once : (h : ℕ → ℕ) (o p : ℕ) → comes_before h o p ≡ true → comes_before h p o ≡ true → ⊥
before_once h o p e f = by (before_tells h o p e) (before_tells h p o f)
  where
    by : (h p < h o) ⊎ ((h o ≡ h p) × (o < p)) → (h o < h p) ⊎ ((h p ≡ h o) × (p < o)) → ⊥
    by (inl a) (inl b) = absurd (omega (arith, a, b))
    by (inl a) (inr b) = let c = b.0 in absurd (omega (arith, a, c))
    by (inr a) (inl b) = let c = a.0 in absurd (omega (arith, b, c))
    by (inr a) (inr b) = let c = a.1 in let d = b.1 in absurd (omega (arith, c, d))

pub not_before_itself : (h : ℕ → ℕ) (o : ℕ) → comes_before h o o ≡ true → ⊥
not_before_itself h o e = before_once h o o e e

-- one of two comes before the other
pub before_either : (h : ℕ → ℕ) (o p : ℕ) → (o ≡ p → ⊥) → (comes_before h o p ≡ true) ⊎ (comes_before h p o ≡ true)
before_either h o p other = by (cases_order (h o) (h p)) (cases_order o p)
  where
    by : (h o ≡ h p) ⊎ ((h o < h p) ⊎ (h p < h o)) → (o ≡ p) ⊎ ((o < p) ⊎ (p < o)) → (comes_before h o p ≡ true) ⊎ (comes_before h p o ≡ true)
    by (inl level) (inl same) = absurd (other same)
    by (inl level) (inr (inl less)) = inl (before_is h o p (inr (level, less)))
    by (inl level) (inr (inr more)) = inr (before_is h p o (inr (sym level, more)))
    by (inr (inl lower)) places = inr (before_is h p o (inl lower))
    by (inr (inr higher)) places = inl (before_is h o p (inl higher))

pub not_before : (h : ℕ → ℕ) (o p : ℕ) → (comes_before h o p ≡ true → ⊥) → comes_before h o p ≡ false
not_before h o p never = by (comes_before h o p) refl
  where
    by : (b : Bool) → comes_before h o p ≡ b → comes_before h o p ≡ false
    by true e = absurd (never e)
    by false e = e

-- an operation comes before those that have to stand behind it
pub applies_before : (m : Numbers) (mode : Mode) (t : Trace) (h : ℕ → ℕ) (i o delay : ℕ) → AreHeights m mode t h → Applies m mode t i o delay → comes_before h i o ≡ true
applies_before m mode t h i o delay heights a = before_is h i o (by (cases_order (h i) (h o)))
  where
    sum : delay + h o ≤ h i
    sum = (heights i (slice_get_within t.ops i a.one a.stands_one)).0 o delay a

    by : (h i ≡ h o) ⊎ ((h i < h o) ⊎ (h o < h i)) → (h o < h i) ⊎ ((h i ≡ h o) × (i < o))
    by (inl level) = inr (level, a.in_order)
    by (inr (inl lower)) = let s = sum in absurd (omega (arith, s, lower))
    by (inr (inr higher)) = inl higher
