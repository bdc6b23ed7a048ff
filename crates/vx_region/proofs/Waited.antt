-- The first word that the delays allow is there for every operation, so that the words of a placement meet all delays.
use Rattle.std.proofs.Common.{◌≡◌, ℕ, ◌<◌, ◌≤◌, ◌⊎◌, inl, inr, ◌+◌, List, length, refl, arith}
use Rattle.std.proofs.lemmas.Bool.{cases_lt}
use Rattle.std.proofs.lemmas.Option.{slice_get_within}
use Rattle.vx_flow.specs.declared.trace.Clustered.{Clustered}
use Rattle.vx_flow.specs.declared.trace.Homes.{Homes}
use Rattle.vx_isa.specs.Numbers.{Numbers}
use Rattle.vx_dep.specs.declared.mode.Mode.{Mode}
use Rattle.vx_dep.specs.Delays.{Applies, AreHeights}
use Rattle.vx_dep.specs.Compensation.{word_at}
use Rattle.vx_sched.specs.Placement.{PlacedBy}
use Rattle.vx_sched.proofs.Unique.{greatest_or_none, bound_below}
use Rattle.vx_region.specs.Meets.{DelaysMet}

module _ (c : Clustered) (m : Numbers) (homes : Homes) (mode : Mode) (height : ℕ → ℕ) (words : List ℕ) (heights : AreHeights m mode c.trace height) (placed : PlacedBy c m homes mode height words) where
  abbrev Sum : ℕ → ℕ → Type 0
  Sum o x = (i : ℕ) × (delay : ℕ) × Applies m mode c.trace i o delay × (x ≡ word_at words i + delay)

  -- words and heights are bounded, and a delay is at most a height
  bound : (o : ℕ) → (most : ℕ) × ((x : ℕ) → Sum o x → x ≤ most)
  bound o = (last.0 + most.0, within)
    where
      last : (most : ℕ) × ((i : ℕ) → i < length c.trace.ops → word_at words i ≤ most)
      last = bound_below (word_at words) (length c.trace.ops)

      most : (most : ℕ) × ((i : ℕ) → i < length c.trace.ops → height i ≤ most)
      most = bound_below height (length c.trace.ops)

      within : (x : ℕ) → Sum o x → x ≤ last.0 + most.0
      within x (i, d, a, e) =
          let there = slice_get_within c.trace.ops i a.one a.stands_one in
          let u = last.1 i there in
          let v = most.1 i there in
          let w = (heights i there).0 o d a in
          omega (arith, e, u, v, w)

  pub met : (i j delay : ℕ) → Applies m mode c.trace i j delay → word_at words i + delay ≤ word_at words j
  met i j delay a = by (cases_lt (word_at words j) (word_at words i + delay))
    where
      inside : j < length words
      inside = let there = slice_get_within c.trace.ops j a.two a.stands_two in let e = placed.each in omega (arith, there, e)

      not_before : (word_at words j < word_at words i + delay) → ((r : ℕ) × Sum j r × ((x : ℕ) → Sum j x → x ≤ r)) ⊎ ((x : ℕ) → Sum j x → ⊥) → ⊥
      not_before less (inl (r, reached, met)) =
          let above = placed.ready j r inside (record { met = λ k d b. met (word_at words k + d) (k, d, b, refl); reached = inr reached }) in
          let below = met (word_at words i + delay) (i, delay, a, refl) in
          omega (arith, less, above, below)
      not_before less (inr none) = none (word_at words i + delay) (i, delay, a, refl)

      by : (word_at words j < word_at words i + delay) ⊎ (word_at words i + delay ≤ word_at words j) → word_at words i + delay ≤ word_at words j
      by (inl less) = absurd (greatest_or_none (Sum j) (bound j).0 (bound j).1 (not_before less))
      by (inr well) = well

pub delays_met : DelaysMet
delays_met c m homes mode height words i j delay heights placed a = met c m homes mode height words heights placed i j delay a
