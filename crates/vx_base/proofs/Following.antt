-- A steady family that follows another is the same as it and never fails.
use Rattle.std.proofs.Common.{◌≡◌, ℕ, ◌+◌, ◌-◌, ◌≤◌, List, sym, ap, ◌∙◌, subst, arith}
use Rattle.vx_base.specs.Outcome.{Outcome, Ends, Traps, Goes, Stuck, Wrong, output_of, IsOver, IsFailure, IsGoing, Begins, Same, NeverFails, Steady, FollowsAt, Follows}
use Rattle.vx_base.proofs.Same.{begins_self, over_goes_not, failure_goes_not, over_fails_not}

module _ (g : ℕ → Outcome) (steady : Steady g) where
  -- two bounds at which the family does not go on have one outcome
  pub one_end : (n m : ℕ) → (IsGoing (g n) → ⊥) → (IsGoing (g m) → ⊥) → g n ≡ g m
  one_end n m a b =
      let q : n + m ≡ m + n = omega arith in
      sym (steady.stays n m a) ∙ ap g q ∙ steady.stays m n b

  -- what goes on at a bound went on at every smaller one
  pub still_goes : (n m : ℕ) → n ≤ m → IsGoing (g m) → (IsGoing (g n) → ⊥) → ⊥
  still_goes n m le h stop =
      let k : ℕ = m - n in
      let q : n + k ≡ m = omega arith in
      stop (subst IsGoing (ap g (sym q) ∙ steady.stays n k stop) h)

  -- what is over or fails at a bound is so at every larger one
  pub stays_to : (n m : ℕ) → n ≤ m → (IsGoing (g n) → ⊥) → g m ≡ g n
  stays_to n m le stop =
      let k : ℕ = m - n in
      let q : m ≡ n + k = omega arith in
      ap g q ∙ steady.stays n k stop

  pub grows_to : (n m : ℕ) → n ≤ m → Begins (output_of (g n)) (output_of (g m))
  grows_to n m le =
      let k : ℕ = m - n in
      let q : n + k ≡ m = omega arith in
      subst (λ j. Begins (output_of (g n)) (output_of (g j))) q (steady.grows n k)

  pub stop_over : (n : ℕ) (o : Outcome) → IsOver o → g n ≡ o → IsGoing (g n) → ⊥
  stop_over n o v e h = over_goes_not o v (subst IsGoing e h)

  at_over : (n : ℕ) (o : Outcome) → IsOver o → FollowsAt g n o → (m : ℕ) × (g m ≡ o)
  at_over n (Ends r out) v h = h
  at_over n (Traps k out) v h = h
  at_over n (Goes out) v h = absurd v
  at_over n (Stuck why p out) v h = absurd h
  at_over n (Wrong out) v h = absurd h

  pub begins_at : (m : ℕ) (o : Outcome) → g m ≡ o → Begins (output_of o) (output_of (g m))
  begins_at m o e = subst (λ x. Begins (output_of o) (output_of x)) (sym e) (begins_self (output_of o))

  at_output : (n : ℕ) (o : Outcome) → FollowsAt g n o → (m : ℕ) × Begins (output_of o) (output_of (g m))
  at_output n (Ends r out) h = (h.0, begins_at h.0 (Ends r out) h.1)
  at_output n (Traps k out) h = (h.0, begins_at h.0 (Traps k out) h.1)
  at_output n (Goes out) h = (h.0, begins_at h.0 (Goes out) h.2)
  at_output n (Stuck why p out) h = absurd h
  at_output n (Wrong out) h = absurd h

  pub meets_over : (n m : ℕ) (o p : Outcome) → IsOver o → IsOver p → g n ≡ o → g m ≡ p → p ≡ o
  meets_over n m o p v w e f = sym f ∙ one_end m n (stop_over m p w f) (stop_over n o v e) ∙ e

  pub goes_past : (n m : ℕ) (out : List ℕ) → n ≤ m → g m ≡ Goes out → (IsGoing (g n) → ⊥) → ⊥
  goes_past n m out le e stop = still_goes n m le (subst IsGoing (sym e) tt) stop

  back_over : (n : ℕ) (p o : Outcome) → IsOver o → g n ≡ o → FollowsAt g n p → p ≡ o
  back_over n (Ends r out) o v e h = meets_over n h.0 o (Ends r out) v tt e h.1
  back_over n (Traps k out) o v e h = meets_over n h.0 o (Traps k out) v tt e h.1
  back_over n (Goes out) o v e h = absurd (goes_past n h.0 out h.1 h.2 (stop_over n o v e))
  back_over n (Stuck why p out) o v e h = absurd h
  back_over n (Wrong out) o v e h = absurd h

  pub begins_end : (n m : ℕ) (o : Outcome) → IsOver o → g m ≡ o → Begins (output_of (g n)) (output_of o)
  begins_end n m o v e =
      let q : n + m ≡ m + n = omega arith in
      subst (λ x. Begins (output_of (g n)) (output_of x)) (ap g q ∙ steady.stays m n (stop_over m o v e) ∙ e) (steady.grows n m)

  back_output : (n : ℕ) (p : Outcome) → FollowsAt g n p → Begins (output_of (g n)) (output_of p)
  back_output n (Ends r out) h = begins_end n h.0 (Ends r out) tt h.1
  back_output n (Traps k out) h = begins_end n h.0 (Traps k out) tt h.1
  back_output n (Goes out) h = subst (λ x. Begins (output_of (g n)) (output_of x)) h.2 (grows_to n h.0 h.1)
  back_output n (Stuck why p out) h = absurd h
  back_output n (Wrong out) h = absurd h

  pub fails_not_over : (n m : ℕ) (o : Outcome) → IsOver o → g m ≡ o → IsFailure (g n) → ⊥
  fails_not_over n m o v e f =
      over_fails_not (g n) (subst IsOver (sym e ∙ one_end m n (stop_over m o v e) (failure_goes_not (g n) f)) v) f

  fails_not : (n : ℕ) (p : Outcome) → FollowsAt g n p → IsFailure (g n) → ⊥
  fails_not n (Ends r out) h f = fails_not_over n h.0 (Ends r out) tt h.1 f
  fails_not n (Traps k out) h f = fails_not_over n h.0 (Traps k out) tt h.1 f
  fails_not n (Goes out) h f = goes_past n h.0 out h.1 h.2 (failure_goes_not (g n) f)
  fails_not n (Stuck why p out) h f = h
  fails_not n (Wrong out) h f = h

pub follows_same : (f g : ℕ → Outcome) → Steady g → Follows f g → Same f g × NeverFails g
follows_same f g steady h = (
  (
    record { over = λ n o v e. at_over g steady n o v (subst (FollowsAt g n) e (h n)); output = λ n. at_output g steady n (f n) (h n) },
    record { over = λ n o v e. (n, back_over g steady n (f n) o v e (h n)); output = λ n. (n, back_output g steady n (f n) (h n)) },
  ),
  λ n. fails_not g steady n (f n) (h n),
)
