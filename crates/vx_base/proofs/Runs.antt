-- Step machines: a run is steady, and goes on from where steps lead.
use Rattle.std.proofs.Common.{◌≡◌, ℕ, zero, suc, ◌+◌, List, refl, sym, ap, ◌∙◌, subst, arith}
use Rattle.vx_base.specs.Outcome.{Outcome, Goes, output_of, IsOver, IsFailure, IsGoing, Begins, NeverFails, Steady, Step, On, Over, step_then, run}
use Rattle.vx_base.proofs.Same.{begins_self, begins_on, over_goes_not, failure_goes_not}

-- what a machine's step keeps of the output
pub record Grows {S : Type 0} (next : S → Step S) (out : S → List ℕ) : Type 0 where
  pub on : (s t : S) → next s ≡ On t → Begins (out s) (out t)
  pub over : (s : S) (o : Outcome) → next s ≡ Over o → Begins (out s) (output_of o)

-- n steps lead from s to t
abbrev pub Reach : {S : Type 0} → (S → Step S) → ℕ → S → S → Type 0
Reach next zero s t = s ≡ t
Reach {S} next (suc n) s t = (u : S) × (next s ≡ On u) × Reach next n u t

module _ {S : Type 0} (next : S → Step S) where
  pub reach_one : (s t : S) → next s ≡ On t → Reach next 1 s t
  reach_one s t e = (t, e, refl)

  pub reach_on : (n m : ℕ) (s t u : S) → Reach next n s t → Reach next m t u → Reach next (n + m) s u
  reach_on zero m s t u a b = let q : 0 + m ≡ m = omega arith in subst (λ j. Reach next j s u) (sym q) (subst (λ v. Reach next m v u) (sym a) b)
  reach_on (suc n) m s t u a b = let q : suc n + m ≡ suc (n + m) = omega arith in subst (λ j. Reach next j s u) (sym q) (a.0, a.1, reach_on n m a.0 t u a.2 b)

module _ {S : Type 0} (next : S → Step S) (out : S → List ℕ) where
  -- the run from s, by bounds
  abbrev pub runs_from : S → ℕ → Outcome
  runs_from s n = run next out n s

  pub run_reach : (n k : ℕ) (s t : S) → Reach next n s t → run next out (n + k) s ≡ run next out k t
  run_reach zero k s t r = let e : 0 + k ≡ k = omega arith in ap (λ j. run next out j s) e ∙ ap (run next out k) r
  run_reach (suc n) k s t r = let e : suc n + k ≡ suc (n + k) = omega arith in ap (λ j. run next out j s) e ∙ ap (step_then (run next out (n + k))) r.1 ∙ run_reach n k r.0 t r.2

  -- at the last of n steps the run goes on
  pub run_goes : (n : ℕ) (s t : S) → Reach next n s t → run next out n s ≡ Goes (out t)
  run_goes n s t r = let e : n ≡ n + 0 = omega arith in ap (λ j. run next out j s) e ∙ run_reach n 0 s t r

  -- where n steps and one more end the run
  pub run_ends : (n : ℕ) (s t : S) (o : Outcome) → Reach next n s t → next t ≡ Over o → run next out (n + 1) s ≡ o
  run_ends n s t o r e = run_reach n 1 s t r ∙ ap (step_then (run next out 0)) e

  stays_step : (n k : ℕ) (x : Step S) → ((t : S) → (IsGoing (run next out n t) → ⊥) → run next out (n + k) t ≡ run next out n t) → (IsGoing (step_then (run next out n) x) → ⊥) → step_then (run next out (n + k)) x ≡ step_then (run next out n) x
  stays_step n k (On t) h stop = h t stop
  stays_step n k (Over p) h stop = refl

  -- what does not go on stays
  pub run_stays : (n k : ℕ) (s : S) → (IsGoing (run next out n s) → ⊥) → run next out (n + k) s ≡ run next out n s
  run_stays zero k s stop = absurd (stop tt)
  run_stays (suc n) k s stop =
      let q : suc n + k ≡ suc (n + k) = omega arith in
      ap (λ j. run next out j s) q ∙ stays_step n k (next s) (λ t. run_stays n k t) stop

  pub over_stays : (n k : ℕ) (s : S) (o : Outcome) → IsOver o → run next out n s ≡ o → run next out (n + k) s ≡ o
  over_stays n k s o v e = run_stays n k s (λ g. over_goes_not o v (subst IsGoing e g)) ∙ e

  pub failure_stays : (n k : ℕ) (s : S) → IsFailure (run next out n s) → IsFailure (run next out (n + k) s)
  failure_stays n k s f = subst IsFailure (sym (run_stays n k s (failure_goes_not (run next out n s) f))) f

  -- a run that never fails does not fail from where it leads
  pub safe_after : (i : ℕ) (s t : S) → Reach next i s t → NeverFails (runs_from s) → NeverFails (runs_from t)
  safe_after i s t r safe n f = safe (i + n) (subst IsFailure (sym (run_reach i n s t r)) f)

  -- and does not end by a failure
  pub safe_end : (s : S) (o : Outcome) → next s ≡ Over o → NeverFails (runs_from s) → IsFailure o → ⊥
  safe_end s o e safe f = safe 1 (subst IsFailure (sym (ap (step_then (run next out 0)) e)) f)

module _ {S : Type 0} (next : S → Step S) (out : S → List ℕ) (grows : Grows next out) where
  more_step : (n k : ℕ) (x : Step S) → ((t : S) → Begins (output_of (run next out n t)) (output_of (run next out (n + k) t))) → Begins (output_of (step_then (run next out n) x)) (output_of (step_then (run next out (n + k)) x))
  more_step n k (On t) h = h t
  more_step n k (Over p) h = begins_self (output_of p)

  first_step : (s : S) (k : ℕ) (x : Step S) → next s ≡ x → ((t : S) → Begins (out t) (output_of (run next out k t))) → Begins (out s) (output_of (step_then (run next out k) x))
  first_step s k (On t) e h = begins_on (out s) (out t) _ (grows.on s t e) (h t)
  first_step s k (Over p) e h = grows.over s p e

  from_start : (k : ℕ) (s : S) → Begins (out s) (output_of (run next out k s))
  from_start zero s = begins_self (out s)
  from_start (suc k) s = first_step s k (next s) refl (from_start k)

  pub output_grows : (n k : ℕ) (s : S) → Begins (output_of (run next out n s)) (output_of (run next out (n + k) s))
  output_grows zero k s = let q : 0 + k ≡ k = omega arith in subst (λ j. Begins (out s) (output_of (run next out j s))) (sym q) (from_start k s)
  output_grows (suc n) k s =
      let q : suc n + k ≡ suc (n + k) = omega arith in
      subst (λ j. Begins (output_of (run next out (suc n) s)) (output_of (run next out j s))) (sym q) (more_step n k (next s) (output_grows n k))

  -- the run of a machine whose output grows is steady
  pub run_steady : (s : S) → Steady (λ n. run next out n s)
  run_steady s = record { stays = λ n k stop. run_stays next out n k s stop; grows = λ n k. output_grows n k s }

-- both steps end alike, or lead to tied states
abbrev pub StepsTied : {S U : Type 0} → (S → U → Type 0) → Step S → Step U → Type 0
StepsTied Tied (On s) (On u) = Tied s u
StepsTied Tied (On s) (Over p) = ⊥
StepsTied Tied (Over o) (On u) = ⊥
StepsTied Tied (Over o) (Over p) = o ≡ p

-- two machines that go in step have one outcome at every bound
module _ {S U : Type 0} (next_s : S → Step S) (out_s : S → List ℕ) (next_u : U → Step U) (out_u : U → List ℕ) (Tied : S → U → Type 0)
    (steps : (s : S) (u : U) → Tied s u → StepsTied Tied (next_s s) (next_u u)) (alike : (s : S) (u : U) → Tied s u → out_s s ≡ out_u u) where
  tied_step : (n : ℕ) (x : Step S) (y : Step U) → ((s : S) (u : U) → Tied s u → run next_s out_s n s ≡ run next_u out_u n u) → StepsTied Tied x y → step_then (run next_s out_s n) x ≡ step_then (run next_u out_u n) y
  tied_step n (On s) (On u) h t = h s u t
  tied_step n (On s) (Over p) h t = absurd t
  tied_step n (Over o) (On u) h t = absurd t
  tied_step n (Over o) (Over p) h t = t

  pub run_in_step : (n : ℕ) (s : S) (u : U) → Tied s u → run next_s out_s n s ≡ run next_u out_u n u
  run_in_step zero s u t = ap Goes (alike s u t)
  run_in_step (suc n) s u t = tied_step n (next_s s) (next_u u) (run_in_step n) (steps s u t)

  -- where the one machine comes to in n steps, the other comes to a tied state
  tied_on : (s' : S) (x : Step S) (y : Step U) → x ≡ On s' → StepsTied Tied x y → (u' : U) × (y ≡ On u') × Tied s' u'
  tied_on s' (On s) (On u) e t = (u, refl, let q : s ≡ s' = cc in subst (λ z. Tied z u) q t)
  tied_on s' (On s) (Over p) e t = absurd t
  tied_on s' (Over o) (On u) e t = absurd t
  tied_on s' (Over o) (Over p) e t = absurd (cc)

  pub reach_in_step : (n : ℕ) (s s' : S) (u : U) → Tied s u → Reach next_s n s s' → (u' : U) × Reach next_u n u u' × Tied s' u'
  reach_in_step zero s s' u t r = (u, refl, subst (λ z. Tied z u) r t)
  reach_in_step (suc n) s s' u t r =
      let x = tied_on r.0 (next_s s) (next_u u) r.1 (steps s u t) in
      let y = reach_in_step n r.0 s' x.0 x.2 r.2 in
      (y.0, (x.0, x.1, y.1), y.2)
