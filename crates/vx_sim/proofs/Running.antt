-- Word after word: the state in which a run stands and its events, from the steps so far.
use Rattle.std.proofs.Common.{◌≡◌, ℕ, zero, suc, ◌<◌, true, false, Some, None, List, [], ◌∷◌, ◌++◌, refl, sym, ap, subst, ◌∙◌, arith}
use Rattle.vx_base.specs.Outcome.{Outcome, Goes, Step, On, Over, step_then}
use Rattle.vx_isa.specs.declared.program.WordProgram.{WordProgram}
use Rattle.vx_isa.specs.Numbers.{Numbers}
use Rattle.vx_isa.specs.Machine.{State, step, words_from}
use Rattle.vx_probe.specs.declared.event.Event.{Event}
use Rattle.vx_sim.specs.Passed.{Taken, taken, goes_on, state_then, state_from, events_then, events_from}

module _ (m : Numbers) (times : List ℕ) (w : WordProgram) where
  -- so many words take effect and none ends the program
  abbrev pub Reaches : ℕ → State → State → List Event → Type 0
  Reaches zero s u es = (u ≡ s) × (es ≡ [])
  Reaches (suc n) s u es = (t : Taken) × (rest : List Event) × (taken m times w s ≡ Some t) × (step m times w s ≡ On t.state) × Reaches n t.state u rest × (es ≡ t.event ∷ rest)

  pub reaches_none : (s : State) → Reaches 0 s s []
  reaches_none s = (refl, refl)

  -- and one more
  pub reaches_more : (n : ℕ) (s u : State) (es : List Event) (t : Taken) → Reaches n s u es → taken m times w u ≡ Some t → step m times w u ≡ On t.state → Reaches (suc n) s t.state (es ++ t.event ∷ [])
  reaches_more zero s u es t (e, none) is on =
      (t, [], subst (λ (v : State). taken m times w v ≡ Some t) e is, subst (λ (v : State). step m times w v ≡ On t.state) e on, (refl, refl), ap (λ (l : List Event). l ++ t.event ∷ []) none)
  reaches_more (suc n) s u es t (first, rest, is', on', more, all) is on =
      (first, rest ++ t.event ∷ [], is', on', reaches_more n first.state u rest t more is on, ap (λ (l : List Event). l ++ t.event ∷ []) all)

  -- what a bound comes to
  pub record EndsAt (bound : ℕ) (s : State) (outcome : Outcome) (u : State) (es : List Event) : Type 0 where
    pub outcome_is : words_from m times w bound s ≡ outcome
    pub state_is : state_from m times w bound s ≡ u
    pub events_are : events_from m times w bound s ≡ es

  one_more : (n : ℕ) (s : State) (t : Taken) (o : Outcome) (u : State) (es rest : List Event) → taken m times w s ≡ Some t → step m times w s ≡ On t.state → es ≡ t.event ∷ rest → EndsAt n t.state o u rest → EndsAt (suc n) s o u es
  one_more n s t o u es rest is on all more = record {
    outcome_is = ap (step_then (words_from m times w n)) on ∙ more.outcome_is;
    state_is = ap (λ (x : Step State). state_then (state_from m times w n) (goes_on x) s (taken m times w s)) on ∙ ap (state_then (state_from m times w n) true s) is ∙ more.state_is;
    events_are = ap (λ (x : Step State). events_then (events_from m times w n) (goes_on x) (taken m times w s)) on ∙ ap (events_then (events_from m times w n) true) is ∙ ap (λ (l : List Event). t.event ∷ l) more.events_are ∙ sym all;
  }

  pub going : (n : ℕ) (s u : State) (es : List Event) → Reaches n s u es → EndsAt n s (Goes u.out) u es
  going zero s u es (e, none) = record { outcome_is = ap (λ (v : State). Goes v.out) (sym e); state_is = sym e; events_are = sym none }
  going (suc n) s u es (t, rest, is, on, more, all) = one_more n s t (Goes u.out) u es rest is on all (going n t.state u rest more)

  -- a word that ends the program
  pub ended_taken : (n j : ℕ) (s u : State) (es : List Event) (t : Taken) (o : Outcome) → n < j → Reaches n s u es → taken m times w u ≡ Some t → step m times w u ≡ Over o → EndsAt j s o t.state (es ++ t.event ∷ [])
  ended_taken zero zero s u es t o lt r is over = absurd (omega arith)
  ended_taken (suc n) zero s u es t o lt r is over = absurd (omega arith)
  ended_taken zero (suc j) s u es t o lt (e, none) is over =
      let is' : taken m times w s ≡ Some t = subst (λ (v : State). taken m times w v ≡ Some t) e is in
      let over' : step m times w s ≡ Over o = subst (λ (v : State). step m times w v ≡ Over o) e over in
      record {
        outcome_is = ap (step_then (words_from m times w j)) over';
        state_is = ap (λ (x : Step State). state_then (state_from m times w j) (goes_on x) s (taken m times w s)) over' ∙ ap (state_then (state_from m times w j) false s) is';
        events_are = ap (λ (x : Step State). events_then (events_from m times w j) (goes_on x) (taken m times w s)) over' ∙ ap (events_then (events_from m times w j) false) is' ∙ sym (ap (λ (l : List Event). l ++ t.event ∷ []) none);
      }
  ended_taken (suc n) (suc j) s u es t o lt (first, rest, is', on, more, all) is over =
      one_more j s first o t.state (es ++ t.event ∷ []) (rest ++ t.event ∷ []) is' on (ap (λ (l : List Event). l ++ t.event ∷ []) all) (ended_taken n j first.state u rest t o (omega arith) more is over)

  -- a word that is stuck
  pub ended_stuck : (n j : ℕ) (s u : State) (es : List Event) (o : Outcome) → n < j → Reaches n s u es → taken m times w u ≡ None → step m times w u ≡ Over o → EndsAt j s o u es
  ended_stuck zero zero s u es o lt r is over = absurd (omega arith)
  ended_stuck (suc n) zero s u es o lt r is over = absurd (omega arith)
  ended_stuck zero (suc j) s u es o lt (e, none) is over =
      let is' : taken m times w s ≡ None = subst (λ (v : State). taken m times w v ≡ None) e is in
      let over' : step m times w s ≡ Over o = subst (λ (v : State). step m times w v ≡ Over o) e over in
      record {
        outcome_is = ap (step_then (words_from m times w j)) over';
        state_is = ap (λ (x : Step State). state_then (state_from m times w j) (goes_on x) s (taken m times w s)) over' ∙ ap (state_then (state_from m times w j) false s) is' ∙ sym e;
        events_are = ap (λ (x : Step State). events_then (events_from m times w j) (goes_on x) (taken m times w s)) over' ∙ ap (events_then (events_from m times w j) false) is' ∙ sym none;
      }
  ended_stuck (suc n) (suc j) s u es o lt (first, rest, is', on, more, all) is over = one_more j s first o u es rest is' on all (ended_stuck n j first.state u rest o (omega arith) more is over)

  -- the next word after so many
  pub next_outcome : (n : ℕ) (s u : State) (es : List Event) → Reaches n s u es → words_from m times w (suc n) s ≡ step_then (λ (v : State). Goes v.out) (step m times w u)
  next_outcome zero s u es (e, none) = ap (λ (v : State). step_then (λ (x : State). Goes x.out) (step m times w v)) (sym e)
  next_outcome (suc n) s u es (t, rest, is, on, more, all) = ap (step_then (words_from m times w (suc n))) on ∙ next_outcome n t.state u rest more
