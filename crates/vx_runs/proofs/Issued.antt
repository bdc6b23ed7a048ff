-- How many words a run issues: as many as took effect, and where it ends the least number with which it does.
use Rattle.std.proofs.Common.{◌≡◌, ◌∙◌, ◌≤◌, ◌<◌, ℕ, zero, suc, Bool, true, false, List, [], ◌∷◌, length, Option, Some, None, refl, sym, subst, ap, arith}
use Rattle.std.specs.Prelude.{slice_get}
use Rattle.vx_base.specs.Outcome.{Outcome, IsGoing, IsFailure, Step, On, Over, step_then}
use Rattle.vx_base.specs.declared.outcome.Reason.{Reason}
use Rattle.vx_isa.specs.declared.program.Word.{Word}
use Rattle.vx_isa.specs.declared.program.WordProgram.{WordProgram}
use Rattle.vx_isa.specs.Numbers.{Numbers}
use Rattle.vx_isa.specs.Machine.{State, Lead, To, Halts, TrapsBy, lead_of, effect, stuck_by, leads_to, unless_stuck, issue, step, words_from}
use Rattle.vx_probe.specs.declared.event.Event.{Event}
use Rattle.vx_sim.specs.Passed.{Taken, event_of, led_by, unless_stuck as taken_unless, issued as issued_at, taken, goes_on, events_then, events_from}

-- the run within n words has issued so many, and this many are enough for it
record Counts (run : ℕ → Outcome) (events : ℕ → List Event) (n issued : ℕ) : Type 0 where
  pub comes : run issued ≡ run n
  pub within : issued ≤ n
  pub least : (fewer : ℕ) → fewer < issued → IsGoing (run fewer)
  pub all : IsGoing (run n) → issued ≡ n
  pub seen : events issued ≡ events n

module _ (m : Numbers) (times : List ℕ) (w : WordProgram) where
  abbrev outcomes : State → ℕ → Outcome
  outcomes s n = words_from m times w n s

  abbrev events : State → ℕ → List Event
  events s n = events_from m times w n s

  few_then : (n : ℕ) (go : Bool) (t : Option Taken) → ((u : State) → length (events u n) ≤ n) → length (events_then (λ u. events u n) go t) ≤ suc n
  few_then n go None few = omega arith
  few_then n true (Some t) few = let le = few t.state in omega arith
  few_then n false (Some t) few = omega arith

  -- no more words take effect than are asked for
  pub few_events : (n : ℕ) (s : State) → length (events_from m times w n s) ≤ n
  few_events zero s = omega arith
  few_events (suc n) s = few_then n (goes_on (step m times w s)) (taken m times w s) (few_events n)

  -- a step leads on and its word is seen; or it ends the run and its word is seen; or it is stuck and none is
  data Passes (s : State) : Step State → Option Taken → Type 0 where
    goes : (t : Taken) → Passes s (On t.state) (Some t)
    ends : (o : Outcome) (t : Taken) → (IsGoing o → ⊥) → Passes s (Over o) (Some t)
    fails : (o : Outcome) → IsFailure o → Passes s (Over o) None

  by_lead : (s : State) (word : Word) (l : Lead) → Passes s (leads_to l (effect m times w s word)) (Some (record { event = event_of s word; state = led_by l (effect m times w s word) }))
  by_lead s word (To p) = goes (record { event = event_of s word; state = record (effect m times w s word) { place = p } })
  by_lead s word (Halts z) = ends _ _ (λ g. g)
  by_lead s word (TrapsBy k) = ends _ _ (λ g. g)

  by_reason : (s : State) (word : Word) (why : Option Reason) →
      Passes s (unless_stuck why s (leads_to (lead_of s word.ops) (effect m times w s word))) (taken_unless why (record { event = event_of s word; state = led_by (lead_of s word.ops) (effect m times w s word) }))
  by_reason s word None = by_lead s word (lead_of s word.ops)
  by_reason s word (Some why) = fails _ tt

  by_word : (s : State) (word : Option Word) → Passes s (issue m times w s word) (issued_at m times w s word)
  by_word s None = fails _ tt
  by_word s (Some word) = by_reason s word (stuck_by m w s word.ops)

  passes : (s : State) → Passes s (step m times w s) (taken m times w s)
  passes s = by_word s (slice_get w.words s.place)

  -- what a run of one more word is, by its step
  abbrev after_step : ℕ → Step State → Outcome
  after_step n x = step_then (λ t. outcomes t n) x

  abbrev events_after : State → ℕ → Step State → Option Taken → List Event
  events_after s n x t = events_then (λ u. events u n) (goes_on x) t

  counts_at : (s : State) (n : ℕ) (x : Step State) (t : Option Taken) → Passes s x t → ((u : State) → (IsFailure (outcomes u n) → ⊥) → Counts (outcomes u) (events u) n (length (events u n))) →
      step m times w s ≡ x → taken m times w s ≡ t → (IsFailure (after_step n x) → ⊥) → Counts (outcomes s) (events s) (suc n) (length (events_after s n x t))
  counts_at s n x t (goes u) more is is_taken safe =
      let c = more u.state safe in
      let one : (k : ℕ) → outcomes s (suc k) ≡ outcomes u.state k = λ k. ap (after_step k) is in
      let seen : (k : ℕ) → events s (suc k) ≡ u.event ∷ events u.state k = λ k. ap (λ y. events_after s k y (taken m times w s)) is ∙ ap (events_after s k (On u.state)) is_taken in
      record {
        comes = one (length (events u.state n)) ∙ c.comes ∙ sym (one n);
        within = let le = c.within in omega arith;
        least = least u one c.least;
        all = λ g. ap suc (c.all (subst IsGoing (one n) g));
        seen = seen (length (events u.state n)) ∙ ap (λ es. u.event ∷ es) c.seen ∙ sym (seen n);
      }
    where
      least : (u : Taken) → ((k : ℕ) → outcomes s (suc k) ≡ outcomes u.state k) → ((fewer : ℕ) → fewer < length (events u.state n) → IsGoing (outcomes u.state fewer)) →
          (fewer : ℕ) → fewer < suc (length (events u.state n)) → IsGoing (outcomes s fewer)
      least u one h zero lt = tt
      least u one h (suc fewer) lt = subst IsGoing (sym (one fewer)) (h fewer (omega arith))
  counts_at s n x t (ends o u over) more is is_taken safe =
      let one : (k : ℕ) → outcomes s (suc k) ≡ o = λ k. ap (after_step k) is in
      let seen : (k : ℕ) → events s (suc k) ≡ u.event ∷ [] = λ k. ap (λ y. events_after s k y (taken m times w s)) is ∙ ap (events_after s k (Over o)) is_taken in
      record {
        comes = one 0 ∙ sym (one n);
        within = omega arith;
        least = least;
        all = λ g. absurd (over (subst IsGoing (one n) g));
        seen = seen 0 ∙ sym (seen n);
      }
    where
      least : (fewer : ℕ) → fewer < 1 → IsGoing (outcomes s fewer)
      least zero lt = tt
      least (suc fewer) lt = absurd (omega arith)
  counts_at s n x t (fails o failed) more is is_taken safe = absurd (safe failed)

  counts : (n : ℕ) (s : State) → (IsFailure (outcomes s n) → ⊥) → Counts (outcomes s) (events s) n (length (events s n))
  counts zero s safe = record { comes = refl; within = omega arith; least = λ fewer lt. absurd (omega arith); all = λ g. refl; seen = refl }
  counts (suc n) s safe = counts_at s n (step m times w s) (taken m times w s) (passes s) (counts n) refl refl safe

  pub issues_comes : (n : ℕ) (s : State) → (IsFailure (words_from m times w n s) → ⊥) → words_from m times w (length (events_from m times w n s)) s ≡ words_from m times w n s
  issues_comes n s safe = (counts n s safe).comes

  pub issues_within : (n : ℕ) (s : State) → (IsFailure (words_from m times w n s) → ⊥) → length (events_from m times w n s) ≤ n
  issues_within n s safe = (counts n s safe).within

  pub issues_least : (n : ℕ) (s : State) → (IsFailure (words_from m times w n s) → ⊥) → (fewer : ℕ) → fewer < length (events_from m times w n s) → IsGoing (words_from m times w fewer s)
  issues_least n s safe = (counts n s safe).least

  pub issues_all : (n : ℕ) (s : State) → (IsFailure (words_from m times w n s) → ⊥) → IsGoing (words_from m times w n s) → length (events_from m times w n s) ≡ n
  issues_all n s safe = (counts n s safe).all

  pub issues_seen : (n : ℕ) (s : State) → (IsFailure (words_from m times w n s) → ⊥) → events_from m times w (length (events_from m times w n s)) s ≡ events_from m times w n s
  issues_seen n s safe = (counts n s safe).seen
