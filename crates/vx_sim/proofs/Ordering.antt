-- The order of issue of writes that land in different cycles does not count.
use Rattle.std.proofs.Common.{◌≡◌, ℕ, zero, suc, Option, Some, None, List, ◌∷◌, ◌++◌, slice_get, refl, sym, ap, ◌∙◌}
use Rattle.vx_base.specs.Outcome.{step_then}
use Rattle.vx_base.specs.Flight.{landed_in, flying_in}
use Rattle.vx_base.specs.declared.outcome.Reason.{Reason}
use Rattle.vx_isa.specs.declared.program.Word.{Word}
use Rattle.vx_isa.specs.declared.program.WordProgram.{WordProgram}
use Rattle.vx_isa.specs.Numbers.{Numbers}
use Rattle.vx_isa.specs.Operations.{same}
use Rattle.vx_isa.specs.Machine.{State, Write, Lead, To, Halts, TrapsBy, lead_of, writes_of, cycles_of, effect, leads_to, unless_stuck, stuck_by, issue, words_from}
use Rattle.vx_probe.specs.declared.event.Event.{Event}
use Rattle.vx_sim.specs.Flying.{by_landing}
use Rattle.vx_sim.specs.Order.{in_order, SameRun, OrderLaw}
use Rattle.vx_sim.specs.Passed.{event_of, leads_away, led_by, unless_stuck as taken_unless, issued, goes_on, state_then, state_from, events_then, events_from}
use Rattle.vx_sim.proofs.Elsewhere.{stuck_same, prints_same, lead_same, memory_same, writes_same}
use Rattle.vx_sim.proofs.Passing.{same_state, after_is, issued_at, taken_at}
use Rattle.vx_sim.proofs.Sorting.{landed_in_more, flying_in_more, sorted_twice}

abbrev with_flying : State → List Write → State
with_flying s ws = record s { flying = ws }

module _ (m : Numbers) (times : List ℕ) (w : WordProgram) where
  module _ (s : State) (ws : List Write) (alike : by_landing ws ≡ by_landing s.flying) (word : Word) where
    abbrev other : State
    other = with_flying s ws

    abbrev ns : List Write
    ns = writes_of m times w.memory s s.asked word.ops

    abbrev flown : List Write
    flown = flying_in (cycles_of word) (ws ++ ns)

    same_writes : (ws ++ writes_of m times w.memory other s.asked word.ops) ≡ (ws ++ ns)
    same_writes = ap (λ (us : List Write). ws ++ us) (writes_same s s.cycle ws s.out s.asked m times w.memory s.asked word.ops)

    same_landed : landed_in same (cycles_of word) s.registers (ws ++ ns) ≡ landed_in same (cycles_of word) s.registers (s.flying ++ ns)
    same_landed =
        sym (landed_in_more (cycles_of word) s.registers ws ns)
        ∙ ap (λ (us : List Write). landed_in same (cycles_of word) s.registers (us ++ ns)) alike
        ∙ landed_in_more (cycles_of word) s.registers s.flying ns

    effect_alike : effect m times w other word ≡ with_flying (effect m times w s word) flown
    effect_alike =
        let there = after_is (cycles_of word) (issued_at m times w other word) in
        let here = after_is (cycles_of word) (issued_at m times w s word) in
        there
        ∙ same_state _ _ refl refl
        (ap (landed_in same (cycles_of word) s.registers) same_writes ∙ same_landed)
        (ap (flying_in (cycles_of word)) same_writes)
        (memory_same s s.cycle ws s.out s.asked word.ops s.memory)
        refl
        (ap (λ (xs : List ℕ). s.out ++ xs) (prints_same s s.cycle ws s.out s.asked w word.ops))
        refl
        ∙ ap (λ (t : State). with_flying t flown) (sym here)

    flown_alike : by_landing flown ≡ by_landing (effect m times w s word).flying
    flown_alike =
        sym (flying_in_more (cycles_of word) ws ns)
        ∙ ap (λ (us : List Write). by_landing (flying_in (cycles_of word) (us ++ ns))) alike
        ∙ flying_in_more (cycles_of word) s.flying ns
        ∙ ap (λ (t : State). by_landing t.flying) (sym (after_is (cycles_of word) (issued_at m times w s word)))

    lead_alike : lead_of other word.ops ≡ lead_of s word.ops
    lead_alike = lead_same s s.cycle ws s.out s.asked word.ops

    stuck_alike : stuck_by m w other word.ops ≡ stuck_by m w s word.ops
    stuck_alike = stuck_same s s.cycle ws s.out s.asked m w word.ops

    event_alike : event_of other word ≡ event_of s word
    event_alike = ap (λ l. record (event_of s word) { taken = leads_away s.place l }) lead_alike

  -- the next word, and so many behind it
  record AtWord (n : ℕ) (s t : State) (o : Option Word) : Type 0 where
    outcome : step_then (words_from m times w n) (issue m times w s o) ≡ step_then (words_from m times w n) (issue m times w t o)
    events : events_then (events_from m times w n) (goes_on (issue m times w s o)) (issued m times w s o) ≡ events_then (events_from m times w n) (goes_on (issue m times w t o)) (issued m times w t o)
    state : in_order (state_then (state_from m times w n) (goes_on (issue m times w s o)) s (issued m times w s o)) ≡ in_order (state_then (state_from m times w n) (goes_on (issue m times w t o)) t (issued m times w t o))

  -- the same by the lead and the state that the word leaves
  record AtLead (n : ℕ) (s t u v : State) (e : Event) (l : Lead) : Type 0 where
    outcome : step_then (words_from m times w n) (leads_to l u) ≡ step_then (words_from m times w n) (leads_to l v)
    events : events_then (events_from m times w n) (goes_on (leads_to l u)) (Some (record { event = e; state = led_by l u })) ≡ events_then (events_from m times w n) (goes_on (leads_to l v)) (Some (record { event = e; state = led_by l v }))
    state : in_order (state_then (state_from m times w n) (goes_on (leads_to l u)) s (Some (record { event = e; state = led_by l u }))) ≡ in_order (state_then (state_from m times w n) (goes_on (leads_to l v)) t (Some (record { event = e; state = led_by l v })))

  abbrev RunsAlike : ℕ → Type 0
  RunsAlike n = (s : State) (ws : List Write) → by_landing ws ≡ by_landing s.flying → SameRun m times w n (with_flying s ws) s

  in_order_alike : (s : State) (ws : List Write) → by_landing ws ≡ by_landing s.flying → in_order (with_flying s ws) ≡ in_order s
  in_order_alike s ws alike = ap (λ (us : List Write). with_flying s us) alike

  led_alike : (n : ℕ) → RunsAlike n → (s t v : State) (f : List Write) (e : Event) → by_landing f ≡ by_landing v.flying → (l : Lead) → AtLead n s t (with_flying v f) v e l
  led_alike n more s t v f e alike (To p) =
      let x = more (record v { place = p }) f alike in
      record { outcome = x.outcome; events = ap (λ (es : List Event). e ∷ es) x.events; state = x.state }
  led_alike n more s t v f e alike (Halts z) = record { outcome = refl; events = refl; state = in_order_alike v f alike }
  led_alike n more s t v f e alike (TrapsBy k) = record { outcome = refl; events = refl; state = in_order_alike v f alike }

  one_more : (n : ℕ) → RunsAlike n → RunsAlike (suc n)
  one_more n more s ws alike = let x = at (slice_get w.words s.place) in record { outcome = x.outcome; events = x.events; state = x.state }
    where
      t : State
      t = with_flying s ws

      stays : in_order t ≡ in_order s
      stays = in_order_alike s ws alike

      -- a word by the reason for which it is stuck
      unstuck : (word : Word) (why : Option Reason) → stuck_by m w t word.ops ≡ why → stuck_by m w s word.ops ≡ why → AtWord n t s (Some word)
      unstuck word (Some why) there here = record {
        outcome = ap (λ y. step_then (words_from m times w n) (unless_stuck y t (leads_to (lead_of t word.ops) (effect m times w t word)))) there ∙ sym (ap (λ y. step_then (words_from m times w n) (unless_stuck y s (leads_to (lead_of s word.ops) (effect m times w s word)))) here);
        events = ap (λ y. events_then (events_from m times w n) (goes_on (unless_stuck y t (leads_to (lead_of t word.ops) (effect m times w t word)))) (taken_unless y (taken_at m times w t word))) there
            ∙ sym (ap (λ y. events_then (events_from m times w n) (goes_on (unless_stuck y s (leads_to (lead_of s word.ops) (effect m times w s word)))) (taken_unless y (taken_at m times w s word))) here);
        state = ap (λ y. in_order (state_then (state_from m times w n) (goes_on (unless_stuck y t (leads_to (lead_of t word.ops) (effect m times w t word)))) t (taken_unless y (taken_at m times w t word)))) there
            ∙ stays ∙ sym (ap (λ y. in_order (state_then (state_from m times w n) (goes_on (unless_stuck y s (leads_to (lead_of s word.ops) (effect m times w s word)))) s (taken_unless y (taken_at m times w s word)))) here);
      }
      unstuck word None there here =
          let f = flown s ws alike word in
          let v = effect m times w s word in
          let e = event_of s word in
          let l = lead_of s word.ops in
          let same_lead = lead_alike s ws alike word in
          let same_effect = effect_alike s ws alike word in
          let same_event = event_alike s ws alike word in
          let x = led_alike n more t s v f e (flown_alike s ws alike word) l in
          record {
            outcome = ap (λ y. step_then (words_from m times w n) (unless_stuck y t (leads_to (lead_of t word.ops) (effect m times w t word)))) there
                ∙ ap (λ k. step_then (words_from m times w n) (leads_to k (effect m times w t word))) same_lead
                ∙ ap (λ u. step_then (words_from m times w n) (leads_to l u)) same_effect
                ∙ x.outcome
                ∙ sym (ap (λ y. step_then (words_from m times w n) (unless_stuck y s (leads_to l v))) here);
            events = ap (λ y. events_then (events_from m times w n) (goes_on (unless_stuck y t (leads_to (lead_of t word.ops) (effect m times w t word)))) (taken_unless y (taken_at m times w t word))) there
                ∙ ap (λ k. events_then (events_from m times w n) (goes_on (leads_to k (effect m times w t word))) (Some (record { event = event_of t word; state = led_by k (effect m times w t word) }))) same_lead
                ∙ ap (λ u. events_then (events_from m times w n) (goes_on (leads_to l u)) (Some (record { event = event_of t word; state = led_by l u }))) same_effect
                ∙ ap (λ d. events_then (events_from m times w n) (goes_on (leads_to l (with_flying v f))) (Some (record { event = d; state = led_by l (with_flying v f) }))) same_event
                ∙ x.events
                ∙ sym (ap (λ y. events_then (events_from m times w n) (goes_on (unless_stuck y s (leads_to l v))) (taken_unless y (taken_at m times w s word))) here);
            state = ap (λ y. in_order (state_then (state_from m times w n) (goes_on (unless_stuck y t (leads_to (lead_of t word.ops) (effect m times w t word)))) t (taken_unless y (taken_at m times w t word)))) there
                ∙ ap (λ k. in_order (state_then (state_from m times w n) (goes_on (leads_to k (effect m times w t word))) t (Some (record { event = event_of t word; state = led_by k (effect m times w t word) })))) same_lead
                ∙ ap (λ u. in_order (state_then (state_from m times w n) (goes_on (leads_to l u)) t (Some (record { event = event_of t word; state = led_by l u })))) same_effect
                ∙ ap (λ d. in_order (state_then (state_from m times w n) (goes_on (leads_to l (with_flying v f))) t (Some (record { event = d; state = led_by l (with_flying v f) })))) same_event
                ∙ x.state
                ∙ sym (ap (λ y. in_order (state_then (state_from m times w n) (goes_on (unless_stuck y s (leads_to l v))) s (taken_unless y (taken_at m times w s word)))) here);
          }

      at : (o : Option Word) → AtWord n t s o
      at None = record { outcome = refl; events = refl; state = stays }
      at (Some word) = unstuck word (stuck_by m w s word.ops) (stuck_alike s ws alike word) refl

  runs_alike : (n : ℕ) → RunsAlike n
  runs_alike zero s ws alike = record { outcome = refl; events = refl; state = in_order_alike s ws alike }
  runs_alike (suc n) s ws alike = one_more n (runs_alike n) s ws alike

pub order_law : OrderLaw
order_law m times w n s = runs_alike m times w n s (by_landing s.flying) (sorted_twice s.flying)
