-- What the word machine makes of a word, told apart by what the state's cycle, output and asked times change.
use Rattle.std.proofs.Common.{◌≡◌, ℕ, zero, suc, ◌+◌, ◌-◌, ◌%◌, Option, Some, None, List, [], ◌++◌, length, drop, count_by, slice_get, refl, sym, ap, subst, ◌∙◌, arith}
use Rattle.std.specs.List.{flat_map}
use Rattle.vx_base.specs.Outcome.{Ends, Traps, Stuck, Goes, output_of, Over, step_then}
use Rattle.vx_base.specs.Flight.{landed, flying, landed_in, flying_in}
use Rattle.vx_base.specs.declared.outcome.Reason.{Reason}
use Rattle.vx_base.specs.declared.outcome.Reason.TheVariants.{BadTarget}
use Rattle.vx_isa.specs.declared.operation.Operation.{Operation}
use Rattle.vx_isa.specs.declared.program.Word.{Word}
use Rattle.vx_isa.specs.declared.program.WordProgram.{WordProgram}
use Rattle.vx_isa.specs.Numbers.{Numbers}
use Rattle.vx_isa.specs.Operations.{same}
use Rattle.vx_isa.specs.Machine.{State, Write, Lead, To, Halts, TrapsBy, lead_of, writes_of, memory_after, takes_input, print_of, asked_by, after_cycles, cycles_of, effect, leads_to, unless_stuck, stuck_by, issue, step}
use Rattle.vx_sim.specs.Passed.{Taken, taken, issued, event_of, counted, led_by, leads_away, unless_stuck as taken_unless}
use Rattle.vx_sim.specs.Flying.{by_landing}
use Rattle.vx_sim.specs.Standing.{rested}
use Rattle.vx_sim.specs.Leads.{lead_as}
use Rattle.vx_sim.specs.Stepped.{leads_by}
use Rattle.vx_sim.specs.declared.leads.Lead.{Lead as CodeLead}
use Rattle.vx_sim.specs.declared.leads.Lead.TheVariants.{To as LeadTo, Halts as LeadHalts, TrapsBy as LeadTrapsBy}
use Rattle.vx_sim.proofs.Elsewhere.{stuck_same, prints_same, lead_same, memory_same, writes_same}
use Rattle.vx_sim.proofs.Issuing.{writes_mod}
use Rattle.vx_sim.proofs.Sorting.{landed_in_more, flying_in_more}

pub same_state : (s t : State) → s.place ≡ t.place → s.cycle ≡ t.cycle → s.registers ≡ t.registers → s.flying ≡ t.flying → s.memory ≡ t.memory → s.input ≡ t.input → s.out ≡ t.out → s.asked ≡ t.asked → s ≡ t
same_state s t a b c d e f g h = λ i. record { place = a i; cycle = b i; registers = c i; flying = d i; memory = e i; input = f i; out = g i; asked = h i }

pub counted_twice : (n : ℕ) → counted (counted n) ≡ counted n
counted_twice n = omega arith

pub counted_more : (n k : ℕ) → counted (counted n + k) ≡ counted (n + k)
counted_more n k = omega arith

-- cycles change the cycle, the registers and the flight alone
pub after_is : (n : ℕ) (s : State) → after_cycles n s ≡ record s { cycle = s.cycle + n; registers = landed_in same n s.registers s.flying; flying = flying_in n s.flying }
after_is zero s = let e : s.cycle ≡ s.cycle + 0 = omega arith in ap (λ c. record s { cycle = c }) e
after_is (suc n) s =
    let e : s.cycle + 1 + n ≡ s.cycle + suc n = omega arith in
    after_is n (record s { cycle = s.cycle + 1; registers = landed same s.registers s.flying; flying = flying s.flying })
    ∙ ap (λ c. record s { cycle = c; registers = landed_in same (suc n) s.registers s.flying; flying = flying_in (suc n) s.flying }) e

module _ (m : Numbers) (times : List ℕ) (w : WordProgram) where
  -- the writes in flight once those of the word are issued
  abbrev pub in_flight : State → List Operation → List Write
  in_flight s ops = s.flying ++ writes_of m times w.memory s s.asked ops

  -- where the word leaves the machine, its cycle counted, its output and its asked times aside
  abbrev pub left_at : State → Word → State
  left_at s word = record s {
    cycle = counted (s.cycle + cycles_of word);
    registers = landed_in same (cycles_of word) s.registers (in_flight s word.ops);
    flying = by_landing (flying_in (cycles_of word) (in_flight s word.ops));
    memory = memory_after s word.ops s.memory;
    input = drop (count_by takes_input word.ops) s.input;
    out = [];
    asked = 0;
  }

  abbrev pub issued_at : State → Word → State
  issued_at s word = record s {
    flying = in_flight s word.ops;
    memory = memory_after s word.ops s.memory;
    input = drop (count_by takes_input word.ops) s.input;
    out = s.out ++ flat_map (print_of w s) word.ops;
    asked = s.asked + asked_by word.ops;
  }

  effect_rests : (s : State) (word : Word) → rested (effect m times w s word) ≡ left_at s word
  effect_rests s word = ap rested (after_is (cycles_of word) (issued_at s word))

  effect_out : (s : State) (word : Word) → (effect m times w s word).out ≡ s.out ++ flat_map (print_of w s) word.ops
  effect_out s word = ap (λ (t : State). t.out) (after_is (cycles_of word) (issued_at s word))

  effect_asked : (s : State) (word : Word) → (effect m times w s word).asked ≡ s.asked + asked_by word.ops
  effect_asked s word = ap (λ (t : State). t.asked) (after_is (cycles_of word) (issued_at s word))

  -- a word that takes effect
  abbrev pub taken_at : State → Word → Taken
  taken_at s word = record { event = event_of s word; state = led_by (lead_of s word.ops) (effect m times w s word) }

  led_out : (l : Lead) (s : State) → (led_by l s).out ≡ s.out
  led_out (To p) s = refl
  led_out (Halts z) s = refl
  led_out (TrapsBy k) s = refl

  led_asked : (l : Lead) (s : State) → (led_by l s).asked ≡ s.asked
  led_asked (To p) s = refl
  led_asked (Halts z) s = refl
  led_asked (TrapsBy k) s = refl

  led_rests : (l : Lead) (s : State) → rested (led_by l s) ≡ led_by l (rested s)
  led_rests (To p) s = refl
  led_rests (Halts z) s = refl
  led_rests (TrapsBy k) s = refl

  pub taken_out : (s : State) (word : Word) → (taken_at s word).state.out ≡ s.out ++ flat_map (print_of w s) word.ops
  taken_out s word = led_out (lead_of s word.ops) (effect m times w s word) ∙ effect_out s word

  pub taken_asked : (s : State) (word : Word) → (taken_at s word).state.asked ≡ s.asked + asked_by word.ops
  taken_asked s word = led_asked (lead_of s word.ops) (effect m times w s word) ∙ effect_asked s word

  pub taken_rests : (s : State) (word : Word) → rested (taken_at s word).state ≡ led_by (lead_of s word.ops) (left_at s word)
  taken_rests s word = led_rests (lead_of s word.ops) (effect m times w s word) ∙ ap (led_by (lead_of s word.ops)) (effect_rests s word)

  -- a word that is not stuck
  pub is_taken_at : (s : State) (word : Word) → slice_get w.words s.place ≡ Some word → stuck_by m w s word.ops ≡ None → taken m times w s ≡ Some (taken_at s word)
  is_taken_at s word e free = ap (issued m times w s) e ∙ ap (λ why. taken_unless why (taken_at s word)) free

  pub is_step_at : (s : State) (word : Word) → slice_get w.words s.place ≡ Some word → stuck_by m w s word.ops ≡ None → step m times w s ≡ leads_to (lead_of s word.ops) (effect m times w s word)
  is_step_at s word e free = ap (issue m times w s) e ∙ ap (λ why. unless_stuck why s (leads_to (lead_of s word.ops) (effect m times w s word))) free

  -- the step by the lead of the code
  leads_as : (d : CodeLead) (s : State) → leads_to (lead_as d) s ≡ leads_by d (led_by (lead_as d) s)
  leads_as (LeadTo p) s = refl
  leads_as (LeadHalts z) s = refl
  leads_as (LeadTrapsBy k) s = refl

  pub is_step_by : (s : State) (word : Word) (d : CodeLead) → lead_as d ≡ lead_of s word.ops → slice_get w.words s.place ≡ Some word → stuck_by m w s word.ops ≡ None → step m times w s ≡ leads_by d (taken_at s word).state
  is_step_by s word d led e free =
      is_step_at s word e free ∙ ap (λ l. leads_to l (effect m times w s word)) (sym led) ∙ leads_as d (effect m times w s word) ∙ ap (λ l. leads_by d (led_by l (effect m times w s word))) led

  -- the output behind a word that takes effect, whether it ends the program or not
  out_led : (l : Lead) (s : State) → output_of (step_then (λ (v : State). Goes v.out) (leads_to l s)) ≡ (led_by l s).out
  out_led (To p) s = refl
  out_led (Halts z) s = refl
  out_led (TrapsBy k) s = refl

  out_issued : (s : State) (word : Word) (t : Taken) (why : Option Reason) → taken_unless why (taken_at s word) ≡ Some t
      → output_of (step_then (λ (v : State). Goes v.out) (unless_stuck why s (leads_to (lead_of s word.ops) (effect m times w s word)))) ≡ t.state.out
  out_issued s word t (Some why) e = absurd (cc)
  out_issued s word t None e = let same_taken : taken_at s word ≡ t = cc in out_led (lead_of s word.ops) (effect m times w s word) ∙ ap (λ (x : Taken). x.state.out) same_taken

  out_at : (s : State) (o : Option Word) (t : Taken) → issued m times w s o ≡ Some t → output_of (step_then (λ (v : State). Goes v.out) (issue m times w s o)) ≡ t.state.out
  out_at s None t e = absurd (cc)
  out_at s (Some word) t e = out_issued s word t (stuck_by m w s word.ops) e

  pub out_taken : (s : State) (t : Taken) → taken m times w s ≡ Some t → output_of (step_then (λ (v : State). Goes v.out) (step m times w s)) ≡ t.state.out
  out_taken s t e = out_at s (slice_get w.words s.place) t e

  -- Two states that differ in the cycle past the greatest count, in the order of writes in flight that land in different
  -- cycles, in the output and in the asked times.
  module _ (u : State) (p : ℕ) (close : p % length times ≡ u.asked % length times) where
    abbrev pub near_state : State
    near_state = record (rested u) { asked = p }

    in_flight_near : (ops : List Operation) → in_flight near_state ops ≡ by_landing u.flying ++ writes_of m times w.memory u u.asked ops
    in_flight_near ops = ap (λ (ws : List Write). by_landing u.flying ++ ws) (writes_same u (counted u.cycle) (by_landing u.flying) [] p m times w.memory p ops ∙ writes_mod m times w.memory u p u.asked ops close)

    left_near : (word : Word) → left_at near_state word ≡ left_at u word
    left_near word =
        let f = in_flight_near word.ops in
        let ns = writes_of m times w.memory u u.asked word.ops in
        same_state (left_at near_state word) (left_at u word) refl (counted_more u.cycle (cycles_of word))
        (ap (landed_in same (cycles_of word) u.registers) f ∙ landed_in_more (cycles_of word) u.registers u.flying ns)
        (ap (λ us. by_landing (flying_in (cycles_of word) us)) f ∙ flying_in_more (cycles_of word) u.flying ns)
        (memory_same u (counted u.cycle) (by_landing u.flying) [] p word.ops u.memory) refl refl refl

    lead_near : (ops : List Operation) → lead_of near_state ops ≡ lead_of u ops
    lead_near ops = lead_same u (counted u.cycle) (by_landing u.flying) [] p ops

    stuck_near : (ops : List Operation) → stuck_by m w near_state ops ≡ stuck_by m w u ops
    stuck_near ops = stuck_same u (counted u.cycle) (by_landing u.flying) [] p m w ops

    event_near : (word : Word) → event_of near_state word ≡ event_of u word
    event_near word =
        ap (λ c. record (event_of near_state word) { cycle = c }) (counted_twice u.cycle)
        ∙ ap (λ l. record (event_of u word) { taken = leads_away u.place l }) (lead_near word.ops)

    -- what a word does at both
    pub record Alike (t near : Taken) : Type 0 where
      pub event : near.event ≡ t.event
      pub state : rested near.state ≡ rested t.state
      pub out : t.state.out ≡ u.out ++ near.state.out
      pub asked : t.state.asked ≡ u.asked + (near.state.asked - p)

    alike_at : (word : Word) → Alike (taken_at u word) (taken_at near_state word)
    alike_at word =
        let a = taken_asked u word in
        let b = taken_asked near_state word in
        record {
          event = event_near word;
          state = taken_rests near_state word ∙ ap (λ l. led_by l (left_at near_state word)) (lead_near word.ops) ∙ ap (led_by (lead_of u word.ops)) (left_near word) ∙ sym (taken_rests u word);
          out = taken_out u word ∙ ap (λ xs. u.out ++ xs) (sym (prints_same u (counted u.cycle) (by_landing u.flying) [] p w word.ops) ∙ sym (taken_out near_state word));
          asked = omega arith;
        }

    leads_near : (l : Lead) (d : CodeLead) (s s' : State) → leads_to l s' ≡ leads_by d (led_by l s') → leads_to l s ≡ leads_by d (led_by l s)
    leads_near (To q) (LeadTo r) s s' e = refl
    leads_near (To q) (LeadHalts z) s s' e = absurd (cc)
    leads_near (To q) (LeadTrapsBy k) s s' e = absurd (cc)
    leads_near (Halts z) (LeadTo r) s s' e = absurd (cc)
    leads_near (Halts z) (LeadHalts y) s s' e = let h : z ≡ y = cc in ap (λ x. Over (Ends x s.out)) h
    leads_near (Halts z) (LeadTrapsBy k) s s' e = absurd (cc)
    leads_near (TrapsBy k) (LeadTo r) s s' e = absurd (cc)
    leads_near (TrapsBy k) (LeadHalts y) s s' e = absurd (cc)
    leads_near (TrapsBy k) (LeadTrapsBy j) s s' e = let h : k ≡ j = cc in ap (λ x. Over (Traps x s.out)) h

    -- the word that takes effect here takes effect there
    pub record TakenNear (near : Taken) : Type 0 where
      pub word : Taken
      pub is : taken m times w u ≡ Some word
      pub alike : Alike word near
      pub steps : (d : CodeLead) → step m times w near_state ≡ leads_by d near.state → step m times w u ≡ leads_by d word.state

    unstuck_near : (word : Word) (t : Taken) (why : Option Reason) → slice_get w.words u.place ≡ Some word → stuck_by m w near_state word.ops ≡ why → taken_unless why (taken_at near_state word) ≡ Some t → TakenNear t
    unstuck_near word t (Some why) e s h = absurd (cc)
    unstuck_near word t None e s h =
        let same_taken : taken_at near_state word ≡ t = cc in
        let free : stuck_by m w u word.ops ≡ None = sym (stuck_near word.ops) ∙ s in
        record {
          word = taken_at u word;
          is = is_taken_at u word e free;
          alike = subst (Alike (taken_at u word)) same_taken (alike_at word);
          steps = λ d k.
              let k' : step m times w near_state ≡ leads_by d (taken_at near_state word).state = k ∙ ap (λ (x : Taken). leads_by d x.state) (sym same_taken) in
              let there : leads_to (lead_of u word.ops) (effect m times w near_state word) ≡ leads_by d (led_by (lead_of u word.ops) (effect m times w near_state word)) =
              ap (λ l. leads_to l (effect m times w near_state word)) (sym (lead_near word.ops)) ∙ sym (is_step_at near_state word e s) ∙ k' ∙ ap (λ l. leads_by d (led_by l (effect m times w near_state word))) (lead_near word.ops) in
              is_step_at u word e free ∙ leads_near (lead_of u word.ops) d (effect m times w u word) (effect m times w near_state word) there;
        }

    word_near : (o : Option Word) (t : Taken) → slice_get w.words u.place ≡ o → issued m times w near_state o ≡ Some t → TakenNear t
    word_near None t e h = absurd (cc)
    word_near (Some word) t e h = unstuck_near word t (stuck_by m w near_state word.ops) e refl h

    pub taken_near : (t : Taken) → taken m times w near_state ≡ Some t → TakenNear t
    taken_near t h = word_near (slice_get w.words u.place) t refl h

    -- a word that is stuck here is stuck there
    pub record StuckNear (why : Reason) (q : ℕ) : Type 0 where
      pub untaken : taken m times w u ≡ None
      pub step : step m times w u ≡ Over (Stuck why q u.out)

    stuck_at_near : (o : Option Word) (why : Reason) (q : ℕ) → slice_get w.words u.place ≡ o → issued m times w near_state o ≡ None → issue m times w near_state o ≡ Over (Stuck why q []) → StuckNear why q
    stuck_at_near None why q e n h = record {
      untaken = ap (issued m times w u) e;
      step = ap (issue m times w u) e ∙ (let b : BadTarget ≡ why = cc in let c : u.place ≡ q = cc in ap (λ x. Over (Stuck x u.place u.out)) b ∙ ap (λ x. Over (Stuck why x u.out)) c);
    }
    stuck_at_near (Some word) why q e n h = by (stuck_by m w near_state word.ops) (sym (stuck_near word.ops)) n h
      where
        by : (r : Option Reason) → stuck_by m w u word.ops ≡ r → taken_unless r (taken_at near_state word) ≡ None → unless_stuck r near_state (leads_to (lead_of near_state word.ops) (effect m times w near_state word)) ≡ Over (Stuck why q []) → StuckNear why q
        by None s n h = absurd (cc)
        by (Some r) s n h = record {
          untaken = ap (issued m times w u) e ∙ ap (λ x. taken_unless x (taken_at u word)) s;
          step = ap (issue m times w u) e ∙ ap (λ x. unless_stuck x u (leads_to (lead_of u word.ops) (effect m times w u word))) s
              ∙ (let b : r ≡ why = cc in let c : u.place ≡ q = cc in ap (λ x. Over (Stuck x u.place u.out)) b ∙ ap (λ x. Over (Stuck why x u.out)) c);
        }

    pub stuck_there : (why : Reason) (q : ℕ) → taken m times w near_state ≡ None → step m times w near_state ≡ Over (Stuck why q []) → StuckNear why q
    stuck_there why q n h = stuck_at_near (slice_get w.words u.place) why q refl n h
