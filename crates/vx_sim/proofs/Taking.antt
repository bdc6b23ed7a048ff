-- A word that takes effect in the simulator takes effect in the word machine.
use Rattle.std.proofs.Common.{◌≡◌, true, false, ℕ, ◌+◌, ◌-◌, Option, Some, None, List, [], ◌++◌, map, drop, count_by, slice_get, refl, sym, ap, subst, ◌∙◌, arith}
use Rattle.vx_io.specs.Outside.{with_bytes}
use Rattle.vx_base.specs.Flight.{landed_in, flying_in}
use Rattle.vx_isa.specs.declared.program.Word.{Word}
use Rattle.vx_isa.specs.declared.program.WordProgram.{WordProgram}
use Rattle.vx_isa.specs.Numbers.{Numbers}
use Rattle.vx_isa.specs.Operations.{same}
use Rattle.vx_isa.specs.Machine.{State, Write, Lead, To, Halts, TrapsBy, lead_of, writes_of, memory_after, takes_input, asked_by, cycles_of, effect, leads_to, issue, unless_stuck, stuck_by, print_of}
use Rattle.vx_base.specs.declared.outcome.Reason.{Reason}
use Rattle.vx_base.specs.declared.outcome.Reason.TheVariants.{BadTarget}
use Rattle.vx_base.specs.Outcome.{Stuck}
use Rattle.std.specs.List.{flat_map}
use Rattle.vx_probe.specs.Times.{Times, list_of, moved_by}
use Rattle.vx_probe.specs.Watch.{Watch, shown}
use Rattle.vx_sim.specs.Passed.{Taken, taken, issued as issued_by, event_of, counted, led_by, leads_away, unless_stuck as taken_unless}
use Rattle.vx_sim.specs.Flying.{by_landing}
use Rattle.vx_sim.specs.Standing.{rested}
use Rattle.vx_sim.specs.Leads.{lead_as, place_behind}
use Rattle.vx_sim.specs.Stepped.{Took, Stepped, Refused, leads_by, ended_as, is_fault_of}
use Rattle.vx_sim.specs.declared.leads.Lead.{Lead as CodeLead}
use Rattle.vx_sim.specs.declared.leads.Lead.TheVariants.{To as LeadTo, Halts as LeadHalts, TrapsBy as LeadTrapsBy}
use Rattle.vx_sim.specs.declared.ended.Ended.{Ended}
use Rattle.vx_sim.specs.declared.ended.Ended.TheVariants.{Halted, Trapped, Stopped, Stuck as StuckAt, SinkFault}
use Rattle.vx_sim.specs.Ran.{is_fault}
use Rattle.vx_sim.proofs.Elsewhere.{elsewhere, stuck_same, prints_same, lead_same, memory_same, writes_same}
use Rattle.vx_sim.proofs.Passing.{same_state, left_at, taken_at, taken_rests, taken_asked, taken_out, is_taken_at, is_step_by}

-- what a word leaves, field by field
pub record Leaves (m : Numbers) (w : WordProgram) (times : List ℕ) (b : State) (ws : List Write) (p : ℕ) (word : Word) (after : State) : Type 0 where
  pub place : after.place ≡ place_behind (lead_of b word.ops) b.place
  pub cycle : after.cycle ≡ counted (b.cycle + cycles_of word)
  pub registers : after.registers ≡ landed_in same (cycles_of word) b.registers (ws ++ writes_of m times w.memory b p word.ops)
  pub flying : after.flying ≡ by_landing (flying_in (cycles_of word) (ws ++ writes_of m times w.memory b p word.ops))
  pub memory : after.memory ≡ memory_after b word.ops b.memory
  pub input : after.input ≡ drop (count_by takes_input word.ops) b.input
  pub out : after.out ≡ []
  pub asked : after.asked ≡ 0

module _ (m : Numbers) (w : WordProgram) (times : List ℕ) (b : State) (ws : List Write) (p : ℕ) (word : Word) where
  abbrev pub here : State
  here = elsewhere b b.cycle ws [] p

  in_flight_here : (here.flying ++ writes_of m times w.memory here p word.ops) ≡ (ws ++ writes_of m times w.memory b p word.ops)
  in_flight_here = ap (λ (us : List Write). ws ++ us) (writes_same b b.cycle ws [] p m times w.memory p word.ops)

  leaves_by : (l : Lead) (left after : State) → after.place ≡ place_behind l b.place → left.place ≡ b.place → after.cycle ≡ left.cycle → after.registers ≡ left.registers → after.flying ≡ left.flying → after.memory ≡ left.memory
      → after.input ≡ left.input → after.out ≡ left.out → after.asked ≡ left.asked → after ≡ led_by l left
  leaves_by (To q) left after at p0 c r f s i o a = same_state after (record left { place = q }) at c r f s i o a
  leaves_by (Halts z) left after at p0 c r f s i o a = same_state after left (at ∙ sym p0) c r f s i o a
  leaves_by (TrapsBy k) left after at p0 c r f s i o a = same_state after left (at ∙ sym p0) c r f s i o a

  leaves_led : (l : Lead) (after : State) → after.place ≡ place_behind l b.place → Leaves m w times b ws p word after → after ≡ led_by l (left_at m times w here word)
  leaves_led l after at x =
      let f = sym in_flight_here in
      leaves_by l (left_at m times w here word) after at refl x.cycle
      (x.registers ∙ ap (landed_in same (cycles_of word) b.registers) f)
      (x.flying ∙ ap (λ us. by_landing (flying_in (cycles_of word) us)) f)
      (x.memory ∙ sym (memory_same b b.cycle ws [] p word.ops b.memory))
      x.input x.out x.asked

  pub leaves_rested : (after : State) → Leaves m w times b ws p word after → after ≡ rested (taken_at m times w here word).state
  leaves_rested after x =
      leaves_led (lead_of here word.ops) after (x.place ∙ ap (λ l. place_behind l b.place) (sym (lead_same b b.cycle ws [] p word.ops))) x ∙ sym (taken_rests m times w here word)

  pub event_here : event_of here word ≡ event_of b word
  event_here = ap (λ l. record (event_of b word) { taken = leads_away b.place l }) (lead_same b b.cycle ws [] p word.ops)

-- the clause of the step
pub took : (m : Numbers) (w : WordProgram) (t t' : Times) (b : State) (ws : List Write) (word : Word) (d : CodeLead) (after : State) (watches watches' : List Watch) (issued issued' : ℕ)
    → slice_get w.words b.place ≡ Some word → stuck_by m w b word.ops ≡ None → lead_as d ≡ lead_of b word.ops → Leaves m w (list_of t) b ws t.place word after
    → t' ≡ moved_by (asked_by word.ops) t → watches' ≡ map (λ v. shown v (event_of b word)) watches → issued' ≡ counted (issued + 1)
    → Took m w (elsewhere b b.cycle ws [] t.place) after t t' watches watches' issued issued' (leads_by d)
took m w t t' b ws word d after watches watches' issued issued' at free led leaves moves seen counts =
    let s = elsewhere b b.cycle ws [] t.place in
    let free' : stuck_by m w s word.ops ≡ None = stuck_same b b.cycle ws [] t.place m w word.ops ∙ free in
    let asks = taken_asked m (list_of t) w s word in
    let k : (taken_at m (list_of t) w s word).state.asked - t.place ≡ asked_by word.ops = omega (arith, asks) in
    record {
      word = taken_at m (list_of t) w s word;
      is = is_taken_at m (list_of t) w s word at free';
      step = is_step_by m (list_of t) w s word d (led ∙ sym (lead_same b b.cycle ws [] t.place word.ops)) at free';
      state = leaves_rested m w (list_of t) b ws t.place word after leaves;
      timing = moves ∙ ap (λ n. moved_by n t) (sym k);
      seen = seen ∙ ap (λ e. map (λ v. shown v e) watches) (sym (event_here m w (list_of t) b ws t.place word));
      counts = counts;
    }

-- the answer of the step, by the lead of the word
pub stepped_as : {m : Numbers} {w : WordProgram} {before after : State} {times times' : Times} {watches watches' : List Watch} {issued issued' : ℕ} (earlier later : Option (List ℕ)) (d : CodeLead) (r : Option Ended) → r ≡ ended_as d
    → (x : Took m w before after times times' watches watches' issued issued' (leads_by d)) → later ≡ with_bytes earlier x.word.state.out → Stepped m w before after times times' watches watches' issued issued' earlier later r
stepped_as {m} {w} {before} {after} {times} {times'} {watches} {watches'} {issued} {issued'} earlier later d r e x put =
    subst (Stepped m w before after times times' watches watches' issued issued' earlier later) (sym e) (by d x put)
  where
    by : (k : CodeLead) (y : Took m w before after times times' watches watches' issued issued' (leads_by k)) → later ≡ with_bytes earlier y.word.state.out → Stepped m w before after times times' watches watches' issued issued' earlier later (ended_as k)
    by (LeadTo p) y put = record { took = y; told = put }
    by (LeadHalts z) y put = record { took = y; told = put }
    by (LeadTrapsBy k) y put = record { took = y; told = put }

-- the text of a word that takes effect
pub text_of : (m : Numbers) (w : WordProgram) (times : List ℕ) (b : State) (ws : List Write) (p : ℕ) (word : Word) (x : Taken) → slice_get w.words b.place ≡ Some word → stuck_by m w b word.ops ≡ None
    → taken m times w (elsewhere b b.cycle ws [] p) ≡ Some x → x.state.out ≡ flat_map (print_of w b) word.ops
text_of m w times b ws p word x at free is =
    let s = elsewhere b b.cycle ws [] p in
    let free' : stuck_by m w s word.ops ≡ None = stuck_same b b.cycle ws [] p m w word.ops ∙ free in
    let there : taken m times w s ≡ Some (taken_at m times w s word) = is_taken_at m times w s word at free' in
    let e : x ≡ taken_at m times w s word = cc in
    ap (λ (y : Taken). y.state.out) e ∙ taken_out m times w s word ∙ prints_same b b.cycle ws [] p w word.ops

-- a word that is not stuck takes effect
pub takes_it : (m : Numbers) (w : WordProgram) (times : List ℕ) (b : State) (ws : List Write) (p : ℕ) (word : Word) → slice_get w.words b.place ≡ Some word → stuck_by m w b word.ops ≡ None
    → taken m times w (elsewhere b b.cycle ws [] p) ≡ Some (taken_at m times w (elsewhere b b.cycle ws [] p) word)
takes_it m w times b ws p word at free = is_taken_at m times w (elsewhere b b.cycle ws [] p) word at (stuck_same b b.cycle ws [] p m w word.ops ∙ free)

-- a word that is stuck has no effect

module _ (m : Numbers) (w : WordProgram) (t : Times) (b : State) (ws : List Write) (watches : List Watch) (issued : ℕ) (told : Option (List ℕ)) where
  abbrev pub stands : State
  stands = elsewhere b b.cycle ws [] t.place

  pub refused : (word : Word) (why : Reason) → slice_get w.words b.place ≡ Some word → stuck_by m w b word.ops ≡ Some why
      → Refused m w stands (elsewhere b b.cycle ws [] 0) t t watches watches issued issued told told (Stuck why b.place [])
  refused word why at stuck =
      let e : stuck_by m w stands word.ops ≡ Some why = stuck_same b b.cycle ws [] t.place m w word.ops ∙ stuck in
      record {
        stayed = record { state = refl; timing = refl; seen = refl; counts = refl };
        untaken = ap (issued_by m (list_of t) w stands) at ∙ ap (λ (x : Option Reason). taken_unless x (taken_at m (list_of t) w stands word)) e;
        step = ap (issue m (list_of t) w stands) at ∙ ap (λ (x : Option Reason). unless_stuck x stands (leads_to (lead_of stands word.ops) (effect m (list_of t) w stands word))) e;
        told = refl;
      }

  pub refused_here : slice_get w.words b.place ≡ None → Refused m w stands (elsewhere b b.cycle ws [] 0) t t watches watches issued issued told told (Stuck BadTarget b.place [])
  refused_here at = record {
    stayed = record { state = refl; timing = refl; seen = refl; counts = refl };
    untaken = ap (issued_by m (list_of t) w stands) at;
    step = ap (issue m (list_of t) w stands) at;
    told = refl;
  }

pub not_true : {P : Type 0} → false ≡ true → P
not_true e = absurd (cc)

-- a word that takes effect is no fault of the sink
pub no_fault : {P : Type 0} (d : CodeLead) (r : Option Ended) → r ≡ ended_as d → is_fault_of r ≡ true → P
no_fault (LeadTo p) r e h = let k : is_fault_of r ≡ false = ap is_fault_of e in absurd (cc)
no_fault (LeadHalts z) r e h = let k : is_fault_of r ≡ false = ap is_fault_of e in absurd (cc)
no_fault (LeadTrapsBy t) r e h = let k : is_fault_of r ≡ false = ap is_fault_of e in absurd (cc)

-- a fault of the sink by either name
pub fault_of : (ended : Ended) → is_fault ended ≡ true → is_fault_of (Some ended) ≡ true
fault_of (Halted z) e = not_true e
fault_of (Trapped t) e = not_true e
fault_of Stopped e = not_true e
fault_of (StuckAt why place) e = not_true e
fault_of SinkFault e = refl
