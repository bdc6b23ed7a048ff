-- How far a call of the simulator has come, and what it leaves when it ends.
use Rattle.std.proofs.Common.{◌≡◌, ℕ, zero, suc, ◌+◌, ◌-◌, ◌%◌, ◌<◌, ◌≤◌, true, false, Option, Some, None, List, [], ◌∷◌, ◌++◌, length, length-append, map, refl, sym, ap, subst, ◌∙◌, arith, append_assoc, append-nil}
use Rattle.std.proofs.Math.Nat.{mod-mod, add-mod}
use Rattle.vx_base.specs.Outcome.{Outcome, Ends, Traps, Stuck, Goes, IsGoing, Begins, output_of, Over, step_then}
use Rattle.vx_io.specs.Outside.{with_bytes}
use Rattle.vx_io.proofs.OutsideLaws.{pieces_join}
use Rattle.vx_isa.specs.declared.program.WordProgram.{WordProgram}
use Rattle.vx_isa.specs.Numbers.{Numbers}
use Rattle.vx_isa.specs.Machine.{State, step, words_from}
use Rattle.vx_probe.specs.Times.{Times, list_of, moved_on, moved_by}
use Rattle.vx_probe.specs.Watch.{Watch, shown, shown_all}
use Rattle.vx_probe.specs.declared.event.Event.{Event}
use Rattle.vx_sim.specs.Passed.{Taken, taken, counted}
use Rattle.vx_sim.specs.Flying.{by_landing}
use Rattle.vx_sim.specs.Standing.{rested}
use Rattle.vx_sim.specs.Stepped.{Took, Passed, Stepped, leads_by}
use Rattle.vx_sim.specs.Ran.{Ran, stands, begun, outcome_at, outcome_of, is_fault, is_over}
use Rattle.vx_sim.specs.declared.leads.Lead.{Lead as CodeLead}
use Rattle.vx_sim.specs.declared.leads.Lead.TheVariants.{To as LeadTo, Halts as LeadHalts, TrapsBy as LeadTrapsBy}
use Rattle.vx_sim.specs.declared.sim.Sim.{Sim}
use Rattle.vx_sim.specs.declared.ended.Ended.{Ended}
use Rattle.vx_sim.specs.declared.ended.Ended.TheVariants.{Halted, Trapped, Stopped, Stuck as StuckAt, SinkFault}
use Rattle.vx_sim.proofs.Passing.{near_state, taken_near, stuck_there, out_taken}
use Rattle.vx_sim.proofs.Running.{Reaches, reaches_none, reaches_more, EndsAt, going, ended_taken, ended_stuck, next_outcome}

-- timings that move on

moved_twice : (j k : ℕ) (t : Times) → moved_by k (moved_by j t) ≡ moved_by (j + k) t
moved_twice zero k t = let e : k ≡ 0 + k = omega arith in ap (λ i. moved_by i t) e
moved_twice (suc j) k t = let e : suc (j + k) ≡ suc j + k = omega arith in moved_twice j k (moved_on t) ∙ ap (λ i. moved_by i t) e

moved_list : (k : ℕ) (t : Times) → list_of (moved_by k t) ≡ list_of t
moved_list zero t = refl
moved_list (suc k) t = moved_list k (moved_on t)

moved_place : (k : ℕ) (t : Times) → (moved_by k t).place % length (list_of t) ≡ (t.place + k) % length (list_of t)
moved_place zero t = let e : t.place ≡ t.place + 0 = omega arith in ap (λ i. i % length (list_of t)) e
moved_place (suc k) t =
    let n = length (list_of t) in
    let e : t.place + 1 + k ≡ t.place + suc k = omega arith in
    moved_place k (moved_on t) ∙ add-mod ((t.place + 1) % n) k n ∙ ap (λ i. (i + k % n) % n) (mod-mod (t.place + 1) n) ∙ sym (add-mod (t.place + 1) k n) ∙ ap (λ i. i % n) e

-- events that are shown

shown_more : (es : List Event) (e : Event) (v : Watch) → shown_all (es ++ e ∷ []) v ≡ shown (shown_all es v) e
shown_more [] e v = refl
shown_more (x ∷ es) e v = shown_more es e (shown v x)

shown_maps : (es : List Event) (e : Event) (vs : List Watch) → map (λ v. shown v e) (map (shown_all es) vs) ≡ map (shown_all (es ++ e ∷ [])) vs
shown_maps es e [] = refl
shown_maps es e (v ∷ vs) = ap (λ x. x ∷ map (λ v. shown v e) (map (shown_all es) vs)) (sym (shown_more es e v)) ∙ ap (λ xs. shown_all (es ++ e ∷ []) v ∷ xs) (shown_maps es e vs)

counted_one : (first es es' now next : ℕ) → now ≡ counted (first + es) → es' ≡ es + 1 → next ≡ counted (now + 1) → next ≡ counted (first + es')
counted_one first es es' now next a b d = omega arith

module _ (m : Numbers) (w : WordProgram) (n : ℕ) (first here : State) (t0 t : Times) (vs0 vs : List Watch) (issued0 issued : ℕ) (told0 told : Option (List ℕ)) where
  -- so many words took effect, and the simulator stands where the word machine does
  pub record SoFar : Type 0 where
    pub u : State
    pub events : List Event
    pub reaches : Reaches m (list_of t0) w n first u events
    pub rests : here ≡ rested u
    pub timing : t ≡ moved_by (u.asked - t0.place) t0
    pub more : t0.place ≤ u.asked
    pub seen : vs ≡ map (shown_all events) vs0
    pub counts : issued ≡ counted (issued0 + length events)
    pub put : told ≡ with_bytes told0 u.out

  same_list : SoFar → list_of t ≡ list_of t0
  same_list so = ap list_of so.timing ∙ moved_list (so.u.asked - t0.place) t0

  close : (so : SoFar) → t.place % length (list_of t0) ≡ so.u.asked % length (list_of t0)
  close so =
      let e : t0.place + (so.u.asked - t0.place) ≡ so.u.asked = (let h = so.more in omega arith) in
      ap (λ (x : Times). x.place % length (list_of t0)) so.timing ∙ moved_place (so.u.asked - t0.place) t0 ∙ ap (λ i. i % length (list_of t0)) e

  near_here : (so : SoFar) → (record here { asked = t.place }) ≡ near_state m (list_of t0) w so.u t.place (close so)
  near_here so = ap (λ (x : State). record x { asked = t.place }) so.rests

  -- the next word
  pub record Next (so : SoFar) (d : CodeLead) (after : State) (t' : Times) (vs' : List Watch) (issued' : ℕ) (told' : Option (List ℕ)) : Type 0 where
    pub word : Taken
    pub is : taken m (list_of t0) w so.u ≡ Some word
    pub steps : step m (list_of t0) w so.u ≡ leads_by d word.state
    pub rests : after ≡ rested word.state
    pub timing : t' ≡ moved_by (word.state.asked - t0.place) t0
    pub more : t0.place ≤ word.state.asked
    pub seen : vs' ≡ map (shown_all (so.events ++ word.event ∷ [])) vs0
    pub counts : issued' ≡ counted (issued0 + length (so.events ++ word.event ∷ []))
    pub put : told' ≡ with_bytes told0 word.state.out

  pub next : (so : SoFar) (d : CodeLead) (after : State) (t' : Times) (vs' : List Watch) (issued' : ℕ) (told' : Option (List ℕ))
      → (x : Took m w (record here { asked = t.place }) after t t' vs vs' issued issued' (leads_by d)) → told' ≡ with_bytes told x.word.state.out → Next so d after t' vs' issued' told'
  next so d after t' vs' issued' told' x puts =
      let near = near_state m (list_of t0) w so.u t.place (close so) in
      let is' : taken m (list_of t0) w near ≡ Some x.word = sym (ap (λ (l : List ℕ). taken m l w near) (same_list so)) ∙ sym (ap (taken m (list_of t) w) (near_here so)) ∙ x.is in
      let steps' : step m (list_of t0) w near ≡ leads_by d x.word.state = sym (ap (λ (l : List ℕ). step m l w near) (same_list so)) ∙ sym (ap (step m (list_of t) w) (near_here so)) ∙ x.step in
      let tn = taken_near m (list_of t0) w so.u t.place (close so) x.word is' in
      let k = x.word.state.asked - t.place in
      let asked : tn.word.state.asked ≡ so.u.asked + k = tn.alike.asked in
      let low = so.more in
      let j : (so.u.asked - t0.place) + k ≡ tn.word.state.asked - t0.place = omega arith in
      record {
        word = tn.word;
        is = tn.is;
        steps = tn.steps d steps';
        rests = x.state ∙ tn.alike.state;
        timing = x.timing ∙ ap (moved_by k) so.timing ∙ moved_twice (so.u.asked - t0.place) k t0 ∙ ap (λ i. moved_by i t0) j;
        more = omega arith;
        seen = x.seen ∙ ap (map (λ v. shown v x.word.event)) so.seen ∙ shown_maps so.events x.word.event vs0 ∙ ap (λ (e : Event). map (shown_all (so.events ++ e ∷ [])) vs0) tn.alike.event;
        counts = counted_one issued0 (length so.events) (length (so.events ++ tn.word.event ∷ [])) issued issued' so.counts (length-append so.events (tn.word.event ∷ [])) x.counts;
        put = puts ∙ ap (λ (o : Option (List ℕ)). with_bytes o x.word.state.out) so.put ∙ pieces_join told0 so.u.out x.word.state.out ∙ ap (with_bytes told0) (sym tn.alike.out);
      }

  -- the word there is stuck
  pub record StuckHere (so : SoFar) (outcome : Outcome) : Type 0 where
    pub untaken : taken m (list_of t0) w so.u ≡ None
    pub steps : step m (list_of t0) w so.u ≡ Over outcome

  pub here_stuck : (so : SoFar) (why : _) (p : ℕ) → taken m (list_of t) w (record here { asked = t.place }) ≡ None → step m (list_of t) w (record here { asked = t.place }) ≡ Over (Stuck why p []) → StuckHere so (Stuck why p so.u.out)
  here_stuck so why p n s =
      let near = near_state m (list_of t0) w so.u t.place (close so) in
      let n' : taken m (list_of t0) w near ≡ None = sym (ap (λ (l : List ℕ). taken m l w near) (same_list so)) ∙ sym (ap (taken m (list_of t) w) (near_here so)) ∙ n in
      let s' : step m (list_of t0) w near ≡ Over (Stuck why p []) = sym (ap (λ (l : List ℕ). step m l w near) (same_list so)) ∙ sym (ap (step m (list_of t) w) (near_here so)) ∙ s in
      let x = stuck_there m (list_of t0) w so.u t.place (close so) why p n' s' in
      record { untaken = x.untaken; steps = x.step }

  -- the text of the word there
  pub record CutHere (so : SoFar) (near : Taken) : Type 0 where
    pub word : Taken
    pub is : taken m (list_of t0) w so.u ≡ Some word
    pub out : word.state.out ≡ so.u.out ++ near.state.out

  pub here_cut : (so : SoFar) (near : Taken) → taken m (list_of t) w (record here { asked = t.place }) ≡ Some near → CutHere so near
  here_cut so x is =
      let near = near_state m (list_of t0) w so.u t.place (close so) in
      let is' : taken m (list_of t0) w near ≡ Some x = sym (ap (λ (l : List ℕ). taken m l w near) (same_list so)) ∙ sym (ap (taken m (list_of t) w) (near_here so)) ∙ is in
      let tn = taken_near m (list_of t0) w so.u t.place (close so) x is' in
      record { word = tn.word; is = tn.is; out = tn.alike.out }

-- at the start
pub so_far_none : (m : Numbers) (w : WordProgram) (here : State) (t : Times) (vs : List Watch) (issued : ℕ) (told : Option (List ℕ)) → here.asked ≡ 0 → here.out ≡ [] → by_landing here.flying ≡ here.flying → counted here.cycle ≡ here.cycle → counted issued ≡ issued
    → SoFar m w 0 (record here { asked = t.place }) here t t vs vs issued issued told told
so_far_none m w here t vs issued told a o f c i = record {
  u = record here { asked = t.place };
  events = [];
  reaches = reaches_none m (list_of t) w (record here { asked = t.place });
  rests = λ k. record { place = here.place; cycle = sym c k; registers = here.registers; flying = sym f k; memory = here.memory; input = here.input; out = o k; asked = a k };
  timing = let e : 0 ≡ t.place - t.place = omega arith in ap (λ k. moved_by k t) e;
  more = omega arith;
  seen = by vs;
  counts = let e : issued ≡ issued + length {A = Event} [] = omega arith in sym i ∙ ap counted e;
  put = told_none told ∙ ap (with_bytes told) (sym o);
}
  where
    by : (xs : List Watch) → xs ≡ map (shown_all []) xs
    by [] = refl
    by (x ∷ xs) = ap (λ ys. x ∷ ys) (by xs)

    told_none : (x : Option (List ℕ)) → x ≡ with_bytes x []
    told_none None = refl
    told_none (Some bytes) = ap (λ (xs : List ℕ). Some xs) (sym (append-nil bytes))

-- and one word more
pub so_far_more : (m : Numbers) (w : WordProgram) (n : ℕ) (first here : State) (t0 t : Times) (vs0 vs : List Watch) (issued0 issued : ℕ) (told0 told : Option (List ℕ)) (so : SoFar m w n first here t0 t vs0 vs issued0 issued told0 told)
    (after : State) (t' : Times) (vs' : List Watch) (issued' : ℕ) (told' : Option (List ℕ))
    → Stepped m w (record here { asked = t.place }) after t t' vs vs' issued issued' told told' None → SoFar m w (n + 1) first after t0 t' vs0 vs' issued0 issued' told0 told'
so_far_more m w n first here t0 t vs0 vs issued0 issued told0 told so after t' vs' issued' told' x =
    let y = next m w n first here t0 t vs0 vs issued0 issued told0 told so (LeadTo 0) after t' vs' issued' told' x.took x.told in
    let e : suc n ≡ n + 1 = omega arith in
    record {
      u = y.word.state;
      events = so.events ++ y.word.event ∷ [];
      reaches = subst (λ k. Reaches m (list_of t0) w k first y.word.state (so.events ++ y.word.event ∷ [])) e (reaches_more m (list_of t0) w n first so.u so.events y.word so.reaches y.is y.steps);
      rests = y.rests;
      timing = y.timing;
      more = y.more;
      seen = y.seen;
      counts = y.counts;
      put = y.put;
    }

-- what a call leaves

pub record Kept (before after : Sim) (ended : Ended) : Type 0 where
  pub over : after.ended ≡ is_over ended
  pub same_program : after.program ≡ before.program
  pub same_machine : after.machine ≡ before.machine

module _ (words : ℕ) (before after : Sim) (t0 t' : Times) (vs0 vs' : List Watch) (told0 told' : Option (List ℕ)) (ended : Ended) (kept : Kept before after ended) where
  pub ran_whole : (o : Outcome) (u : State) (es : List Event) → EndsAt before.machine (list_of t0) before.program words (begun before t0) o u es → is_fault ended ≡ false → o ≡ outcome_of ended (output_of o)
      → stands after ≡ rested u → t' ≡ moved_by (u.asked - t0.place) t0 → vs' ≡ map (shown_all es) vs0 → after.issued ≡ counted (before.issued + length es) → told' ≡ with_bytes told0 (output_of o)
      → Ran words before after t0 t' vs0 vs' told0 told' ended
  ran_whole o u es at fine answer rests timing seen counts put = record {
    bound = words;
    whole = λ h. record { bound_is = refl; put = put ∙ ap (λ (x : Outcome). with_bytes told0 (output_of x)) (sym at.outcome_is) };
    cut = λ h. absurd (cc);
    answer = at.outcome_is ∙ answer ∙ ap (λ (x : Outcome). outcome_of ended (output_of x)) (sym at.outcome_is);
    state = rests ∙ ap rested (sym at.state_is);
    timing = timing ∙ ap (λ (x : State). moved_by (x.asked - t0.place) t0) (sym at.state_is);
    seen = seen ∙ ap (λ (xs : List Event). map (shown_all xs) vs0) (sym at.events_are);
    issued = counts ∙ ap (λ (xs : List Event). counted (before.issued + length xs)) (sym at.events_are);
    over = kept.over;
    same_program = kept.same_program;
    same_machine = kept.same_machine;
  }

  pub ran_cut : (n : ℕ) (u : State) (es : List Event) (o : Outcome) (front : List ℕ) → EndsAt before.machine (list_of t0) before.program n (begun before t0) (Goes u.out) u es → is_fault ended ≡ true → Goes u.out ≡ outcome_of ended u.out
      → n < words → outcome_at before t0 (n + 1) ≡ o → Begins (u.out ++ front) (output_of o) → told' ≡ with_bytes told0 (u.out ++ front)
      → stands after ≡ rested u → t' ≡ moved_by (u.asked - t0.place) t0 → vs' ≡ map (shown_all es) vs0 → after.issued ≡ counted (before.issued + length es)
      → Ran words before after t0 t' vs0 vs' told0 told' ended
  ran_cut n u es o front at fault answer below later begins put rests timing seen counts = record {
    bound = n;
    whole = λ h. absurd (cc);
    cut = λ h. record {
      below = below;
      goes = subst IsGoing (sym at.outcome_is) tt;
      front = front;
      begins = subst (λ (x : Outcome). Begins (output_of x ++ front) (output_of (outcome_at before t0 (n + 1)))) (sym at.outcome_is) (subst (λ (x : Outcome). Begins (u.out ++ front) (output_of x)) (sym later) begins);
      put = put ∙ ap (λ (x : Outcome). with_bytes told0 (output_of x ++ front)) (sym at.outcome_is);
    };
    answer = at.outcome_is ∙ answer ∙ ap (λ (x : Outcome). outcome_of ended (output_of x)) (sym at.outcome_is);
    state = rests ∙ ap rested (sym at.state_is);
    timing = timing ∙ ap (λ (x : State). moved_by (x.asked - t0.place) t0) (sym at.state_is);
    seen = seen ∙ ap (λ (xs : List Event). map (shown_all xs) vs0) (sym at.events_are);
    issued = counts ∙ ap (λ (xs : List Event). counted (before.issued + length xs)) (sym at.events_are);
    over = kept.over;
    same_program = kept.same_program;
    same_machine = kept.same_machine;
  }

-- how a call ends

there : (m : Numbers) (w : WordProgram) (before : Sim) → m ≡ before.machine → w ≡ before.program → (times : List ℕ) (j : ℕ) (first : State) (o : Outcome) (u : State) (es : List Event) → EndsAt m times w j first o u es → EndsAt before.machine times before.program j first o u es
there m w before em ew times j first o u es at = subst (λ (p : WordProgram). EndsAt before.machine times p j first o u es) ew (subst (λ (k : Numbers). EndsAt k times w j first o u es) em at)

-- every word was issued
pub ran_stopped : (words n : ℕ) (before after : Sim) (m : Numbers) (w : WordProgram) → m ≡ before.machine → w ≡ before.program → (t0 t : Times) (vs0 vs : List Watch) (told0 told : Option (List ℕ)) (here : State) → SoFar m w n (begun before t0) here t0 t vs0 vs before.issued after.issued told0 told
    → n ≡ words → stands after ≡ here → Kept before after Stopped → Ran words before after t0 t vs0 vs told0 told Stopped
ran_stopped words n before after m w em ew t0 t vs0 vs told0 told here so all st kept =
    let first = begun before t0 in
    let at = there m w before em ew (list_of t0) words first (Goes so.u.out) so.u so.events (subst (λ j. EndsAt m (list_of t0) w j first (Goes so.u.out) so.u so.events) all (going m (list_of t0) w n first so.u so.events so.reaches)) in
    ran_whole words before after t0 t vs0 vs told0 told Stopped kept (Goes so.u.out) so.u so.events at refl refl (st ∙ so.rests) so.timing so.seen so.counts so.put

module _ (words n : ℕ) (before after : Sim) (m : Numbers) (w : WordProgram) (em : m ≡ before.machine) (ew : w ≡ before.program) (t0 t t' : Times) (vs0 vs vs' : List Watch) (issued : ℕ) (told0 told told' : Option (List ℕ)) (here : State)
    (so : SoFar m w n (begun before t0) here t0 t vs0 vs before.issued issued told0 told) (over : after.ended ≡ true) (same_program : after.program ≡ before.program) (same_machine : after.machine ≡ before.machine) where
  -- a word ended the program
  ended_by : (ended : Ended) (d : CodeLead) (o : List ℕ → Outcome) (s : State) → n < words → stands after ≡ s → true ≡ is_over ended → is_fault ended ≡ false → ((xs : List ℕ) → output_of (o xs) ≡ xs) → ((xs : List ℕ) → o xs ≡ outcome_of ended xs)
      → ((v : State) → leads_by d v ≡ Over (o v.out)) → Passed m w (record here { asked = t.place }) s t t' vs vs' issued after.issued told told' (leads_by d) → Ran words before after t0 t' vs0 vs' told0 told' ended
  ended_by ended d o s lt st ends fine same_out answers leads x =
      let first = begun before t0 in
      let y = next m w n first here t0 t vs0 vs before.issued issued told0 told so d s t' vs' after.issued told' x.took x.told in
      let out = y.word.state.out in
      let at = there m w before em ew (list_of t0) words first (o out) y.word.state (so.events ++ y.word.event ∷ []) (ended_taken m (list_of t0) w n words first so.u so.events y.word (o out) lt so.reaches y.is (y.steps ∙ leads y.word.state)) in
      ran_whole words before after t0 t' vs0 vs' told0 told' ended (record { over = over ∙ ends; same_program = same_program; same_machine = same_machine }) (o out) y.word.state (so.events ++ y.word.event ∷ []) at fine
      (answers out ∙ ap (outcome_of ended) (sym (same_out out)))
      (st ∙ y.rests) y.timing y.seen y.counts (y.put ∙ ap (with_bytes told0) (sym (same_out out)))

  -- a call that ended before every word was issued
  pub ran_ended : (s : State) (ended : Ended) → n < words → stands after ≡ s → Stepped m w (record here { asked = t.place }) s t t' vs vs' issued after.issued told told' (Some ended) → Ran words before after t0 t' vs0 vs' told0 told' ended
  ran_ended s (Halted z) lt st x = ended_by (Halted z) (LeadHalts z) (Ends z) s lt st refl refl (λ xs. refl) (λ xs. refl) (λ v. refl) x
  ran_ended s (Trapped k) lt st x = ended_by (Trapped k) (LeadTrapsBy k) (Traps k) s lt st refl refl (λ xs. refl) (λ xs. refl) (λ v. refl) x
  ran_ended s Stopped lt st x = absurd x
  ran_ended s (StuckAt why p) lt st x =
      let first = begun before t0 in
      let h = here_stuck m w n first here t0 t vs0 vs before.issued issued told0 told so why p x.untaken x.step in
      let o = Stuck why p so.u.out in
      let at = there m w before em ew (list_of t0) words first o so.u so.events (ended_stuck m (list_of t0) w n words first so.u so.events o lt so.reaches h.untaken h.steps) in
      ran_whole words before after t0 t' vs0 vs' told0 told' (StuckAt why p) (record { over = over; same_program = same_program; same_machine = same_machine }) o so.u so.events at refl refl
      (st ∙ x.stayed.state ∙ ap (λ (v : State). record v { asked = 0 }) so.rests) (x.stayed.timing ∙ so.timing) (x.stayed.seen ∙ so.seen) (x.stayed.counts ∙ so.counts) (x.told ∙ so.put)
  ran_ended s SinkFault lt st x =
      let first = begun before t0 in
      let h = here_cut m w n first here t0 t vs0 vs before.issued issued told0 told so x.word x.is in
      let o = step_then (λ (v : State). Goes v.out) (step m (list_of t0) w so.u) in
      let at = there m w before em ew (list_of t0) n first (Goes so.u.out) so.u so.events (going m (list_of t0) w n first so.u so.events so.reaches) in
      let e : n + 1 ≡ suc n = omega arith in
      let later : words_from m (list_of t0) w (n + 1) first ≡ o = ap (λ k. words_from m (list_of t0) w k first) e ∙ next_outcome m (list_of t0) w n first so.u so.events so.reaches in
      let later' : words_from before.machine (list_of t0) before.program (n + 1) first ≡ o =
      subst (λ (p : WordProgram). words_from before.machine (list_of t0) p (n + 1) first ≡ o) ew (subst (λ (k : Numbers). words_from k (list_of t0) w (n + 1) first ≡ o) em later) in
      ran_cut words before after t0 t' vs0 vs' told0 told' SinkFault (record { over = over; same_program = same_program; same_machine = same_machine }) n so.u so.events o x.front.front at refl refl lt later'
      (record {
        rest = x.front.begins.rest;
        is = out_taken m (list_of t0) w so.u h.word h.is ∙ h.out ∙ ap (λ (xs : List ℕ). so.u.out ++ xs) x.front.begins.is ∙ sym (append_assoc so.u.out x.front.front x.front.begins.rest);
      })
      (x.front.put ∙ ap (λ (b : Option (List ℕ)). with_bytes b x.front.front) so.put ∙ pieces_join told0 so.u.out x.front.front)
      (st ∙ x.stayed.state ∙ ap (λ (v : State). record v { asked = 0 }) so.rests) (x.stayed.timing ∙ so.timing) (x.stayed.seen ∙ so.seen) (x.stayed.counts ∙ so.counts)
