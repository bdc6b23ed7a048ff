-- The step laws together: with every input the words do what the laid-out words do.
use Rattle.std.proofs.Common.{◌≡◌, ◌≤◌, ◌⊎◌, inl, inr, ⊎_elim, ◌+◌, ℕ, zero, suc, ℤ, Option, Some, None, List, [], ◌∷◌, length, true, refl, sym, ap, ◌∙◌, subst, arith}
use Rattle.std.specs.Prelude.{slice_get}
use Rattle.vx_base.specs.Outcome.{Outcome, Goes, Same, NeverFails, Over, step_then, run}
use Rattle.vx_base.proofs.Meeting.{MeetsAt, Far, Done, meeting_same}
use Rattle.vx_base.proofs.Runs.{run_steady, safe_end}
use Rattle.vx_flow.specs.declared.graph.Flow.{Flow}
use Rattle.vx_flow.specs.Meaning.{Active, at_start, globals_at_start, setting_with, body_hop, after_hop, next}
use Rattle.vx_flow.specs.Sound.{is_sound_flow}
use Rattle.vx_isa.specs.declared.program.WordProgram.{WordProgram}
use Rattle.vx_isa.specs.Machine.{State, step, start, issuing_machine, words_from}
use Rattle.vx_isa.proofs.IssuingMachine.{issuing_machine_own}
use Rattle.vx_isa.proofs.Steady.{output_grows}
use Rattle.vx_mixed.specs.declared.layout.VirtualWord.{VirtualWord}
use Rattle.vx_mixed.specs.declared.layout.VirtualWord.TheVariants.{Planned, Drain, Transfer, Choice, Call, Return, Ends}
use Rattle.vx_mixed.specs.declared.layout.VWords.{VWords}
use Rattle.vx_layout.specs.Laid.{laid_program, laid_run, laid_hop, laid_body, some_word_hop}
use Rattle.vx_layout.proofs.LaidGrows.{laid_grows}
use Rattle.vx_target.specs.Target.{Target}
use Rattle.vx_target.specs.Tied.{Tied, AtWord, AtEntry}
use Rattle.vx_target.specs.Carried.{Carries, WordsFit}
use Rattle.vx_tie.specs.Planned.{CarriesOn, FallsThrough, FallsNext, EndsAlike, StartsTied}
use Rattle.vx_tie.specs.Whole.{WholeLaw}
use Rattle.vx_tie.proofs.Calls.{call_law}
use Rattle.vx_tie.proofs.Entry.{entry_law}
use Rattle.vx_target.proofs.Frames.{get_beyond}
use Rattle.vx_tie.proofs.Planned.{planned_law}
use Rattle.vx_tie.proofs.Returning.{return_law}
use Rattle.vx_tie.proofs.Simple.{simple_law}
use Rattle.vx_tie.proofs.Start.{start_law}

module _ (T : Target) (flow : Flow) (ls : List VWords) (w : WordProgram) (sound : is_sound_flow flow ≡ true) (carries : Carries T flow ls w) (fit : WordsFit T.machine w) where
  abbrev OverValues : ℕ → Active → Outcome
  OverValues n r = run (next (laid_program flow ls)) (λ q. q.state.out) n r

  abbrev OverRegisters : ℕ → State → Outcome
  OverRegisters n u = run (step T.machine (1 ∷ []) w) (λ t. t.out) n u

  abbrev Meets : Active → State → Type 0
  Meets r u = CarriesOn T flow ls w r u ⊎ EndsAlike T flow ls w r u

  -- from tied states both come to tied states, or end alike

  no_word : (r : Active) (u : State) → Tied T flow ls r u → (p : ℕ) → r.block ≡ suc p → slice_get (T.layout r.function).words p ≡ None → ⊥
  no_word r u tied p block plan =
      let P = laid_program flow ls in
      let steps : next P r ≡ Over (Outcome.Wrong r.state.out) =
      ap (after_hop P r)
      (ap (body_hop P r) (ap (λ y. laid_body (length flow.globals) y (slice_get ls r.function)) tied.is.graph ∙ ap (λ l. laid_body (length flow.globals) (Some (T.graph r.function)) l) tied.is.layout)
      ∙ ap (λ b. laid_hop (setting_with P r.passed r.base) (T.layout r.function) b r.state) block ∙ ap (λ y. some_word_hop (setting_with P r.passed r.base) p y r.state) plan) in
      safe_end (next P) (λ q. q.state.out) r (Outcome.Wrong r.state.out) steps tied.safe tt

  at_place : (r : Active) (u : State) → Tied T flow ls r u → (p : ℕ) → r.block ≡ suc p → (o : Option VirtualWord) → slice_get (T.layout r.function).words p ≡ o → Meets r u ⊎ FallsNext T flow ls p r u
  at_place r u tied p block None e = absurd (no_word r u tied p block e)
  at_place r u tied p block (Some (Planned region word items)) e = inl (inl (planned_law T flow ls w sound carries fit r u tied p region word items block e))
  at_place r u tied p block (Some (Drain n)) e = simple_law T flow ls w sound carries fit r u tied p (Drain n) block e tt
  at_place r u tied p block (Some (Transfer q)) e = simple_law T flow ls w sound carries fit r u tied p (Transfer q) block e tt
  at_place r u tied p block (Some (Choice test q)) e = simple_law T flow ls w sound carries fit r u tied p (Choice test q) block e tt
  at_place r u tied p block (Some (Ends k)) e = simple_law T flow ls w sound carries fit r u tied p (Ends k) block e tt
  at_place r u tied p block (Some (Call g arguments result)) e = inl (call_law T flow ls w sound carries fit r u tied p g arguments result block e)
  at_place r u tied p block (Some (Return x)) e = inl (return_law T flow ls w sound carries fit r u tied p x block e)

  -- at each bound both runs meet, here or farther on

  abbrev MeetAt : ℕ → Active → State → Type 0
  MeetAt n r u = MeetsAt (λ k. OverValues k r) (λ k. OverRegisters k u) n

  then_more : (n : ℕ) (r : Active) (u : State) (c : CarriesOn T flow ls w r u) → MeetAt n c.after c.to → MeetAt (suc n) r u
  then_more n r u c (Far i j out le lo e d) = Far (suc c.steps + i) (suc c.words + j) out (omega arith) (omega arith) (c.over_values i ∙ e) (c.over_registers j ∙ d)
  then_more n r u c (Done i j o v e d) = Done (suc c.steps + i) (suc c.words + j) o v (c.over_values i ∙ e) (c.over_registers j ∙ d)

  after_meeting : (n : ℕ) (r : Active) (u : State) → ((s : Active) (v : State) → Tied T flow ls s v → MeetAt n s v) → Meets r u → MeetAt (suc n) r u
  after_meeting n r u more (inl c) = then_more n r u c (more c.after c.to c.tied)
  after_meeting n r u more (inr d) = Done 1 d.words d.outcome d.over (ap (step_then (OverValues 0)) d.over_values) d.over_registers

  -- steps over values alone
  then_values : (n : ℕ) (r : Active) (u : State) (f : FallsThrough T flow ls r u) → MeetAt n f.after u → MeetAt n r u
  then_values n r u f (Far i j out le lo e d) = Far (suc f.steps + i) j out (omega arith) lo (f.over_values i ∙ e) d
  then_values n r u f (Done i j o v e d) = Done (suc f.steps + i) j o v (f.over_values i ∙ e) d

  -- a layout has so many words from a place on at most, so places without words come to one that has some
  from_place : (n k : ℕ) (r : Active) (u : State) → ((s : Active) (v : State) → Tied T flow ls s v → MeetAt n s v) → (tied : Tied T flow ls r u) (p : ℕ) → r.block ≡ suc p → length (T.layout r.function).words ≤ p + k → MeetAt (suc n) r u
  from_place n zero r u more tied p block most = absurd (no_word r u tied p block (get_beyond (T.layout r.function).words p (omega arith)))
  from_place n (suc k) r u more tied p block most = ⊎_elim
      (after_meeting n r u more)
      (λ (f : FallsNext T flow ls p r u).
      let left : length (T.layout r.function).words ≤ f.falls.place + k = (let e = f.place in omega arith) in
      let most_next : length (T.layout f.falls.after.function).words ≤ f.falls.place + k = subst (λ g. length (T.layout g).words ≤ f.falls.place + k) (sym f.function) left in
      then_values (suc n) r u f.falls (from_place n k f.falls.after u more f.falls.tied f.falls.place f.falls.block most_next))
      (at_place r u tied p block (slice_get (T.layout r.function).words p) refl)

  from_word : (n : ℕ) (r : Active) (u : State) → ((s : Active) (v : State) → Tied T flow ls s v → MeetAt n s v) → (tied : Tied T flow ls r u) (p : ℕ) → r.block ≡ suc p → MeetAt (suc n) r u
  from_word n r u more tied p block = from_place n (length (T.layout r.function).words) r u more tied p block (omega arith)

  from_entry : (n : ℕ) (r : Active) (u : State) → ((s : Active) (v : State) → Tied T flow ls s v → MeetAt n s v) → CarriesOn T flow ls w r u ⊎ FallsThrough T flow ls r u → MeetAt (suc n) r u
  from_entry n r u more (inl c) = then_more n r u c (more c.after c.to c.tied)
  from_entry n r u more (inr f) = then_values (suc n) r u f (from_word n f.after u more f.tied f.place f.block)

  meets_next : (n : ℕ) (r : Active) (u : State) → ((s : Active) (v : State) → Tied T flow ls s v → MeetAt n s v) → Tied T flow ls r u → MeetAt (suc n) r u
  meets_next n r u more tied = ⊎_elim
      (λ (a : AtEntry T flow.globals tied.sp r u). from_entry n r u more (entry_law T flow ls w sound carries fit r u tied a.block))
      (λ (a : (p : ℕ) × AtWord T flow.globals tied.sp p r u). from_word n r u more tied a.0 a.1.block)
      tied.at

  meets_at : (n : ℕ) (r : Active) (u : State) → Tied T flow ls r u → MeetAt n r u
  meets_at zero r u tied = Far 0 0 r.state.out (omega arith) (omega arith) refl (ap Goes tied.out)
  meets_at (suc n) r u tied = meets_next n r u (meets_at n) tied

  module _ (input : List ℤ) (safe : NeverFails (λ n. OverValues n (at_start (laid_program flow ls) flow.main (globals_at_start flow input)))) where
    abbrev Begin : Active
    Begin = at_start (laid_program flow ls) flow.main (globals_at_start flow input)

    starts : StartsTied T flow ls w input
    starts = start_law T flow ls w sound carries fit input safe

    -- the first words lead to the tied state
    from_start : (n : ℕ) → MeetAt n Begin starts.to → MeetAt n Begin (start w input)
    from_start n (Far i j out le lo e d) = Far i (suc starts.words + j) out le (omega arith) e (starts.over_registers j ∙ d)
    from_start n (Done i j o v e d) = Done i (suc starts.words + j) o v e (starts.over_registers j ∙ d)

    whole_run : Same (λ n. OverValues n Begin) (λ n. OverRegisters n (start w input)) × NeverFails (λ n. OverRegisters n (start w input))
    whole_run = meeting_same (λ n. OverValues n Begin) (λ n. OverRegisters n (start w input))
        (run_steady (next (laid_program flow ls)) (λ q. q.state.out) (laid_grows flow ls) Begin)
        (run_steady (step T.machine (1 ∷ []) w) (λ t. t.out) (output_grows T.machine (1 ∷ []) w) (start w input))
        (λ n. from_start n (meets_at n Begin starts.to starts.tied))

-- the words are issued by the machine itself, since the version is the number of its branches
pub whole_law : WholeLaw
whole_law T flow ls w sound carries fit input safe =
    let k = whole_run T flow ls w sound carries fit input safe in
    let own : T.machine ≡ issuing_machine w T.machine = sym (issuing_machine_own w T.machine carries.version) in
    record {
      same = subst (λ m. Same (laid_run flow ls input) (λ n. words_from m (1 ∷ []) w n (start w input))) own k.0;
      never_stuck = subst (λ m. NeverFails (λ n. words_from m (1 ∷ []) w n (start w input))) own k.1;
    }
