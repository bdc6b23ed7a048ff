-- How a run ends, and what its lines put.
use Rattle.std.proofs.Common.{◌≡◌, ◌∙◌, ◌⊎◌, inl, inr, ℕ, ℤ, ◌+◌, Bool, true, false, List, [], ◌∷◌, ◌++◌, length, map, Option, Result, Ok, Err, OnOk, OnErr, refl, sym, subst, ap, arith}
use Rattle.std.specs.Prelude.{◌≤◌, ◌<◌, ◌-◌, ◌^◌, min, suc}
use Rattle.std.specs.List.{flat_map}
use Rattle.vx_base.specs.Outcome.{Outcome, Begins, output_of}
use Rattle.vx_io.specs.Outside.{PutsFront, Rose, with_bytes}
use Rattle.vx_isa.specs.Machine.{State, start, issuing_machine, words_from}
use Rattle.vx_probe.specs.Times.{Times, list_of}
use Rattle.vx_probe.specs.Watch.{Watch, shown_all}
use Rattle.vx_probe.specs.declared.event.Event.{Event}
use Rattle.vx_sim.specs.Passed.{counted, events_from}
use Rattle.vx_sim.specs.Ran.{Ran, begun as sim_begun, stands, is_fault, outcome_of, outcome_at, events_at}
use Rattle.vx_sim.specs.declared.sim.Sim.{Sim}
use Rattle.vx_base.specs.declared.outcome.Trap.{Trap}
use Rattle.vx_sim.specs.declared.ended.Ended.{Ended}
use Rattle.vx_sim.specs.declared.ended.Ended.TheVariants.{Halted, Trapped as TrappedBy, Stopped as StoppedAt, Stuck as StuckAt, SinkFault}
use Rattle.vx_status.specs.declared.status.Status.{Status}
use Rattle.vx_status.specs.declared.status.Status.TheVariants.{Done, Trapped, WriteFault, Stopped, Stuck, NoMemory}
use Rattle.vx_status.specs.Status.{Tells, TellsWith, status_line}
use Rattle.vx_runs.specs.Boxes.{report_line}
use Rattle.vx_runs.specs.Simulated.{Loaded, begun, outcome_within, events_within, result_line, Streams, ErrTells, OutRose, IsEnd, IsStatusOf, Shows, reports_of, Fronts, BeginsLines, TellsFault, is_of_run}
use Rattle.vx_runs.specs.Ending.{issued_line, status_as, end_line, told_line, ShowsLine, ShowsIssued, ShowsEnd, CutsEnd, EndFault, IsHalted, RanWhole, RanPartly, RunOf, Finishes, IsRunOf, LoadedAnswers}
use Rattle.vx_runs.specs.Lines.{TellsRun}
use Rattle.vx_status.proofs.Appending.{with_both, with_none, front_on, front_behind, tells_nothing}
use Rattle.vx_base.proofs.Same.{begins_self}
use Rattle.vx_runs.proofs.Issued.{few_events}
use Rattle.vx_io.proofs.OutsideLaws.{rose_throughout}

-- the simulator's run is that of the definition

module _ (before : Sim) (x : Loaded) (times : Times) (stands_at : stands before ≡ start x.program x.input) (program : before.program ≡ x.program) (machine : before.machine ≡ issuing_machine x.program x.machine) where
  same_begin : sim_begun before times ≡ begun x times
  same_begin = ap (λ (s : State). record s { asked = times.place }) stands_at

  same_outcome : (n : ℕ) → outcome_at before times n ≡ outcome_within x times n
  same_outcome n =
      ap (λ m. words_from m (list_of times) before.program n (sim_begun before times)) machine
      ∙ ap (λ w. words_from (issuing_machine x.program x.machine) (list_of times) w n (sim_begun before times)) program
      ∙ ap (λ s. words_from (issuing_machine x.program x.machine) (list_of times) x.program n s) same_begin

  same_events : (n : ℕ) → events_at before times n ≡ events_within x times n
  same_events n =
      ap (λ m. events_from m (list_of times) before.program n (sim_begun before times)) machine
      ∙ ap (λ w. events_from (issuing_machine x.program x.machine) (list_of times) w n (sim_begun before times)) program
      ∙ ap (λ s. events_from (issuing_machine x.program x.machine) (list_of times) x.program n s) same_begin

  module _ (words : ℕ) (after : Sim) (times' : Times) (watches watches' : List Watch) (told told' : Option (List ℕ)) (ended : Ended) (r : Ran words before after times times' watches watches' told told' ended) where
    ran_whole : is_fault ended ≡ false → RanWhole x times words watches watches' told told' ended
    ran_whole no_fault =
        let whole = r.whole no_fault in
        record {
          outcome = subst (λ o. o ≡ outcome_of ended (output_of o)) (same_outcome words) (subst (λ n. outcome_at before times n ≡ outcome_of ended (output_of (outcome_at before times n))) whole.bound_is r.answer);
          put = subst (λ o. told' ≡ with_bytes told (output_of o)) (same_outcome words) (subst (λ n. told' ≡ with_bytes told (output_of (outcome_at before times n))) whole.bound_is whole.put);
          seen = subst (λ es. watches' ≡ map (shown_all es) watches) (same_events words) (subst (λ n. watches' ≡ map (shown_all (events_at before times n)) watches) whole.bound_is r.seen);
        }

    ran_partly : is_fault ended ≡ true → RanPartly x times words told told'
    ran_partly fault =
        let cut = r.cut fault in
        record {
          bound = r.bound;
          below = cut.below;
          front = output_of (outcome_at before times r.bound) ++ cut.front;
          begins = subst (λ o. Begins (output_of (outcome_at before times r.bound) ++ cut.front) (output_of o)) (same_outcome (r.bound + 1)) cut.begins;
          put = cut.put;
        }

    pub run_of : RunOf x times words watches watches' told told' ended
    run_of = record { whole = ran_whole; partly = ran_partly }

    pub issued_of : before.issued ≡ 0 → words < 2 ^ 64 → is_fault ended ≡ false → after.issued ≡ length (events_within x times words)
    issued_of fresh few no_fault =
        let most : length (events_within x times words) ≤ words = few_events (issuing_machine x.program x.machine) (list_of times) x.program words (begun x times) in
        let bound : r.bound ≡ words = (r.whole no_fault).bound_is in
        let seen : length (events_at before times r.bound) ≡ length (events_within x times words) = ap (λ n. length (events_at before times n)) bound ∙ ap length (same_events words) in
        let none : 0 + length (events_within x times words) ≡ length (events_within x times words) = omega arith in
        let small : min (length (events_within x times words)) (2 ^ 64 - 1) ≡ length (events_within x times words) = omega arith in
        r.issued ∙ ap (λ n. counted (n + length (events_at before times r.bound))) fresh ∙ ap (λ n. counted (0 + n)) seen ∙ ap counted none ∙ small

-- a run that no probe sees
pub alone : (x : Loaded) (times : Times) (words : ℕ) (watches watches' : List Watch) (told told' : Option (List ℕ)) (ended : Ended) → RunOf x times words watches watches' told told' ended → RunOf x times words [] [] told told' ended
alone x times words watches watches' told told' ended r = record { whole = λ no_fault. let w = r.whole no_fault in record { outcome = w.outcome; put = w.put; seen = refl }; partly = r.partly }

-- the line of the words

pub nothing_told : (ended : Ended) (issued faults : ℕ) (a : Option (List ℕ)) → ShowsIssued ended (told_line false issued) a a faults faults
nothing_told (Halted z) issued faults a = with_none a
nothing_told (TrappedBy trap) issued faults a = tells_nothing a faults
nothing_told StoppedAt issued faults a = refl
nothing_told (StuckAt reason place) issued faults a = refl
nothing_told SinkFault issued faults a = refl

pub told_by : (tells : Bool) (ended : Ended) (issued : ℕ) (a b : Option (List ℕ)) (f g : ℕ) → tells ≡ true → ShowsIssued ended (issued_line issued) a b f g → ShowsIssued ended (told_line tells issued) a b f g
told_by true ended issued a b f g is h = h
told_by false ended issued a b f g is h = absurd cc

pub no_line : (ended : Ended) (line : List ℕ) (a : Option (List ℕ)) (f : ℕ) → ((z : ℤ) → ended ≡ Halted z → ⊥) → ((trap : Trap) → ended ≡ TrappedBy trap → ⊥) → ShowsIssued ended line a a f f
no_line (Halted z) line a f not_halted not_trapped = absurd (not_halted z refl)
no_line (TrappedBy trap) line a f not_halted not_trapped = absurd (not_trapped trap refl)
no_line StoppedAt line a f not_halted not_trapped = refl
no_line (StuckAt reason place) line a f not_halted not_trapped = refl
no_line SinkFault line a f not_halted not_trapped = refl

-- the line of an end, that of the words and the reports

pub other_line : (ended : Ended) (status : Status) (a b : Option (List ℕ)) (f g : ℕ) → ((z : ℤ) → ended ≡ Halted z → ⊥) → status ≡ status_as ended → Tells (status_line status) a b f g → ShowsLine ended a b f g
other_line (Halted z) status a b f g not_halted is h = absurd (not_halted z refl)
other_line (TrappedBy trap) status a b f g not_halted is h = subst (λ t. Tells (status_line t) a b f g) is h
other_line StoppedAt status a b f g not_halted is h = subst (λ t. Tells (status_line t) a b f g) is h
other_line (StuckAt reason place) status a b f g not_halted is h = subst (λ t. Tells (status_line t) a b f g) is h
other_line SinkFault status a b f g not_halted is h = subst (λ t. Tells (status_line t) a b f g) is h

three_pieces : (a b c d : Option (List ℕ)) (xs ys zs : List ℕ) → b ≡ with_bytes a xs → c ≡ with_bytes b ys → d ≡ with_bytes c zs → d ≡ with_bytes a (xs ++ ys ++ zs)
three_pieces a b c d xs ys zs first second third =
    third ∙ ap (λ told. with_bytes told zs) (second ∙ ap (λ told. with_bytes told ys) first ∙ with_both a xs ys) ∙ with_both a (xs ++ ys) zs

tells_with : (a b c d : Option (List ℕ)) (line next reports : List ℕ) (f g h i : ℕ) → f ≤ g → g ≤ h → h ≤ i → Tells line a b f g → Tells next b c g h → d ≡ with_bytes c reports → TellsWith line next reports a d f i
tells_with a b c d line next reports f g h i le grows more first second is =
    let earlier : Rose f g → Rose f i = λ rose. rose_throughout f f g i (omega arith) le (omega arith) rose in
    let later : Rose g h → Rose f i = λ rose. rose_throughout f g h i le grows more rose in
    record {
      front = first.part.front;
      begins = first.part.begins;
      back = second.part.front;
      follows = second.part.begins;
      part = three_pieces a b c d first.part.front second.part.front reports first.part.put second.part.put is;
      whole = λ quiet. three_pieces a b c d line next reports (first.whole (λ rose. quiet (earlier rose))) (second.whole (λ rose. quiet (later rose))) is;
    }

none_between : (b c : Option (List ℕ)) (g h : ℕ) → g ≤ h → c ≡ b → Tells [] b c g h
none_between b c g h grows same = record {
  part = record { front = []; begins = begins_self []; put = same ∙ with_none b };
  whole = λ quiet. same ∙ with_none b;
  never_fall = grows;
}

module _ (a b c d : Option (List ℕ)) (line reports : List ℕ) (f g h i : ℕ) (le : f ≤ g) (grows : g ≤ h) (more : h ≤ i) (is : d ≡ with_bytes c reports) where
  shows_ok : (ended : Ended) → is_fault ended ≡ false → ShowsLine ended a b f g → ShowsIssued ended line b c g h → ShowsEnd ended line reports a d f i
  shows_ok (Halted z) unfaulted first second =
      is ∙ ap (λ told. with_bytes told reports) (second ∙ ap (λ told. with_bytes told line) first ∙ with_both a (result_line z) line) ∙ with_both a (result_line z ++ line) reports
  shows_ok (TrappedBy trap) unfaulted first second = tells_with a b c d (status_line (Trapped trap)) line reports f g h i le grows more first second is
  shows_ok StoppedAt unfaulted first second = tells_with a b c d (status_line Stopped) [] reports f g h i le grows more first (none_between b c g h grows second) is
  shows_ok (StuckAt reason place) unfaulted first second = tells_with a b c d (status_line (Stuck reason place)) [] reports f g h i le grows more first (none_between b c g h grows second) is
  shows_ok SinkFault unfaulted first second = absurd cc

pub shows_on : {T E : Type 0} (r : Result T E) (ended : Ended) (a b c d : Option (List ℕ)) (line reports : List ℕ) (f g h i : ℕ) → is_fault ended ≡ false → f ≤ g → g ≤ h → h ≤ i → ShowsLine ended a b f g → ShowsIssued ended line b c g h → OnOk r (d ≡ with_bytes c reports) →
    OnOk r (ShowsEnd ended line reports a d f i)
shows_on (Ok x) ended a b c d line reports f g h i unfaulted le grows more first second is = shows_ok a b c d line reports f g h i le grows more is ended unfaulted first second
shows_on (Err e) ended a b c d line reports f g h i unfaulted le grows more first second is = tt

-- the lines of an end of which one is not put

pub line_cut : (ended : Ended) (line reports : List ℕ) {a b : Option (List ℕ)} → IsHalted ended → PutsFront a b (end_line ended) → CutsEnd ended line reports a b
line_cut (Halted z) line reports halted p = let q = front_on (result_line z ++ line) reports (front_on (result_line z) line p) in record { front = q.front; begins = q.begins; put = q.put }
line_cut (TrappedBy trap) line reports halted p = absurd halted
line_cut StoppedAt line reports halted p = absurd halted
line_cut (StuckAt reason place) line reports halted p = absurd halted
line_cut SinkFault line reports halted p = absurd halted

pub issued_cut : (ended : Ended) (line reports : List ℕ) {a b c : Option (List ℕ)} (f g : ℕ) → IsHalted ended → ShowsLine ended a b f g → PutsFront b c line → CutsEnd ended line reports a c
issued_cut (Halted z) line reports {a} {b} {c} f g halted first p =
    let q = front_on (result_line z ++ line) reports (front_behind a b c (result_line z) line first p) in record { front = q.front; begins = q.begins; put = q.put }
issued_cut (TrappedBy trap) line reports f g halted first p = absurd halted
issued_cut StoppedAt line reports f g halted first p = absurd halted
issued_cut (StuckAt reason place) line reports f g halted first p = absurd halted
issued_cut SinkFault line reports f g halted first p = absurd halted

module _ (a b c d : Option (List ℕ)) (line reports : List ℕ) (f g h : ℕ) (last : PutsFront c d reports) where
  three_fronts : (own next : List ℕ) (first : PutsFront a b own) (second : PutsFront b c next) → Fronts own next reports (first.front ++ second.front ++ last.front)
  three_fronts own next first second =
      record { front = first.front; begins = first.begins; middle = second.front; follows = second.begins; back = last.front; reported = last.begins; is = refl }

  abbrev nothing_between : c ≡ b → PutsFront b c []
  nothing_between same = record { front = []; begins = begins_self []; put = same ∙ with_none b }

  reports_cut : (ended : Ended) → is_fault ended ≡ false → ShowsLine ended a b f g → ShowsIssued ended line b c g h → CutsEnd ended line reports a d
  reports_cut (Halted z) unfaulted first second =
      let q = front_behind a c d (result_line z ++ line) reports (second ∙ ap (λ told. with_bytes told line) first ∙ with_both a (result_line z) line) last in
      record { front = q.front; begins = q.begins; put = q.put }
  reports_cut (TrappedBy trap) unfaulted first second = record {
    front = first.part.front ++ second.part.front ++ last.front;
    begins = three_fronts (status_line (Trapped trap)) line first.part second.part;
    put = three_pieces a b c d first.part.front second.part.front last.front first.part.put second.part.put last.put;
  }
  reports_cut StoppedAt unfaulted first second = record {
    front = first.part.front ++ [] ++ last.front;
    begins = three_fronts (status_line Stopped) [] first.part (nothing_between second);
    put = three_pieces a b c d first.part.front [] last.front first.part.put (second ∙ with_none b) last.put;
  }
  reports_cut (StuckAt reason place) unfaulted first second = record {
    front = first.part.front ++ [] ++ last.front;
    begins = three_fronts (status_line (Stuck reason place)) [] first.part (nothing_between second);
    put = three_pieces a b c d first.part.front [] last.front first.part.put (second ∙ with_none b) last.put;
  }
  reports_cut SinkFault unfaulted first second = absurd cc

pub cuts_on : {T E : Type 0} (r : Result T E) (ended : Ended) (a b c d : Option (List ℕ)) (line reports : List ℕ) (f g h : ℕ) → is_fault ended ≡ false → ShowsLine ended a b f g → ShowsIssued ended line b c g h → OnErr r (PutsFront c d reports) →
    OnErr r (CutsEnd ended line reports a d)
cuts_on (Ok x) ended a b c d line reports f g h unfaulted first second p = tt
cuts_on (Err e) ended a b c d line reports f g h unfaulted first second p = reports_cut a b c d line reports f g h p ended unfaulted first second

-- the fault is told behind them
pub end_fault : (ended : Ended) (line reports : List ℕ) {a b c : Option (List ℕ)} {f g h : ℕ} (status : Status) → status ≡ WriteFault → CutsEnd ended line reports a b → Tells (status_line status) b c g h → EndFault ended line reports a c f h
end_fault ended line reports {a} {b} {c} {f} {g} {h} status is cut told = record {
  front = cut.front;
  begins = cut.begins;
  back = told.part.front;
  follows = subst (λ t. Begins told.part.front (status_line t)) is told.part.begins;
  put = told.part.put ∙ ap (λ x. with_bytes x told.part.front) cut.put ∙ with_both a cut.front told.part.front;
}

pub rose_then : (first mid last : ℕ) → first ≤ mid → mid ≤ last → Rose first mid → Rose first last
rose_then first mid last le more rose = rose_throughout first first mid last (omega arith) le more rose

-- the answer of a finished run

is_end_of : (ended : Ended) (o : Outcome) → o ≡ outcome_of ended (output_of o) → IsHalted ended → IsEnd o
is_end_of (Halted z) o is h = subst IsEnd (sym is) tt
is_end_of (TrappedBy trap) o is h = absurd h
is_end_of StoppedAt o is h = absurd h
is_end_of (StuckAt reason place) o is h = absurd h
is_end_of SinkFault o is h = absurd h

status_of_end : (ended : Ended) (o : Outcome) → is_fault ended ≡ false → o ≡ outcome_of ended (output_of o) → IsStatusOf o (status_as ended)
status_of_end (Halted z) o unfaulted is = subst (λ p. IsStatusOf p Done) (sym is) refl
status_of_end (TrappedBy trap) o unfaulted is = subst (λ p. IsStatusOf p (Trapped trap)) (sym is) refl
status_of_end StoppedAt o unfaulted is = subst (λ p. IsStatusOf p Stopped) (sym is) refl
status_of_end (StuckAt reason place) o unfaulted is = subst (λ p. IsStatusOf p (Stuck reason place)) (sym is) refl
status_of_end SinkFault o unfaulted is = absurd cc

shows_outcome : (ended : Ended) (o : Outcome) (line reports : List ℕ) (s : Streams) → o ≡ outcome_of ended (output_of o) →
    ShowsEnd ended line reports s.err_before s.err_after s.err_faults_before s.err_faults_after → Shows o line reports s
shows_outcome (Halted z) o line reports s is h = subst (λ p. Shows p line reports s) (sym is) h
shows_outcome (TrappedBy trap) o line reports s is h = subst (λ p. Shows p line reports s) (sym is) h
shows_outcome StoppedAt o line reports s is h = subst (λ p. Shows p line reports s) (sym is) h
shows_outcome (StuckAt reason place) o line reports s is h = subst (λ p. Shows p line reports s) (sym is) h
shows_outcome SinkFault o line reports s is h = subst (λ p. Shows p line reports s) (sym is) h

begins_outcome : (ended : Ended) (o : Outcome) (line reports bytes : List ℕ) → o ≡ outcome_of ended (output_of o) → BeginsLines (outcome_of ended []) line reports bytes → BeginsLines o line reports bytes
begins_outcome (Halted z) o line reports bytes is h = subst (λ p. BeginsLines p line reports bytes) (sym is) h
begins_outcome (TrappedBy trap) o line reports bytes is h = subst (λ p. BeginsLines p line reports bytes) (sym is) h
begins_outcome StoppedAt o line reports bytes is h = subst (λ p. BeginsLines p line reports bytes) (sym is) h
begins_outcome (StuckAt reason place) o line reports bytes is h = subst (λ p. BeginsLines p line reports bytes) (sym is) h
begins_outcome SinkFault o line reports bytes is h = subst (λ p. BeginsLines p line reports bytes) (sym is) h

fault_outcome : (ended : Ended) (o : Outcome) (line reports : List ℕ) (s : Streams) → o ≡ outcome_of ended (output_of o) → EndFault ended line reports s.err_before s.err_after s.err_faults_before s.err_faults_after → TellsFault o line reports s
fault_outcome ended o line reports s is h =
    record { front = h.front; begins = begins_outcome ended o line reports h.front is h.begins; back = h.back; follows = h.follows; put = h.put }

-- a run's answer by its status
by_status : (x : Loaded) (times : Times) (budget : ℕ) (tells : Bool) (watches : List Watch) (s : Streams) (ended : Ended) → is_fault ended ≡ false → IsRunOf x times budget tells watches s (status_as ended) →
    LoadedAnswers x times budget tells watches s (status_as ended)
by_status x times budget tells watches s (Halted z) unfaulted a = a
by_status x times budget tells watches s (TrappedBy trap) unfaulted a = a
by_status x times budget tells watches s StoppedAt unfaulted a = a
by_status x times budget tells watches s (StuckAt reason place) unfaulted a = a
by_status x times budget tells watches s SinkFault unfaulted a = absurd cc

flat_shown : (events : List Event) (watches : List Watch) → flat_map report_line (map (shown_all events) watches) ≡ reports_of watches events
flat_shown events [] = refl
flat_shown events (w ∷ ws) = ap (λ l. report_line (shown_all events w) ++ l) (flat_shown events ws)

pub length_map : {A B : Type 0} (f : A → B) (xs : List A) → length (map f xs) ≡ length xs
length_map f [] = refl
length_map f (x ∷ xs) = ap suc (length_map f xs)

module _ (x : Loaded) (times : Times) (budget : ℕ) (tells : Bool) (watches watches' : List Watch) (s : Streams) (ended : Ended) (issued : ℕ) (r : RunOf x times budget watches watches' s.out_before s.out_after ended)
    (counted : is_fault ended ≡ false → issued ≡ length (events_within x times budget)) where
  -- a fact of the line of the words and of the reports, in the terms of the events
  of_events : (P : (line reports : List ℕ) → Type 0) → is_fault ended ≡ false → P (told_line tells issued) (flat_map report_line watches') →
      P (told_line tells (length (events_within x times budget))) (reports_of watches (events_within x times budget))
  of_events P unfaulted h =
      let whole = r.whole unfaulted in
      let reports : flat_map report_line watches' ≡ reports_of watches (events_within x times budget) = ap (flat_map report_line) whole.seen ∙ flat_shown (events_within x times budget) watches in
      let line : told_line tells issued ≡ told_line tells (length (events_within x times budget)) = ap (told_line tells) (counted unfaulted) in
      subst (λ l. P l (reports_of watches (events_within x times budget))) line (subst (P (told_line tells issued)) reports h)

  whole_answers : (status : Status) (n : ℕ) → n ≡ length watches' → is_fault ended ≡ false → Finishes ended (told_line tells issued) (flat_map report_line watches') n s.err_before s.err_after s.err_faults_before s.err_faults_after status →
      LoadedAnswers x times budget tells watches s status
  whole_answers status n all unfaulted (inl done) =
      let whole = r.whole unfaulted in
      let shown : ShowsEnd ended (told_line tells (length (events_within x times budget))) (reports_of watches (events_within x times budget)) s.err_before s.err_after s.err_faults_before s.err_faults_after =
      of_events (λ line reports. ShowsEnd ended line reports s.err_before s.err_after s.err_faults_before s.err_faults_after) unfaulted done.1 in
      subst (LoadedAnswers x times budget tells watches s) (sym done.0) (by_status x times budget tells watches s ended unfaulted (record {
        status_is = status_of_end ended (outcome_within x times budget) unfaulted whole.outcome;
        put = whole.put;
        shown = shows_outcome ended (outcome_within x times budget) (told_line tells (length (events_within x times budget))) (reports_of watches (events_within x times budget)) s whole.outcome shown;
      }))
  whole_answers status n all unfaulted (inr cut) =
      let whole = r.whole unfaulted in
      let count : n ≡ length watches = all ∙ ap length whole.seen ∙ length_map (shown_all (events_within x times budget)) watches in
      subst (LoadedAnswers x times budget tells watches s) (sym cut.0) (inr (record {
        rose = cut.1;
        wanted = elim cut.2 [ inl halted ↦ inl (is_end_of ended (outcome_within x times budget) whole.outcome halted) | inr some ↦ inr (subst (λ m. 0 < m) count some) ];
        put = whole.put;
        told = fault_outcome ended (outcome_within x times budget) (told_line tells (length (events_within x times budget))) (reports_of watches (events_within x times budget)) s whole.outcome
            (of_events (λ line reports. EndFault ended line reports s.err_before s.err_after s.err_faults_before s.err_faults_after) unfaulted cut.3);
      }))

  partly_answers : (status : Status) → is_fault ended ≡ true → OutRose s → ErrTells (status_line WriteFault) s → status ≡ WriteFault → LoadedAnswers x times budget tells watches s status
  partly_answers status fault rose told is =
      let partly = r.partly fault in
      subst (LoadedAnswers x times budget tells watches s) (sym is) (inl (record {
        rose = rose;
        told = told;
        bound = partly.bound + 1;
        within = let below = partly.below in omega arith;
        front = partly.front;
        begins = partly.begins;
        put = partly.put;
      }))

  pub run_answers : (status : Status) (n : ℕ) → n ≡ length watches' → (is_fault ended ≡ true → OutRose s) → (is_fault ended ≡ true → ErrTells (status_line WriteFault) s) → (is_fault ended ≡ true → status ≡ WriteFault) →
      (is_fault ended ≡ false → Finishes ended (told_line tells issued) (flat_map report_line watches') n s.err_before s.err_after s.err_faults_before s.err_faults_after status) →
      LoadedAnswers x times budget tells watches s status
  run_answers status n all rose told cut finishes = by (is_fault ended) refl
    where
      by : (b : Bool) → is_fault ended ≡ b → LoadedAnswers x times budget tells watches s status
      by true is = partly_answers status is (rose is) (told is) (cut is)
      by false is = whole_answers status n all is (finishes is)

is_run : (ended : Ended) → is_of_run (status_as ended) ≡ true
is_run (Halted z) = refl
is_run (TrappedBy trap) = refl
is_run StoppedAt = refl
is_run (StuckAt reason place) = refl
is_run SinkFault = refl

-- a run's status is one of a run
pub of_run : (ended : Ended) (line reports : List ℕ) (n f g : ℕ) (a c : Option (List ℕ)) (status : Status) → (is_fault ended ≡ true → status ≡ WriteFault) →
    (is_fault ended ≡ false → Finishes ended line reports n a c f g status) → is_of_run status ≡ true
of_run ended line reports n f g a c status cut finishes = by (is_fault ended) refl
  where
    by : (b : Bool) → is_fault ended ≡ b → is_of_run status ≡ true
    by true is = ap is_of_run (cut is)
    by false is = elim (finishes is) [ inl done ↦ ap is_of_run done.0 ∙ is_run ended | inr lost ↦ ap is_of_run lost.0 ]

-- of a run that its sink did not cut the answers say the lines
ended_told : (ended : Ended) (s : Streams) → is_fault ended ≡ false → TellsRun s (status_as ended)
ended_told (Halted z) s unfaulted = tt
ended_told (TrappedBy trap) s unfaulted = tt
ended_told StoppedAt s unfaulted = tt
ended_told (StuckAt reason place) s unfaulted = tt
ended_told SinkFault s unfaulted = absurd cc

finished_told : (ended : Ended) (line reports : List ℕ) (n : ℕ) (s : Streams) (status : Status) → is_fault ended ≡ false →
    Finishes ended line reports n s.err_before s.err_after s.err_faults_before s.err_faults_after status → TellsRun s status
finished_told ended line reports n s status unfaulted (inl done) = subst (TellsRun s) (sym done.0) (ended_told ended s unfaulted)
finished_told ended line reports n s status unfaulted (inr lost) = subst (TellsRun s) (sym lost.0) (λ quiet. absurd (quiet lost.1))

pub run_line : (ended : Ended) (line reports : List ℕ) (n : ℕ) (s : Streams) (status : Status) → (is_fault ended ≡ true → status ≡ WriteFault) → (is_fault ended ≡ true → ErrTells (status_line WriteFault) s) →
    (is_fault ended ≡ false → Finishes ended line reports n s.err_before s.err_after s.err_faults_before s.err_faults_after status) → TellsRun s status
run_line ended line reports n s status cut told finishes = by (is_fault ended) refl
  where
    by : (b : Bool) → is_fault ended ≡ b → TellsRun s status
    by true is = subst (TellsRun s) (sym (cut is)) (told is).whole
    by false is = finished_told ended line reports n s status is (finishes is)

pub not_of_run : {P : Type 0} (ended : Ended) (line reports : List ℕ) (n f g : ℕ) (a c : Option (List ℕ)) (status : Status) → (is_fault ended ≡ true → status ≡ WriteFault) →
    (is_fault ended ≡ false → Finishes ended line reports n a c f g status) → is_of_run status ≡ false → P
not_of_run ended line reports n f g a c status cut finishes other = let yes = of_run ended line reports n f g a c status cut finishes in absurd cc

-- want of memory comes before the run
pub no_memory_answers : (x : Loaded) (times : Times) (budget : ℕ) (tells : Bool) (watches : List Watch) (s : Streams) (status : Status) → status ≡ NoMemory → LoadedAnswers x times budget tells watches s status
no_memory_answers x times budget tells watches s status is = subst (LoadedAnswers x times budget tells watches s) (sym is) tt

-- what a fault says where more was done before
pub rose_on : {T E : Type 0} (r : Result T E) (first before last : ℕ) → first ≤ before → before ≤ last → OnErr r (Rose before last) → OnErr r (Rose first last)
rose_on (Ok t) first before last earlier later rose = tt
rose_on (Err e) first before last earlier later rose = rose_throughout first before last last earlier later (omega arith) rose

pub or_on : {T E : Type 0} (A B : Type 0) (r : Result T E) → OnErr r B → OnErr r (A ⊎ B)
or_on A B (Ok t) b = tt
or_on A B (Err e) b = inr b
