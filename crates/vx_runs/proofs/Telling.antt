-- What an answer puts on the error stream, from what its steps put.
use Rattle.std.proofs.Common.{◌≡◌, ◌∙◌, ◌⊎◌, ◌+◌, ◌<◌, ◌++◌, ◌∷◌, [], inl, inr, ℕ, List, length, map, take, get_or, Option, Some, None, Ok, refl, sym, subst, ap}
use Rattle.std.specs.List.{flat_map}
use Rattle.std.proofs.lemmas.List.{flat_map_more, map_more}
use Rattle.vx_io.specs.Outside.{with_bytes}
use Rattle.std.specs.Prelude.{◌≢◌, codes}
use Rattle.vx_status.specs.declared.status.Status.{Status}
use Rattle.vx_status.specs.declared.status.Status.TheVariants.{Done, Trapped, Usage, Source, Limit, Words, Profile, Machine, NoFile, ReadFault, WriteFault, Stopped, Input, Stuck, NoMemory, NotStrict}
use Rattle.vx_probe.specs.Times.{Times}
use Rattle.vx_probe.specs.Watch.{Watch}
use Rattle.vx_status.specs.Status.{Puts, no_box_line, status_line}
use Rattle.vx_status.proofs.Appending.{with_both}
use Rattle.vx_runs.specs.Boxes.{Boxes, Chosen, chosen, chosen_of, timing_named, probes_named, unknown_name, unknown_of}
use Rattle.vx_command.specs.Command.{Command, Compile, Simulate, Execute, Count, Soak, Check}
use Rattle.vx_runs.specs.Simulated.{Streams, ErrTells}
use Rattle.vx_runs.specs.Lines.{TellsRun, TellsBox, TellsLine}
use Rattle.vx_runs.specs.Ending.{TellsProbe}

-- the line of a step before the run
pub run_told : (s : Streams) (status : Status) → ErrTells (status_line status) s → TellsRun s status
run_told s Done t = tt
run_told s (Trapped trap) t = tt
run_told s Usage t = t
run_told s (Source code line column) t = t
run_told s (Limit number count) t = t
run_told s (Words code line) t = t
run_told s (Profile code line) t = t
run_told s (Machine code field) t = t
run_told s (NoFile role) t = t
run_told s (ReadFault role) t = t
run_told s WriteFault t = t.whole
run_told s Stopped t = tt
run_told s (Input place) t = t
run_told s (Stuck reason place) t = tt
run_told s (NotStrict breach place) t = t
run_told s NoMemory t = t

-- the boxes

module _ (tells : Status → Type 0) (s : Streams) where
  no_box : (c : Option Chosen) (name : List ℕ) (status : Status) → c ≡ None → status ≡ Usage → ErrTells (no_box_line name) s → TellsBox tells c name s status
  no_box None name status none is t = subst (TellsBox tells None name s) (sym is) t
  no_box (Some these) name status none is t = absurd cc

  memory_told : (c : Option Chosen) (name : List ℕ) (status : Status) → status ≡ NoMemory → (ErrTells (status_line NoMemory) s → tells NoMemory) → ErrTells (status_line status) s → TellsBox tells c name s status
  memory_told None name status is any t = subst (TellsBox tells None name s) (sym is) (subst (λ x. ErrTells (status_line x) s) is t)
  memory_told (Some these) name status is any t = subst tells (sym is) (any (subst (λ x. ErrTells (status_line x) s) is t))

  pub no_timing_told : (timing : List ℕ) (probe : Option (List ℕ)) (boxes : Boxes) (name : List ℕ) (status : Status) → None ≡ timing_named timing boxes.timings → status ≡ Usage → ErrTells (no_box_line name) s →
      TellsBox tells (chosen timing probe boxes) name s status
  no_timing_told timing probe boxes name status none is t = no_box (chosen timing probe boxes) name status (ap (λ x. chosen_of x (probes_named probe boxes.probes)) (sym none)) is t

  pub timing_told : (timing : List ℕ) (probe : Option (List ℕ)) (boxes : Boxes) (status : Status) → None ≡ timing_named timing boxes.timings → status ≡ Usage → ErrTells (no_box_line timing) s →
      TellsBox tells (chosen timing probe boxes) (unknown_name timing probe boxes) s status
  timing_told timing probe boxes status none is t =
      no_timing_told timing probe boxes (unknown_name timing probe boxes) status none is (subst (λ name. ErrTells (no_box_line name) s) (ap (λ x. unknown_of x timing probe) none) t)

  pub these_told : (timing : List ℕ) (probe : Option (List ℕ)) (boxes : Boxes) (name : List ℕ) (times : Times) (watches : List Watch) (status : Status) →
      Some times ≡ timing_named timing boxes.timings → probes_named probe boxes.probes ≡ Some watches → tells status → TellsBox tells (chosen timing probe boxes) name s status
  these_told timing probe boxes name times watches status is_timing probes t =
      let is : chosen timing probe boxes ≡ Some (record { times = times; watches = watches }) = ap (λ x. chosen_of x (probes_named probe boxes.probes)) (sym is_timing) ∙ ap (chosen_of (Some times)) probes in
      subst (λ c. TellsBox tells c name s status) (sym is) t

  probe_in : (timing name : List ℕ) (boxes : Boxes) (times : Times) (status : Status) → Some times ≡ timing_named timing boxes.timings → status ≡ Usage → probes_named (Some name) boxes.probes ≡ None → ErrTells (no_box_line name) s →
      TellsBox tells (chosen timing (Some name) boxes) (unknown_name timing (Some name) boxes) s status
  probe_in timing name boxes times status is_timing is none t =
      no_box (chosen timing (Some name) boxes) (unknown_name timing (Some name) boxes) status (ap (λ x. chosen_of x (probes_named (Some name) boxes.probes)) (sym is_timing) ∙ ap (chosen_of (Some times)) none) is
      (subst (λ n. ErrTells (no_box_line n) s) (ap (λ x. unknown_of x timing (Some name)) is_timing) t)

  probe_memory : (probe : Option (List ℕ)) (status : Status) → status ≡ NoMemory → TellsProbe probe status s.err_before s.err_after s.err_faults_before s.err_faults_after → ErrTells (status_line status) s
  probe_memory None status is t = t
  probe_memory (Some name) status is t = subst (λ x. ErrTells (status_line x) s) (sym is) (subst (λ x. TellsProbe (Some name) x s.err_before s.err_after s.err_faults_before s.err_faults_after) is t)

  pub probe_told : (timing : List ℕ) (probe : Option (List ℕ)) (boxes : Boxes) (times : Times) (status : Status) → Some times ≡ timing_named timing boxes.timings →
      ((status ≡ NoMemory) ⊎ ((status ≡ Usage) × (probes_named probe boxes.probes ≡ None))) → (ErrTells (status_line NoMemory) s → tells NoMemory) →
      TellsProbe probe status s.err_before s.err_after s.err_faults_before s.err_faults_after → TellsBox tells (chosen timing probe boxes) (unknown_name timing probe boxes) s status
  probe_told timing probe boxes times status is_timing (inl memory) any t = memory_told (chosen timing probe boxes) (unknown_name timing probe boxes) status memory any (probe_memory probe status memory t)
  probe_told timing None boxes times status is_timing (inr why) any t = let none = why.1 in absurd cc
  probe_told timing (Some name) boxes times status is_timing (inr why) any t =
      probe_in timing name boxes times status is_timing why.0 why.1 (subst (λ x. TellsProbe (Some name) x s.err_before s.err_after s.err_faults_before s.err_faults_after) why.0 t)

-- words that are refused

memory_line : (command : Option Command) (boxes : Boxes) (s : Streams) → ErrTells (status_line NoMemory) s → TellsLine command boxes s NoMemory
memory_line None boxes s t = t
memory_line (Some (Compile asked)) boxes s t = t
memory_line (Some (Simulate asked)) boxes s t = memory_told (TellsRun s) s (chosen asked.timing asked.probe boxes) (unknown_name asked.timing asked.probe boxes) NoMemory refl (λ x. x) t
memory_line (Some (Execute asked)) boxes s t = memory_told (TellsRun s) s (chosen asked.timing asked.probe boxes) (unknown_name asked.timing asked.probe boxes) NoMemory refl (λ x. x) t
memory_line (Some (Count asked)) boxes s t = t
memory_line (Some (Soak asked)) boxes s t = memory_told (λ other. ErrTells (status_line other) s) s (chosen (codes "late") None boxes) (codes "late") NoMemory refl (λ x. x) t
memory_line (Some (Check asked)) boxes s t = t

pub no_memory_line : (command : Option Command) (boxes : Boxes) (s : Streams) (status : Status) → status ≡ NoMemory → ErrTells (status_line status) s → TellsLine command boxes s status
no_memory_line command boxes s status is t = subst (TellsLine command boxes s) (sym is) (memory_line command boxes s (subst (λ x. ErrTells (status_line x) s) is t))

pub usage_line : (command : Option Command) (boxes : Boxes) (s : Streams) (status : Status) → status ≡ Usage → command ≡ None → TellsLine command boxes s status
usage_line command boxes s status is none = subst (TellsLine command boxes s) (sym is) (subst (λ c. TellsLine c boxes s Usage) (sym none) tt)

not_usage : (status : Status) → status ≡ NoMemory → status ≢ Usage
not_usage status is other = let same : NoMemory ≡ Usage = sym is ∙ other in absurd cc

pub refused_line : (command : Option Command) (boxes : Boxes) (s : Streams) (status : Status) → ((status ≡ NoMemory) ⊎ ((status ≡ Usage) × (command ≡ None))) → (status ≢ Usage → ErrTells (status_line status) s) →
    TellsLine command boxes s status
refused_line command boxes s status (inl memory) t = no_memory_line command boxes s status memory (t (not_usage status memory))
refused_line command boxes s status (inr usage) t = usage_line command boxes s status usage.0 usage.1

-- one piece more of a list is put
pub pieces_more : {X Y T E : Type 0} {t : T} (f : Y → List ℕ) (g : X → Y) (xs : List X) (i : ℕ) (x : X) (a : Option (List ℕ)) {b c : Option (List ℕ)} {j k : ℕ} → i < length xs → x ≡ get_or xs i x →
    b ≡ with_bytes a (flat_map f (map g (take i xs))) → Puts {T = T} {E = E} (Ok t) (f (g x)) b c j k → c ≡ with_bytes a (flat_map f (map g (take (i + 1) xs)))
pieces_more f g xs i x a below is told p =
    let before : List ℕ = flat_map f (map g (take i xs)) in
    let all : before ++ f (g x) ≡ flat_map f (map g (take (i + 1) xs)) =
    flat_map_more f [] (map g (take i xs)) (g x) ∙ ap (λ y. flat_map f (map g (take i xs) ++ g y ∷ [])) is ∙ ap (flat_map f) (sym (map_more g xs i x below)) in
    p.all ∙ ap (λ o. with_bytes o (f (g x))) told ∙ with_both a before (f (g x)) ∙ ap (with_bytes a) all
