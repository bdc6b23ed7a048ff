-- The answers of `sim` from those of its run and its files, and of any run from its boxes.
use Rattle.std.proofs.Common.{◌≡◌, ◌∙◌, ◌⊎◌, inl, inr, ℕ, true, false, List, [], ◌∷◌, length, map, is_some, Option, Some, None, option_map, IfSome, refl, sym, subst, ap, arith}
use Rattle.std.specs.Prelude.{◌<◌, Ok}
use Rattle.vx_base.specs.Outcome.{Outcome, Ends, Traps, Goes, Stuck as StuckWith, Wrong}
use Rattle.vx_io.specs.Outside.{Files}
use Rattle.vx_words.specs.Spelling.{Spells}
use Rattle.vx_probe.specs.Times.{Times}
use Rattle.vx_probe.specs.Watch.{Watch}
use Rattle.vx_status.specs.declared.status.Status.{Status}
use Rattle.vx_status.specs.declared.status.Status.TheVariants.{Done, Trapped, Usage, Source, Limit, Words, Profile, Machine, NoFile, ReadFault, WriteFault, Stopped, Input, Stuck, NoMemory, NotStrict}
use Rattle.vx_command.specs.Command.{Simulation}
use Rattle.vx_runs.specs.Boxes.{Boxes, ProbeBox, Chosen, chosen, chosen_of, timing_named, probes_named}
use Rattle.vx_files.specs.Effects.{Effect, SameFiles}
use Rattle.vx_runs.specs.Simulated.{AreDefaults, Loaded, loading, is_named, Stops, Streams, OutputCut, IsStatusOf, Loads, RunEnds, RunCut, RunAnswers, BoxAnswers, SimAnswers, is_of_run, outcome_within}
use Rattle.vx_runs.specs.Ending.{IsRunOf, UnputLines, LoadedAnswers}

-- the status of an outcome is one of a run
of_outcome : (o : Outcome) (status : Status) → IsStatusOf o status → is_of_run status ≡ true
of_outcome (Ends z out) status is = ap is_of_run is
of_outcome (Traps k out) status is = ap is_of_run is
of_outcome (Goes out) status is = ap is_of_run is
of_outcome (StuckWith why p out) status is = ap is_of_run is
of_outcome (Wrong out) status is = absurd is

pub no_run : (o : Outcome) (status : Status) → is_of_run status ≡ false → IsStatusOf o status → ⊥
no_run o status not is = let yes = of_outcome o status is in cc

loads_in : (asked : Simulation) (x : Loaded) (b : Option Files) → IfSome b (λ held. loading held asked.words asked.machine asked.input ≡ Ok x) →
    IfSome b (λ held. IfSome (held asked.words) (λ content. Spells content x.program)) → IfSome b (λ held. Loads held asked x)
loads_in asked x None is spells = tt
loads_in asked x (Some held) is spells = record { is = is; spells = spells }

module _ (asked : Simulation) (x : Loaded) (times : Times) (watches : List Watch) (e : Effect) (s : Streams)
    (is : IfSome e.before (λ held. loading held asked.words asked.machine asked.input ≡ Ok x))
    (spells : IfSome e.before (λ held. IfSome (held asked.words) (λ content. Spells content x.program)))
    (defaults : AreDefaults asked.machine asked.input x)
    (wanted : 0 < length watches → is_some asked.probe ≡ true) where
  abbrev the_boxes : Chosen
  the_boxes = record { times = times; watches = watches }

  ends : (status : Status) → IsRunOf x times asked.budget false watches s status → RunEnds asked the_boxes e s status
  ends status a = record {
    loaded = x;
    loads = loads_in asked x e.before is spells;
    defaults = defaults;
    status_is = a.status_is;
    put = a.put;
    shown = a.shown;
  }

  cut : OutputCut x times asked.budget s ⊎ UnputLines x times asked.budget false watches s → RunCut asked the_boxes e s
  cut (inl out) = record { loaded = x; loads = loads_in asked x e.before is spells; defaults = defaults; cut = inl out }
  cut (inr lines) = record {
    loaded = x;
    loads = loads_in asked x e.before is spells;
    defaults = defaults;
    cut = inr (record { rose = lines.rose; wanted = elim lines.wanted [ inl end ↦ inl end | inr some ↦ inr (wanted some) ]; put = lines.put; told = lines.told });
  }

  pub run_loaded_answers : (status : Status) → LoadedAnswers x times asked.budget false watches s status → RunAnswers asked the_boxes e s status
  run_loaded_answers Done a = ends Done a
  run_loaded_answers (Trapped trap) a = ends (Trapped trap) a
  run_loaded_answers Usage a = absurd (no_run (outcome_within x times asked.budget) Usage refl a.status_is)
  run_loaded_answers (Source code line column) a = absurd (no_run (outcome_within x times asked.budget) (Source code line column) refl a.status_is)
  run_loaded_answers (Limit number count) a = absurd (no_run (outcome_within x times asked.budget) (Limit number count) refl a.status_is)
  run_loaded_answers (Words code line) a = absurd (no_run (outcome_within x times asked.budget) (Words code line) refl a.status_is)
  run_loaded_answers (Profile code line) a = absurd (no_run (outcome_within x times asked.budget) (Profile code line) refl a.status_is)
  run_loaded_answers (Machine code field) a = absurd (no_run (outcome_within x times asked.budget) (Machine code field) refl a.status_is)
  run_loaded_answers (NoFile role) a = absurd (no_run (outcome_within x times asked.budget) (NoFile role) refl a.status_is)
  run_loaded_answers (ReadFault role) a = absurd (no_run (outcome_within x times asked.budget) (ReadFault role) refl a.status_is)
  run_loaded_answers WriteFault a = cut a
  run_loaded_answers Stopped a = ends Stopped a
  run_loaded_answers (Input place) a = absurd (no_run (outcome_within x times asked.budget) (Input place) refl a.status_is)
  run_loaded_answers (Stuck reason place) a = ends (Stuck reason place) a
  run_loaded_answers (NotStrict breach place) a = absurd (no_run (outcome_within x times asked.budget) (NotStrict breach place) refl a.status_is)
  run_loaded_answers NoMemory a = tt

stops_run : (asked : Simulation) (boxes : Chosen) (e : Effect) (s : Streams) (status : Status) →
    Stops (is_named asked.machine asked.input) (λ held. loading held asked.words asked.machine asked.input) e status → RunAnswers asked boxes e s status
stops_run asked boxes e s Done a = absurd a
stops_run asked boxes e s (Trapped trap) a = absurd a
stops_run asked boxes e s Usage a = absurd a
stops_run asked boxes e s (Source code line column) a = absurd a
stops_run asked boxes e s (Limit number count) a = a
stops_run asked boxes e s (Words code line) a = a
stops_run asked boxes e s (Profile code line) a = absurd a
stops_run asked boxes e s (Machine code field) a = a
stops_run asked boxes e s (NoFile role) a = a
stops_run asked boxes e s (ReadFault role) a = a
stops_run asked boxes e s WriteFault a = absurd a
stops_run asked boxes e s Stopped a = absurd a
stops_run asked boxes e s (Input place) a = a
stops_run asked boxes e s (Stuck reason place) a = absurd a
stops_run asked boxes e s (NotStrict breach place) a = absurd a
stops_run asked boxes e s NoMemory a = a

pub stops_told : (asked : Simulation) (boxes : Chosen) (e : Effect) (s : Streams) (status told : Status) → told ≡ status →
    Stops (is_named asked.machine asked.input) (λ held. loading held asked.words asked.machine asked.input) e status → RunAnswers asked boxes e s told
stops_told asked boxes e s status told same a = subst (RunAnswers asked boxes e s) (sym same) (stops_run asked boxes e s status a)

-- a box is there only where one is asked for
pub wanted_for : {A B C D : Type 0} (f : A → B) (xs : List A) (g : C → D) (name : Option C) → (0 < length xs → is_some name ≡ true) → 0 < length (map f xs) → is_some (option_map g name) ≡ true
wanted_for f xs g (Some name) wanted some = refl
wanted_for f [] g None wanted some = absurd (omega (arith, some))
wanted_for f (x ∷ xs) g None wanted some = wanted (omega arith)

-- the boxes, of any command that runs words

module _ (answers : Chosen → Type 0) (status : Status) where
  no_boxes : (c : Option Chosen) → c ≡ None → (status ≡ Usage) ⊎ (status ≡ NoMemory) → BoxAnswers answers c status
  no_boxes None is h = h
  no_boxes (Some boxes) is h = absurd cc

  pub memory_boxes : (c : Option Chosen) → status ≡ NoMemory → ((boxes : Chosen) → answers boxes) → BoxAnswers answers c status
  memory_boxes None is any = inr is
  memory_boxes (Some boxes) is any = any boxes

  pub without_timing : (timing : List ℕ) (probe : Option (List ℕ)) (boxes : Boxes) → None ≡ timing_named timing boxes.timings → status ≡ Usage → BoxAnswers answers (chosen timing probe boxes) status
  without_timing timing probe boxes none is = no_boxes (chosen timing probe boxes) (ap (λ t. chosen_of t (probes_named probe boxes.probes)) (sym none)) (inl is)

  chosen_none : (t : Option Times) (w : Option (List Watch)) → w ≡ None → chosen_of t w ≡ None
  chosen_none None w is = refl
  chosen_none (Some t) w is = rw is refl

  pub without_probes : (timing : List ℕ) (probe : Option (List ℕ)) (boxes : Boxes) → ((status ≡ NoMemory) ⊎ ((status ≡ Usage) × (probes_named probe boxes.probes ≡ None))) →
      (status ≡ NoMemory → (these : Chosen) → answers these) → BoxAnswers answers (chosen timing probe boxes) status
  without_probes timing probe boxes (inl memory) any = memory_boxes (chosen timing probe boxes) memory (any memory)
  without_probes timing probe boxes (inr missing) any = no_boxes (chosen timing probe boxes) (chosen_none (timing_named timing boxes.timings) (probes_named probe boxes.probes) missing.1) (inl missing.0)

  pub with_boxes : (timing : List ℕ) (probe : Option (List ℕ)) (boxes : Boxes) (times : Times) (watches : List Watch) →
      Some times ≡ timing_named timing boxes.timings → probes_named probe boxes.probes ≡ Some watches → answers (record { times = times; watches = watches }) → BoxAnswers answers (chosen timing probe boxes) status
  with_boxes timing probe boxes times watches is_timing probes a =
      let is : chosen timing probe boxes ≡ Some (record { times = times; watches = watches }) = ap (λ t. chosen_of t (probes_named probe boxes.probes)) (sym is_timing) ∙ ap (chosen_of (Some times)) probes in
      subst (λ c. BoxAnswers answers c status) (sym is) a

run_memory : (asked : Simulation) (e : Effect) (s : Streams) (status : Status) → status ≡ NoMemory → (these : Chosen) → RunAnswers asked these e s status
run_memory asked e s status is these = subst (RunAnswers asked these e s) (sym is) tt

module _ (asked : Simulation) (boxes : Boxes) (e : Effect) (s : Streams) (status : Status) (same : SameFiles e) where
  abbrev sim_answers : Chosen → Type 0
  sim_answers these = RunAnswers asked these e s status

  pub no_timing : None ≡ timing_named asked.timing boxes.timings → status ≡ Usage → SimAnswers asked boxes e s status
  no_timing none is = (same, without_timing sim_answers status asked.timing asked.probe boxes none is)

  pub no_probes : ((status ≡ NoMemory) ⊎ ((status ≡ Usage) × (probes_named asked.probe boxes.probes ≡ None))) → SimAnswers asked boxes e s status
  no_probes why = (same, without_probes sim_answers status asked.timing asked.probe boxes why (run_memory asked e s status))

  pub boxes_there : (times : Times) (watches : List Watch) → Some times ≡ timing_named asked.timing boxes.timings → probes_named asked.probe boxes.probes ≡ Some watches → RunAnswers asked (record { times = times; watches = watches }) e s status →
      SimAnswers asked boxes e s status
  boxes_there times watches timing probes a = (same, with_boxes sim_answers status asked.timing asked.probe boxes times watches timing probes a)

  pub no_memory_answers : status ≡ NoMemory → SimAnswers asked boxes e s status
  no_memory_answers is = (same, memory_boxes sim_answers status (chosen asked.timing asked.probe boxes) is (run_memory asked e s status is))

pub wanted_by : (name : Option (List ℕ)) (boxes : List ProbeBox) (watches : List Watch) → probes_named name boxes ≡ Some watches → 0 < length watches → is_some name ≡ true
wanted_by None boxes [] is some = absurd (omega (arith, some))
wanted_by None boxes (w ∷ ws) is some = absurd (no_list w ws is)
  where
    no_list : (w : Watch) (ws : List Watch) → Some [] ≡ Some (w ∷ ws) → ⊥
    no_list w ws e = cc
wanted_by (Some name) boxes watches is some = refl
