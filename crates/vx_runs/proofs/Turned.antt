-- A run from a place of a timing's list is one from the start of a list that is turned so far.
use Rattle.std.proofs.Common.{◌≡◌, ◌≢◌, ◌∙◌, ℕ, zero, suc, ◌+◌, ◌%◌, ◌<◌, Bool, true, false, List, [], ◌∷◌, ◌++◌, length, min, max, Option, Some, None, refl, sym, subst, ap, arith}
use Rattle.std.specs.Prelude.{slice_get, slice_index, if◌then◌else◌, drop, count_by}
use Rattle.std.specs.List.{flat_map}
use Rattle.std.proofs.Math.Nat.{add-mod-mod, mod-lt}
use Rattle.vx_base.specs.Outcome.{Ends, Traps}
use Rattle.vx_base.specs.Flight.{landing_time}
use Rattle.vx_base.specs.declared.outcome.Reason.{Reason}
use Rattle.vx_base.proofs.Runs.{StepsTied, run_in_step}
use Rattle.vx_isa.specs.declared.operation.Operation.{Operation}
use Rattle.vx_isa.specs.declared.program.Word.{Word}
use Rattle.vx_isa.specs.declared.program.WordProgram.{WordProgram}
use Rattle.vx_isa.specs.Numbers.{Numbers}
use Rattle.vx_isa.specs.Operations.{destination_of, is_call, latency_of}
use Rattle.vx_isa.specs.Machine.{State, Write, Lead, To, Halts, TrapsBy, number_of, is_asked, asked_by, write_to, time_of, writes_of, after_cycles, cycles_of, takes_input, memory_after, print_of, lead_of, stuck_by, effect, leads_to, unless_stuck, issue, step, start, issuing_machine, words_from, words_run}
use Rattle.vx_probe.specs.Times.{Times, list_of}
use Rattle.vx_runs.specs.Simulated.{Loaded, begun, outcome_within}

-- the list of the numbers of a function

tabled : (ℕ → ℕ) → ℕ → List ℕ
tabled f zero = []
tabled f (suc n) = f 0 ∷ tabled (λ i. f (suc i)) n

length_tabled : (f : ℕ → ℕ) (n : ℕ) → length (tabled f n) ≡ n
unfolding tabled
length_tabled f zero = refl
length_tabled f (suc n) = ap suc (length_tabled (λ i. f (suc i)) n)

at_tabled : (f : ℕ → ℕ) (n i : ℕ) → i < n → slice_index (tabled f n) i ≡ f i
unfolding tabled
at_tabled f zero i lt = absurd (omega arith)
at_tabled f (suc n) zero lt = refl
at_tabled f (suc n) (suc i) lt = at_tabled (λ j. f (suc j)) n i (omega arith)

some_tabled : (f : ℕ → ℕ) (n : ℕ) → tabled f (suc n) ≢ []
unfolding tabled
some_tabled f n is = cc

-- a list of at least one number, turned to a place
module _ (first : ℕ) (others : List ℕ) (place : ℕ) where
  abbrev whole : List ℕ
  whole = first ∷ others

  pub turned : List ℕ
  turned = tabled (λ i. slice_index whole ((place + i) % length whole)) (length whole)

  length_turned : length turned ≡ length whole
  unfolding turned
  length_turned = length_tabled (λ i. slice_index whole ((place + i) % length whole)) (length whole)

  pub some_turned : turned ≢ []
  unfolding turned
  some_turned = some_tabled (λ i. slice_index whole ((place + i) % length whole)) (length others)

  at_turned : (i : ℕ) → slice_index turned (i % length turned) ≡ slice_index whole ((place + i) % length whole)
  unfolding turned
  at_turned i =
      let same : i % length turned ≡ i % length whole = ap (λ n. i % n) length_turned in
      let inside : i % length whole < length whole = mod-lt i (omega arith) in
      ap (slice_index turned) same
      ∙ at_tabled (λ j. slice_index whole ((place + j) % length whole)) (length whole) (i % length whole) inside
      ∙ ap (slice_index whole) (add-mod-mod place i (length whole))

  pub time_turned : (i latency : ℕ) → landing_time whole (place + i) latency ≡ landing_time turned i latency
  time_turned i latency = ap (λ n. min latency (max 1 n)) (sym (at_turned i))

module _ (m : Numbers) (w : WordProgram) (whole turned : List ℕ) (place : ℕ) (times : (i latency : ℕ) → landing_time whole (place + i) latency ≡ landing_time turned i latency) where
  -- a state with so many times asked for
  abbrev asking : ℕ → State → State
  asking n s = record s { asked = n }

  time_alike : (i : ℕ) (op : Operation) → time_of m whole (place + i) op ≡ time_of m turned i op
  time_alike i op = ap (λ t. if is_call op then 1 else t) (times i (latency_of m op))

  next_of : (i : ℕ) (b : Bool) → (if b then place + i + 1 else place + i) ≡ place + (if b then i + 1 else i)
  next_of i true = omega arith
  next_of i false = refl

  writes_alike : (size : ℕ) (s : State) (i : ℕ) (ops : List Operation) → writes_of m whole size s (place + i) ops ≡ writes_of m turned size s i ops
  writes_alike size s i [] = refl
  writes_alike size s i (op ∷ ops) =
      ap (λ t. write_to (destination_of op) (number_of size s op) t ++ writes_of m whole size s (if is_asked op then place + i + 1 else place + i) ops) (time_alike i op)
      ∙ ap (λ n. write_to (destination_of op) (number_of size s op) (time_of m turned i op) ++ writes_of m whole size s n ops) (next_of i (is_asked op))
      ∙ ap (λ ws. write_to (destination_of op) (number_of size s op) (time_of m turned i op) ++ ws) (writes_alike size s (if is_asked op then i + 1 else i) ops)

  cycles_asking : (k n : ℕ) (s : State) → after_cycles k (asking n s) ≡ asking n (after_cycles k s)
  cycles_asking zero n s = refl
  cycles_asking (suc k) n s = cycles_asking k n _

  abbrev Tied : State → State → Type 0
  Tied u v = (s : State) × (n : ℕ) × (u ≡ asking (place + n) s) × (v ≡ asking n s)

  -- the state of a word but for the times that it asks for
  abbrev done : State → List Write → Word → State
  done s ws word =
      after_cycles (cycles_of word) (record s { flying = s.flying ++ ws; memory = memory_after s word.ops s.memory; input = drop (count_by takes_input word.ops) s.input; out = s.out ++ flat_map (print_of w s) word.ops; asked = 0 })

  effect_whole : (s : State) (n : ℕ) (word : Word) → effect m whole w (asking (place + n) s) word ≡ asking (place + (n + asked_by word.ops)) (done s (writes_of m turned w.memory s n word.ops) word)
  effect_whole s n word =
      cycles_asking (cycles_of word) (place + n + asked_by word.ops) (record s { flying = s.flying ++ writes_of m whole w.memory s (place + n) word.ops; memory = memory_after s word.ops s.memory; input = drop (count_by takes_input word.ops) s.input; out = s.out ++ flat_map (print_of w s) word.ops; asked = 0 })
      ∙ ap (λ k. asking k (done s (writes_of m whole w.memory s (place + n) word.ops) word)) (omega arith)
      ∙ ap (λ ws. asking (place + (n + asked_by word.ops)) (done s ws word)) (writes_alike w.memory s n word.ops)

  effect_turned : (s : State) (n : ℕ) (word : Word) → effect m turned w (asking n s) word ≡ asking (n + asked_by word.ops) (done s (writes_of m turned w.memory s n word.ops) word)
  effect_turned s n word =
      cycles_asking (cycles_of word) (n + asked_by word.ops) (record s { flying = s.flying ++ writes_of m turned w.memory s n word.ops; memory = memory_after s word.ops s.memory; input = drop (count_by takes_input word.ops) s.input; out = s.out ++ flat_map (print_of w s) word.ops; asked = 0 })

  leads_alike : (l : Lead) (u v : State) → Tied u v → StepsTied Tied (leads_to l u) (leads_to l v)
  leads_alike (To p) u v t =
      (record t.0 { place = p }, t.1, ap (λ (x : State). record x { place = p }) t.2, ap (λ (x : State). record x { place = p }) t.3)
  leads_alike (Halts z) u v t = ap (λ out. Ends z out) (ap (λ (x : State). x.out) t.2 ∙ sym (ap (λ (x : State). x.out) t.3))
  leads_alike (TrapsBy k) u v t = ap (λ out. Traps k out) (ap (λ (x : State). x.out) t.2 ∙ sym (ap (λ (x : State). x.out) t.3))

  reasons_alike : (why : Option Reason) (l : Lead) (s : State) (n : ℕ) (word : Word) →
      StepsTied Tied (unless_stuck why (asking (place + n) s) (leads_to l (effect m whole w (asking (place + n) s) word))) (unless_stuck why (asking n s) (leads_to l (effect m turned w (asking n s) word)))
  reasons_alike (Some why) l s n word = refl
  reasons_alike None l s n word = leads_alike l _ _ (done s (writes_of m turned w.memory s n word.ops) word, n + asked_by word.ops, effect_whole s n word, effect_turned s n word)

  words_alike : (word : Option Word) (s : State) (n : ℕ) → StepsTied Tied (issue m whole w (asking (place + n) s) word) (issue m turned w (asking n s) word)
  words_alike None s n = refl
  words_alike (Some word) s n = reasons_alike (stuck_by m w s word.ops) (lead_of s word.ops) s n word

  steps_alike : (u v : State) → Tied u v → StepsTied Tied (step m whole w u) (step m turned w v)
  steps_alike u v t =
      subst (λ x. StepsTied Tied (step m whole w x) (step m turned w v)) (sym t.2)
      (subst (λ x. StepsTied Tied (step m whole w (asking (place + t.1) t.0)) (step m turned w x)) (sym t.3)
      (words_alike (slice_get w.words t.0.place) t.0 t.1))

  runs_alike : (n : ℕ) (u v : State) → Tied u v → words_from m whole w n u ≡ words_from m turned w n v
  runs_alike n u v t = run_in_step (step m whole w) (λ s. s.out) (step m turned w) (λ s. s.out) Tied steps_alike (λ s u t. ap (λ (x : State). x.out) t.2 ∙ sym (ap (λ (x : State). x.out) t.3)) n u v t

pub turned_of : Times → List ℕ
turned_of t = turned t.first t.others t.place

pub turned_some : (t : Times) → turned_of t ≢ []
unfolding turned_of
turned_some t = some_turned t.first t.others t.place

-- the run from the place of a timing is a run of words with some list of times
pub outcome_turned : (x : Loaded) (t : Times) (n : ℕ) → outcome_within x t n ≡ words_run x.machine (turned_of t) x.program x.input n
unfolding turned_of
outcome_turned x t n =
    runs_alike (issuing_machine x.program x.machine) x.program (list_of t) (turned t.first t.others t.place) t.place (time_turned t.first t.others t.place) n (begun x t) (start x.program x.input)
    (start x.program x.input, 0, ap (λ k. record (start x.program x.input) { asked = k }) (omega arith), refl)
