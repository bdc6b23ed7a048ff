-- The first words of a program come to a state that is tied to the start over values.
use Rattle.std.proofs.Common.{◌≡◌, ◌<◌, ◌≤◌, inl, ◌+◌, ◌-◌, ◌*◌, ℕ, zero, suc, ℤ, pos, false, Some, None, List, [], ◌∷◌, ◌++◌, length, map, replicate, eqb, refl, sym, ap, ◌∙◌, subst, arith}
use Rattle.std.specs.Prelude.{slice_get, slice_index_or, if◌then◌else◌}
use Rattle.std.proofs.lemmas.List.{length-map, length-replicate, length-set, get_or-replicate, get_or-map, get_or-set_same, get_or-set_other, append-nil}
use Rattle.std.proofs.lemmas.Option.{get_or_from_slice_get}
use Rattle.std.proofs.lemmas.Bool.{ne_eqb}
use Rattle.vx_base.specs.Arithmetic.{wrap}
use Rattle.vx_base.specs.Outcome.{NeverFails}
use Rattle.vx_base.proofs.Runs.{run_reach}
use Rattle.vx_flow.specs.declared.graph.Global.{Global}
use Rattle.vx_flow.specs.declared.graph.Flow.{Flow}
use Rattle.vx_flow.specs.declared.graph.Graph.{Graph}
use Rattle.vx_flow.specs.Effects.{Content, State as VState}
use Rattle.vx_flow.specs.Meaning.{Active, Body, undefined, bases_of, own_of, entered, entered_or, at_entry, at_start, words_at_start, globals_at_start, deepest, program_run}
use Rattle.vx_flow.specs.Sound.{Sound, SoundFlow, is_sound_flow}
use Rattle.vx_flow.proofs.SoundFlowLaw.{told}
use Rattle.vx_isa.specs.declared.operation.Register.TheVariants.{General, Link}
use Rattle.vx_isa.specs.declared.operation.Source.TheVariants.{Held, Number}
use Rattle.vx_isa.specs.declared.operation.Operation.{Operation}
use Rattle.vx_isa.specs.declared.operation.Operation.TheVariants.{Move, Call, Halt}
use Rattle.vx_isa.specs.declared.program.Word.{Word}
use Rattle.vx_isa.specs.declared.program.WordProgram.{WordProgram}
use Rattle.vx_isa.specs.Machine.{State, register, start, step, memory_at_start}
use Rattle.vx_mixed.specs.declared.layout.VWords.{VWords}
use Rattle.vx_layout.specs.Laid.{laid_hop, laid_body, laid_program, laid_run}
use Rattle.vx_target.specs.Target.{Target, stack_on, one, answer, set_stack, start_words, first_frame, halt_place, bytes, parameters_of}
use Rattle.vx_target.specs.Tied.{Tied, Deep, WasPassed, IsStack, Seated, active_at, stack_from, row_in, word_at, words_before}
use Rattle.vx_target.specs.Frames.{first_or_zero}
use Rattle.vx_target.specs.Carried.{Carries, IsFunctionOf}
use Rattle.vx_tie.specs.Planned.{StartsTied, StartLaw}
use Rattle.vx_target.proofs.Calm.{after, AllFit, put_at, put_off}
use Rattle.vx_target.proofs.Cells.{row_there}
use Rattle.vx_target.proofs.Frames.{get_below, get_some, get_in}
use Rattle.vx_target.proofs.SeatSteps.{entered_stack, entered_seated}
use Rattle.vx_tie.proofs.Handed.{nothing_aligned, nothing_below}
use Rattle.vx_tie.proofs.Moves.{Moved, move_run}
use Rattle.vx_target.proofs.Steps.{Stands, stands_left, stands_right, Forth, forth_comes, then_forth, word_step}
use Rattle.vx_target.proofs.Stands.{start_stands}

-- a global at the start

global_cell : (x : Global) (i : ℕ) (n : ℤ) → i < x.words → slice_index_or (words_at_start x) i None ≡ Some n → first_or_zero x.first i ≡ n
global_cell x zero n lt e =
    let l : length (replicate x.words (Some (pos 0))) ≡ x.words = length-replicate x.words (Some (pos 0)) in
    let z : Some x.first ≡ Some n = sym (get_or-set_same (replicate x.words (Some (pos 0))) 0 (Some x.first) None (omega arith)) ∙ e in cc
global_cell x (suc i) n lt e =
    let z : Some (pos 0) ≡ Some n = sym (get_or-set_other (replicate x.words (Some (pos 0))) 0 (suc i) (Some x.first) None (λ q. omega arith) ∙ get_or-replicate x.words (suc i) (Some (pos 0)) None lt) ∙ e in
    let k : pos 0 ≡ n = cc in
    let q : eqb (suc i) 0 ≡ false = ne_eqb (suc i) 0 (λ y. omega arith) in
    ap (λ b. if b then x.first else pos 0) q ∙ k

no_arguments : (vs : List ℕ) (v : ℕ) (n : ℤ) → at_entry vs [] v ≡ Some n → ⊥
no_arguments [] v n e = absurd (cc)
no_arguments (q ∷ qs) v n e = absurd (cc)

some_depth : 1 ≤ deepest
unfolding deepest
some_depth = omega arith

module _ (T : Target) (flow : Flow) (ls : List VWords) (w : WordProgram) (sound : SoundFlow flow) (carries : Carries T flow ls w) (fit : AllFit T.machine w) (input : List ℤ) (safe : NeverFails (laid_run flow ls input)) where
  abbrev Main : ℕ
  Main = flow.main

  abbrev Globals : ℕ
  Globals = length flow.globals

  abbrev First : ℕ
  First = first_frame T

  below : Main < length flow.functions
  below = get_below flow.functions Main sound.main.graph sound.main.is

  of : IsFunctionOf T flow ls Main
  of = carries.functions Main below

  -- over values

  abbrev Begin : VState
  Begin = globals_at_start flow input

  abbrev TheBody : Body
  TheBody = record { parameters = parameters_of T Main; bases = bases_of Globals (T.graph Main); own = own_of Globals (T.graph Main); hop = λ setting b s. laid_hop setting (T.layout Main) b s }

  body_is : (laid_program flow ls).body Main ≡ Some TheBody
  body_is = ap (λ g. laid_body Globals g (slice_get ls Main)) of.is.graph ∙ ap (λ l. laid_body Globals (Some (T.graph Main)) l) of.is.layout

  abbrev Entered : Active
  Entered = record { function = Main; block = 0; passed = []; base = length Begin.arrays; state = entered TheBody [] Begin; waiting = [] }

  starts_as : at_start (laid_program flow ls) Main Begin ≡ Entered
  starts_as = ap (λ b. record { function = Main; block = 0; passed = []; base = length Begin.arrays; state = entered_or b Begin; waiting = [] }) body_is

  -- over registers

  abbrev U : State
  U = start w input

  abbrev Ends : List Word
  Ends = one (Call (T.entry Main)) ∷ one (Halt (Held answer)) ∷ []

  stands : Stands w.words 0 (start_words T Main)
  stands = start_stands T Main (length flow.functions) w.words carries.placed

  abbrev op : ℕ → Operation
  op k = Move k (stack_on k) (Number (bytes First))

  moved : Moved T.machine w fit U op (λ k. bytes First) (λ k. refl) (λ k. refl) (λ k. record { bad = refl; takes = refl; prints = refl; stores = λ m. refl; leads = λ ops. refl }) T.machine.clusters
  moved = move_run T.machine w fit U op (λ k. bytes First) (λ k. refl) (λ k. refl) (λ k. record { bad = refl; takes = refl; prints = refl; stores = λ m. refl; leads = λ ops. refl }) T.machine.clusters refl (stands_left w.words 0 (set_stack T) Ends stands)

  abbrev A : State
  A = moved.to

  abbrev Calls : Word
  Calls = one (Call (T.entry Main))

  place_a : A.place ≡ 0 + length (set_stack T)
  place_a = moved.place

  call_at : slice_get w.words A.place ≡ Some Calls
  call_at = subst (λ q. slice_get w.words q ≡ Some Calls) (sym place_a) (stands_right w.words 0 (set_stack T) Ends stands).0

  abbrev B : State
  B = after w A Calls (T.entry Main)

  forth : Forth T.machine w fit U B
  forth = then_forth T.machine w fit U A B (forth_comes T.machine w fit U A moved.forth) (word_step T.machine w fit A Calls (T.entry Main) moved.quiet.calm call_at (record { addresses = refl; input = refl }) refl)

  link_is : B.registers Link ≡ wrap (pos (halt_place T))
  link_is = put_at Link (wrap (pos (A.place + 1))) A.registers refl ∙ ap (λ n. wrap (pos n)) (let x = place_a in let y : A.place + 1 ≡ halt_place T = omega arith in y)

  stack_is : (k : ℕ) → k < T.machine.clusters → register B (General (stack_on k)) ≡ pos (4 * First)
  stack_is k lt = put_off Link (wrap (pos (A.place + 1))) A.registers (General (stack_on k)) (λ e. absurd (cc)) ∙ moved.stack k lt

  deep : Deep T First 1
  deep = record {
    is = (let x = some_depth in let j : ℕ = deepest - 1 in let q : deepest ≡ j + 1 = omega arith in let m : T.frame * deepest ≡ T.frame * j + T.frame * 1 = ap (λ y. T.frame * y) q ∙ grind arith in omega arith);
    most = some_depth;
  }

  -- arrays

  abbrev Firsts : List (List Content)
  Firsts = map words_at_start flow.globals

  abbrev Owns : List (List Content)
  Owns = map undefined (own_of Globals (T.graph Main))

  firsts_count : length Firsts ≡ Globals
  firsts_count = length-map flow.globals words_at_start

  memory_is : B.memory ≡ memory_at_start w.start
  memory_is = moved.memory

  -- before the first function is entered the rows are the globals

  first_row : (k : ℕ) (x : Global) → slice_get flow.globals k ≡ Some x → row_in Firsts k ≡ words_at_start x
  first_row k x e = get_or-map words_at_start flow.globals k x [] (get_below flow.globals k x e) ∙ ap words_at_start (get_or_from_slice_get flow.globals k x x e)

  first_length : (k : ℕ) (x : Global) → slice_get flow.globals k ≡ Some x → length (row_in Firsts k) ≡ x.words
  first_length k x e = ap length (first_row k x e) ∙ length-set (replicate x.words (Some (pos 0))) 0 (Some x.first) ∙ length-replicate x.words (Some (pos 0))

  no_stack : IsStack T flow ls (First + T.frame) (length Firsts) []
  no_stack = ((let d = deep.is in let m : T.frame * 1 ≡ T.frame = grind arith in omega arith), firsts_count)

  globals_seated : Seated T flow.globals [] Firsts B.memory
  globals_seated = record {
    sized = record { global = first_length; own = λ x j a array i own has. absurd i };
    known = λ k i n has e.
        (let c = firsts_count in
        let x = get_some flow.globals k (let t = row_there Firsts k i has in omega arith) in
        let li : i < x.0.words = (let s = first_length k x.0 x.1 in omega arith) in
        ap (λ m. word_at m (words_before flow.globals k + i)) memory_is ∙ carries.start k i x.0 x.1 li ∙ global_cell x.0 i n li (ap (λ r. slice_index_or r i None) (sym (first_row k x.0 x.1)) ∙ e));
  }

  -- main has no parameter, so none of its arrays was handed over

  main_sound : Sound (T.graph Main)
  main_sound = sound.graphs (T.graph Main) (get_in flow.functions Main (T.graph Main) of.is.graph)

  none_passed : length (T.graph Main).parameters ≡ 0
  none_passed =
      let z : Some sound.main.graph ≡ Some (T.graph Main) = sym sound.main.is ∙ of.is.graph in
      let q : sound.main.graph ≡ T.graph Main = cc in
      ap (λ (h : Graph). length h.parameters) (sym q) ∙ sound.main.parameters

  was_passed : WasPassed T Globals (active_at First Entered)
  was_passed = record { aligned = nothing_aligned Globals (T.graph Main) main_sound none_passed; below = nothing_below (length Begin.arrays) }

  stacked : IsStack T flow ls First (length (Firsts ++ Owns)) (stack_from T First Entered)
  stacked = entered_stack T flow ls [] First Firsts Main [] of.is was_passed no_stack

  seated : Seated T flow.globals (stack_from T First Entered) (Firsts ++ Owns) B.memory
  seated = entered_seated T flow ls [] (First + T.frame) Firsts B.memory Main First [] no_stack globals_seated

  tied : Tied T flow ls Entered B
  tied = record {
    sp = First;
    is = of.is;
    calm = refl;
    deep = deep;
    stack = stack_is;
    at = inl (record { block = refl; place = refl; values = λ v n e. absurd (no_arguments (parameters_of T Main) v n e); link = link_is });
    stacked = stacked;
    seated = seated;
    below = tt;
    input = moved.quiet.input;
    out = append-nil A.out ∙ moved.quiet.out;
    safe = subst (λ r. NeverFails (λ n. program_run (laid_program flow ls) n r)) starts_as safe;
  }

  pub started : StartsTied T flow ls w input
  started = record {
    to = B;
    words = forth.0;
    over_registers = λ n. run_reach (step T.machine (1 ∷ []) w) (λ x. x.out) (suc forth.0) n U B forth.1;
    tied = subst (λ r. Tied T flow ls r B) (sym starts_as) tied;
  }

pub start_law : StartLaw
start_law T flow ls w sound carries fit input safe = started T flow ls w ((told flow (is_sound_flow flow) refl).0 sound) carries fit input safe
