-- At the start of a function parameters come to their registers, and the link is stored in the frame.
use Rattle.std.proofs.Common.{◌≡◌, ◌≢◌, ◌<◌, ◌≤◌, ◌⊎◌, inl, inr, ⊎_elim, ◌+◌, ◌*◌, ◌^◌, ℕ, zero, suc, ℤ, pos, Bool, true, false, Some, List, [], ◌∷◌, ◌++◌, length, length-append, refl, sym, ap, ◌∙◌, subst, arith}
use Rattle.std.specs.Prelude.{if◌then◌else◌, slice_get}
use Rattle.vx_base.specs.Outcome.{On}
use Rattle.vx_base.proofs.Runs.{Reach, run_reach, safe_after}
use Rattle.vx_flow.specs.declared.graph.Bank.{Bank}
use Rattle.vx_flow.specs.declared.graph.Flow.{Flow}
use Rattle.vx_flow.specs.Effects.{IsIn}
use Rattle.vx_flow.specs.Meaning.{Active, setting_with, body_hop, after_hop, next}
use Rattle.vx_flow.specs.Sound.{Sound, SoundFlow, is_sound_flow}
use Rattle.vx_flow.proofs.SoundFlowLaw.{told}
use Rattle.vx_isa.specs.declared.operation.Register.{Register}
use Rattle.vx_isa.specs.declared.operation.Register.TheVariants.{General, Link}
use Rattle.vx_isa.specs.declared.operation.Source.TheVariants.{Held}
use Rattle.vx_isa.specs.declared.operation.Operation.TheVariants.{FromLink, Store}
use Rattle.vx_isa.specs.declared.program.Word.{Word}
use Rattle.vx_isa.specs.declared.program.WordProgram.{WordProgram}
use Rattle.vx_isa.specs.Machine.{State, register, step}
use Rattle.vx_mixed.specs.declared.layout.VWords.{VWords}
use Rattle.vx_layout.specs.Laid.{laid_hop, laid_body, laid_program}
use Rattle.vx_mixed.specs.LaidSettled.{bank_in}
use Rattle.vx_regs.specs.Intervals.{IsLive, is_live}
use Rattle.vx_regs.specs.declared.map.Kept.{Kept}
use Rattle.vx_regs.specs.declared.map.Kept.TheVariants.{InRegister}
use Rattle.vx_target.specs.Target.{Target, answer, general, stack_on, kept, is_slotted, parameters_of, holds_branch, register_of, one, pause, in_flight, settled, is_caller, load_slots, past, link_words, way, wanted, entry_words, memory_words}
use Rattle.vx_target.specs.Tied.{Tied, AtEntry, Below, Seated, Seating, Shows, active_at, here_of, stack_from, waiting_above, seat, holds, word_at, link_in}
use Rattle.vx_target.specs.Seats.{Seats, is_link}
use Rattle.vx_target.specs.Frames.{is_passed, Arrives}
use Rattle.vx_target.specs.Carried.{Carries, IsFunctionOf}
use Rattle.vx_tie.specs.Planned.{CarriesOn, FallsThrough, EntryLaw}
use Rattle.vx_tie.proofs.PastTransfers.{Led, led_past, steps_on}
use Rattle.vx_target.proofs.Calm.{seen, AllFit, Going}
use Rattle.vx_target.proofs.FromGraph.{branch_plain}
use Rattle.vx_target.proofs.Names.{in_register, apart_registers, not_zero, not_general, not_scratch}
use Rattle.vx_target.proofs.Live.{live_bank}
use Rattle.vx_target.proofs.Enough.{some_cluster, some_issue}
use Rattle.vx_target.proofs.Frames.{get_below, get_in, frame_room, above_globals, below_keep}
use Rattle.vx_target.proofs.SeatRoom.{table, framed_from}
use Rattle.vx_target.proofs.SeatSteps.{seated_on, frames_of, saved_of}
use Rattle.vx_target.proofs.Steps.{Stands, stands_left, stands_right, Quiet, quiet_on, Comes, stay, comes_on, forth_comes, Set, set_step, Paused, pause_step, way_step, Kept as Kept_word, store_step}
use Rattle.vx_target.proofs.Slots.{Usable, Loaded, load_list, as_read, number_in, stack_no_answer, link_unnamed, link_no_general}
use Rattle.vx_target.proofs.Stands.{entry_stands, entry_next}
use Rattle.vx_target.proofs.Word.{own_name, read_shows}

not_slotted : (k : Kept) (n : ℕ) → k ≡ InRegister n → is_slotted k ≡ false
not_slotted k n e = ap is_slotted e

three_one : suc (suc (suc zero)) ≡ suc zero → ⊥
three_one q = omega arith

scratch_no_stack : (k : ℕ) → General (stack_on k) ≢ General (general 0 3)
scratch_no_stack k e = three_one (sym (ap number_in e))

module _ (T : Target) (flow : Flow) (ls : List VWords) (w : WordProgram) (sound : SoundFlow flow) (carries : Carries T flow ls w) (fit : AllFit T.machine w) (r : Active) (u : State) (tied : Tied T flow ls r u) (block : r.block ≡ 0) where
  abbrev F : ℕ
  F = r.function

  abbrev Sp : ℕ
  Sp = tied.sp

  below : F < length flow.functions
  below = get_below flow.functions F (T.graph F) tied.is.graph

  of : IsFunctionOf T flow ls F
  of = carries.functions F below

  graph_sound : Sound (T.graph F)
  graph_sound = sound.graphs (T.graph F) (get_in flow.functions F (T.graph F) tied.is.graph)

  abbrev Any : ℕ → Type 0
  Any a = Unit {0}

  abbrev Here : Seating
  Here = here_of T flow.globals Sp r

  at_entry : AtEntry T flow.globals Sp r u
  at_entry = ⊎_elim (λ a. a) (λ a. absurd (let z : suc a.0 ≡ 0 = sym a.1.block ∙ block in omega arith)) tied.at

  small : 4 * memory_words T < 2 ^ 32
  small = let c = carries.small in omega arith

  some : 0 < T.machine.clusters
  some = some_cluster T.machine carries.machine

  abbrev Entry : ℕ
  Entry = (T.layout F).entry

  -- where the words lead
  abbrev Inside : ℕ
  Inside = past T F Entry

  abbrev Brought : List ℕ
  Brought = T.brought F

  room : Sp + T.frame ≤ memory_words T
  room = frame_room T flow carries.some_frame carries.globals sound Sp (length r.waiting) tied.deep

  passed_inside : (v : ℕ) → IsIn v (parameters_of T F) → Sp + T.slot F v < memory_words T
  passed_inside v i = let a = of.framed.slot_to v (is_passed i) in let b = room in omega arith

  bank : (v : ℕ) → IsLive (T.layout F) Entry v → (b : Bank) × (bank_in (T.layout F) v ≡ Some b)
  bank v l = live_bank T F of.mapped graph_sound Entry v l

  arrives : (v : ℕ) → IsIn v Brought → Arrives T F v
  arrives v i = of.saved.brought v i

  usable : (v : ℕ) → IsIn v Brought → Usable T.machine w fit T F Sp carries.memory small some Brought v
  usable v i = let a = arrives v i in record {
    cluster = of.mapped.homes Entry v (is_live a.live);
    not_zero = not_zero T F of.mapped Brought v (bank v a.live);
    not_answer = not_general T F of.mapped Brought v 0 2 (bank v a.live) (omega arith);
    not_stack = λ k. not_general T F of.mapped Brought v k 1 (bank v a.live) (omega arith);
  }

  apart_brought : (x y : ℕ) → IsIn x Brought → IsIn y Brought → x ≢ y → register_of T F Brought x ≢ register_of T F Brought y
  apart_brought x y i j ne =
      let a = arrives x i in
      let b = arrives y j in
      apart_registers T F of.mapped Entry Brought Brought x y (bank x a.live) (bank y b.live) (is_live a.live) (is_live b.live) ne (not_slotted (kept T F x) a.number a.register) (not_slotted (kept T F y) b.number b.register)

  -- the words

  abbrev Loads : List Word
  Loads = load_slots T F Brought Brought

  abbrev Links : List Word
  Links = link_words T F

  abbrev Wait : ℕ
  Wait = wanted T F (Some 0) Inside Brought (Loads ++ Links)

  abbrev Begin : List Word
  Begin = (Loads ++ Links) ++ pause Wait

  abbrev Way : List Word
  Way = way T F 0 Inside

  stands : Stands w.words u.place (Begin ++ Way)
  stands = subst (λ q. Stands w.words q (entry_words T F)) (sym at_entry.place) (entry_stands T flow.main (length flow.functions) w.words carries.placed F below)

  begin_stands : Stands w.words u.place Begin
  begin_stands = stands_left w.words u.place Begin Way stands

  both_stand : Stands w.words u.place (Loads ++ Links)
  both_stand = stands_left w.words u.place (Loads ++ Links) (pause Wait) begin_stands

  loaded : Loaded T.machine w fit T F Sp carries.memory small some Brought u Brought (length Loads)
  loaded = load_list T.machine w fit T F Sp carries.memory small some Brought Brought u tied.calm (stands_left w.words u.place Loads Links both_stand) tied.stack usable (λ v i. passed_inside v (arrives v i).passed) apart_brought

  abbrev C : State
  C = loaded.to

  place_c : C.place ≡ u.place + length Loads
  place_c = loaded.place

  stack_c : (k : ℕ) → k < T.machine.clusters → register C (General (stack_on k)) ≡ pos (4 * Sp)
  stack_c k lt = loaded.others (General (stack_on k)) (λ v i q. (usable v i).not_stack k (sym q)) (stack_no_answer k) ∙ tied.stack k lt

  no_scratch : (v : ℕ) → IsIn v Brought → register_of T F Brought v ≢ General (general 0 3)
  no_scratch v i = let a = arrives v i in not_scratch T F of.mapped Brought v 0 3 (bank v a.live) (not_slotted (kept T F v) a.number a.register) (let s = some_issue T.machine carries.machine in omega arith)

  -- the link is in the frame of a function that calls
  record Linked (taken : ℕ) : Type 0 where
    pub to : State
    pub comes : Comes T.machine w fit C to
    pub place : to.place ≡ C.place + taken
    pub quiet : Quiet C to
    pub others : (q : Register) → (q ≢ General (general 0 3)) → seen to.registers q ≡ seen C.registers q
    pub kept : is_caller T F ≡ true → word_at to.memory Sp ≡ C.registers Link
    pub elsewhere : (x : ℕ) → (x ≢ Sp) → word_at to.memory x ≡ word_at C.memory x

  abbrev Keep : Word
  Keep = one (Store 0 (pos 0) (stack_on 0) (Held (general 0 3)))

  abbrev Keeps : List Word
  Keeps = settled T (one (FromLink (general 0 3)) ∷ []) ++ Keep ∷ []

  module _ (st : Stands w.words C.place Keeps) where
    taken : Set T.machine w fit C (General (general 0 3)) (C.registers Link)
    taken = set_step T.machine w fit C (FromLink (general 0 3)) (General (general 0 3)) (C.registers Link) loaded.quiet.calm st.0 (record { bad = refl; takes = refl; prints = refl; stores = λ m. refl; leads = λ ops. refl }) refl refl refl

    abbrev A : State
    A = taken.to

    abbrev Pause : ℕ
    Pause = in_flight T.machine 0 (one (FromLink (general 0 3)) ∷ [])

    abbrev Late : List Word
    Late = pause Pause

    paused : Paused T.machine w fit A (A.place + length Late)
    paused = pause_step T.machine w fit A Pause taken.quiet.calm (subst (λ q. Stands w.words q Late) (sym taken.place) (stands_left w.words (C.place + 1) Late (Keep ∷ []) st.1))

    abbrev B : State
    B = paused.to

    place_b : B.place ≡ (C.place + 1) + length Late
    place_b = let x = paused.place in let y = taken.place in omega arith

    keep_at : slice_get w.words B.place ≡ Some Keep
    keep_at = subst (λ q. slice_get w.words q ≡ Some Keep) (sym place_b) (stands_right w.words (C.place + 1) Late (Keep ∷ []) st.1).0

    stack_b : (k : ℕ) → k < T.machine.clusters → register B (General (stack_on k)) ≡ pos (4 * Sp)
    stack_b k lt = ap (λ g. seen g (General (stack_on k))) paused.registers ∙ taken.others (General (stack_on k)) (scratch_no_stack k) ∙ stack_c k lt

    first_inside : Sp + 0 < memory_words T
    first_inside = let x = room in let y = carries.some_frame in omega arith

    put_link : Kept_word T.machine w fit (memory_words T) carries.memory small B (Sp + 0) (register B (General (general 0 3)))
    put_link = store_step T.machine w fit (memory_words T) carries.memory small B 0 (stack_on 0) (Held (general 0 3)) Sp 0 paused.quiet.calm keep_at (stack_b 0 some) first_inside

    zero_up : Sp + 0 ≡ Sp
    zero_up = omega arith

    link_kept : Linked (length Keeps)
    link_kept = record {
      to = put_link.to;
      comes = comes_on T.machine w fit C A put_link.to (forth_comes T.machine w fit C A taken.forth) (comes_on T.machine w fit A B put_link.to paused.comes (forth_comes T.machine w fit B put_link.to put_link.forth));
      place = (let x = put_link.place in let y = place_b in let z = length-append Late (Keep ∷ []) in omega arith);
      quiet = quiet_on C A put_link.to taken.quiet (quiet_on A B put_link.to paused.quiet put_link.quiet);
      others = λ q ne. ap (λ g. seen g q) put_link.registers ∙ ap (λ g. seen g q) paused.registers ∙ taken.others q ne;
      kept = λ h. put_link.at Sp (sym zero_up) ∙ ap (λ x. seen x (General (general 0 3))) paused.registers ∙ taken.at;
      elsewhere = λ x ne. put_link.elsewhere x (λ q. ne (q ∙ zero_up)) ∙ ap (λ y. word_at y x) (paused.memory ∙ taken.memory);
    }

  link_run : (b : Bool) → is_caller T F ≡ b → Stands w.words C.place (if b then Keeps else []) → Linked (length (if b then Keeps else []))
  link_run true h st = link_kept st
  link_run false h st = record {
    to = C;
    comes = stay T.machine w fit C;
    place = omega arith;
    quiet = record { calm = loaded.quiet.calm; input = refl; out = refl };
    others = λ q ne. refl;
    kept = λ e. absurd (let z : true ≡ false = sym e ∙ h in cc);
    elsewhere = λ x ne. refl;
  }

  begun : Linked (length Links)
  begun = link_run (is_caller T F) refl (subst (λ q. Stands w.words q Links) (sym place_c) (stands_right w.words u.place Loads Links both_stand))

  abbrev D : State
  D = begun.to

  place_d : D.place ≡ u.place + length (Loads ++ Links)
  place_d = let a = begun.place in let b = place_c in let c = length-append Loads Links in omega arith

  waited : Paused T.machine w fit D (D.place + length (pause Wait))
  waited = pause_step T.machine w fit D Wait begun.quiet.calm (subst (λ q. Stands w.words q (pause Wait)) (sym place_d) (stands_right w.words u.place (Loads ++ Links) (pause Wait) begin_stands))

  abbrev H : State
  H = waited.to

  place_h : H.place ≡ u.place + length Begin
  place_h = let a = waited.place in let b = place_d in let c = length-append (Loads ++ Links) (pause Wait) in omega arith

  -- where the words leave the state
  pub record Done : Type 0 where
    pub to : State
    pub comes : Comes T.machine w fit u to
    pub place : to.place ≡ T.starts F Inside
    pub quiet : Quiet u to
    pub stack : (k : ℕ) → k < T.machine.clusters → register to (General (stack_on k)) ≡ pos (4 * Sp)
    pub brought : (v : ℕ) → IsIn v Brought → seen to.registers (register_of T F Brought v) ≡ as_read (holds_branch T F v) (word_at u.memory (Sp + T.slot F v))
    pub link : link_in T to Sp F ≡ u.registers Link
    pub elsewhere : (x : ℕ) → (x ≢ Sp) → word_at to.memory x ≡ word_at u.memory x

  -- the layout stands behind these words
  ends_there : H.place + length Way ≡ T.starts F 0
  ends_there =
      let a = entry_next T flow.main (length flow.functions) w.words carries.placed F below in
      let b = at_entry.place in
      let c = place_h in
      let d = length-append Begin Way in omega arith

  jumped : Paused T.machine w fit H (T.starts F Inside)
  jumped = way_step T.machine w fit T F 0 Inside H waited.quiet.calm ends_there (subst (λ q. Stands w.words q Way) (sym place_h) (stands_right w.words u.place Begin Way stands))

  abbrev G : State
  G = jumped.to

  same_memory : G.memory ≡ D.memory
  same_memory = jumped.memory ∙ waited.memory

  same_registers : G.registers ≡ D.registers
  same_registers = jumped.registers ∙ waited.registers

  comes_all : Comes T.machine w fit u G
  comes_all = comes_on T.machine w fit u C G loaded.comes (comes_on T.machine w fit C D G begun.comes (comes_on T.machine w fit D H G waited.comes jumped.comes))

  quiet_all : Quiet u G
  quiet_all = quiet_on u C G loaded.quiet (quiet_on C D G begun.quiet (quiet_on D H G waited.quiet jumped.quiet))

  stack_all : (k : ℕ) → k < T.machine.clusters → register G (General (stack_on k)) ≡ pos (4 * Sp)
  stack_all k lt = ap (λ x. seen x (General (stack_on k))) same_registers ∙ begun.others (General (stack_on k)) (scratch_no_stack k) ∙ stack_c k lt

  brought_all : (v : ℕ) → IsIn v Brought → seen G.registers (register_of T F Brought v) ≡ as_read (holds_branch T F v) (word_at u.memory (Sp + T.slot F v))
  brought_all v i = ap (λ x. seen x (register_of T F Brought v)) same_registers ∙ begun.others (register_of T F Brought v) (no_scratch v i) ∙ loaded.at v i

  link_loaded : seen C.registers Link ≡ seen u.registers Link
  link_loaded = loaded.others Link (λ v i. link_unnamed T F Brought v) (link_no_general answer)

  link_register : seen G.registers Link ≡ seen u.registers Link
  link_register = ap (λ x. seen x Link) same_registers ∙ begun.others Link (link_no_general (general 0 3)) ∙ link_loaded

  link_all : link_in T G Sp F ≡ u.registers Link
  link_all = by (is_caller T F) refl
    where
      by : (b : Bool) → is_caller T F ≡ b → (if b then word_at G.memory Sp else G.registers Link) ≡ u.registers Link
      by true h = ap (λ x. word_at x Sp) same_memory ∙ begun.kept h ∙ link_loaded
      by false h = link_register

  elsewhere_all : (x : ℕ) → (x ≢ Sp) → word_at G.memory x ≡ word_at u.memory x
  elsewhere_all x ne = ap (λ y. word_at y x) same_memory ∙ begun.elsewhere x ne ∙ ap (λ y. word_at y x) loaded.memory

  done : Done
  done = record { to = G; comes = comes_all; place = jumped.place; quiet = quiet_all; stack = stack_all; brought = brought_all; link = link_all; elsewhere = elsewhere_all }

  -- the step over values

  abbrev First : Active
  First = record r { block = suc Entry }

  abbrev After : Active
  After = record r { block = suc Inside }

  first_step : next (laid_program flow ls) r ≡ On First
  first_step =
      ap (after_hop (laid_program flow ls) r)
      (ap (body_hop (laid_program flow ls) r) (ap (λ g. laid_body (length flow.globals) g (slice_get ls F)) tied.is.graph ∙ ap (λ l. laid_body (length flow.globals) (Some (T.graph F)) l) tied.is.layout)
      ∙ ap (λ b. laid_hop (setting_with (laid_program flow ls) r.passed r.base) (T.layout F) b r.state) block)

  led : Led T flow ls r tied.is Entry Inside
  led = led_past T flow ls r tied.is Entry

  reach : Reach (next (laid_program flow ls)) (suc led.steps) r After
  reach = (First, first_step, led.over_values)

  same_slot : (v : ℕ) → IsIn v (parameters_of T F) → word_at done.to.memory (Sp + T.slot F v) ≡ word_at u.memory (Sp + T.slot F v)
  same_slot v i = done.elsewhere (Sp + T.slot F v) (λ e. let z = of.framed.slot_from v (is_passed i) in omega arith)

  values : (v : ℕ) (n : ℤ) → IsLive (T.layout F) Inside v → r.state.values v ≡ Some n → Shows T Here F v n (holds T done.to Sp F v)
  values v n live e =
      let k = at_entry.values v n e in by k.0 k.1 (is_slotted (kept T F v)) refl
    where
      by : IsIn v (parameters_of T F) → Shows T Here F v n (word_at u.memory (Sp + T.slot F v)) → (b : Bool) → is_slotted (kept T F v) ≡ b → Shows T Here F v n (if b then word_at done.to.memory (Sp + T.slot F v) else register done.to (register_of T F (v ∷ []) v))
      by i m true h = subst (λ x. Shows T Here F v n x) (sym (same_slot v i)) m
      by i m false h =
          let number = in_register (kept T F v) h in
          let there = of.saved.brings v (record { passed = i; live = led.live v live; number = number.0; register = number.1 }) in
          subst (λ x. Shows T Here F v n x) (sym (ap (register done.to) (own_name T F v (v ∷ []) Brought h) ∙ done.brought v there)) (read_shows T Here F v n (word_at u.memory (Sp + T.slot F v)) (branch_plain T F Any graph_sound of.mapped.code v) m)

  -- memory: only the first word of the frame has changed

  the_table : Seats T (length flow.globals) (stack_from T Sp r) r.state.arrays u.memory (λ k. seat T flow.globals (stack_from T Sp r) k)
  the_table = table T flow ls sound (frames_of T flow ls w carries) (stack_from T Sp r) Sp r.state.arrays u.memory tied.stacked (above_globals T flow carries.some_frame carries.globals sound Sp (length r.waiting) tied.deep) tied.seated

  seated : Seated T flow.globals (stack_from T Sp r) r.state.arrays done.to.memory
  seated = seated_on T flow.globals (stack_from T Sp r) r.state.arrays u.memory done.to.memory
      (λ k i has. done.elsewhere (seat T flow.globals (stack_from T Sp r) k + i) (λ e. the_table.free (active_at Sp r) Sp k i (inl refl) (is_link refl) has (sym e)))
      tied.seated

  waiting : Below T flow ls done.to.memory Sp r.waiting
  waiting = below_keep T flow ls (saved_of T flow ls w carries) r.waiting u.memory done.to.memory Sp
      (λ x word i framed. done.elsewhere word (λ q. let y = carries.some_frame in let z = framed_from T flow ls (waiting_above T Sp r.waiting) (Sp + T.frame) r.base tied.stacked.4 x word i framed in omega arith)) tied.below

  tied_after : Tied T flow ls After done.to
  tied_after = record {
    sp = Sp;
    is = tied.is;
    calm = done.quiet.calm;
    deep = tied.deep;
    stack = done.stack;
    at = inr (Inside, record { block = refl; place = done.place; values = values; link = done.link ∙ at_entry.link });
    stacked = tied.stacked;
    seated = seated;
    below = waiting;
    input = done.quiet.input ∙ tied.input;
    out = done.quiet.out ∙ tied.out;
    safe = safe_after (next (laid_program flow ls)) (λ x. x.state.out) (suc led.steps) r After reach tied.safe;
  }

  by_words : (n : ℕ) → Reach (Going T.machine w) n u done.to → CarriesOn T flow ls w r u ⊎ FallsThrough T flow ls r u
  by_words zero same = inr (record { after = After; place = Inside; block = refl; steps = led.steps; over_values = steps_on flow ls (suc led.steps) r After reach; tied = subst (Tied T flow ls After) (sym same) tied_after })
  by_words (suc n) forth = inl (record {
    after = After;
    to = done.to;
    steps = led.steps;
    words = n;
    over_values = steps_on flow ls (suc led.steps) r After reach;
    over_registers = λ k. run_reach (step T.machine (1 ∷ []) w) (λ x. x.out) (suc n) k u done.to forth;
    tied = tied_after;
  })

  entered_on : CarriesOn T flow ls w r u ⊎ FallsThrough T flow ls r u
  entered_on = by_words done.comes.0 done.comes.1

pub entry_law : EntryLaw
entry_law T flow ls w sound carries fit r u tied block = entered_on T flow ls w ((told flow (is_sound_flow flow) refl).0 sound) carries fit r u tied block
