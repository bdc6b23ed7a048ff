-- Behind a call the stack pointers go up, the result comes to where it is kept, and what was saved is reloaded.
use Rattle.std.proofs.Common.{◌≡◌, ◌≢◌, ◌<◌, ◌≤◌, ◌⊎◌, inl, inr, ⊎_elim, ◌+◌, ◌-◌, ◌*◌, ◌^◌, ℕ, suc, ℤ, pos, Bool, true, false, Option, Some, None, List, [], ◌∷◌, ◌++◌, length, length-append, take, refl, sym, ap, ◌∙◌, subst, arith}
use Rattle.std.specs.Prelude.{slice_get, if◌then◌else◌}
use Rattle.std.specs.List.{flat_map}
use Rattle.std.proofs.lemmas.Bool.{ne_eqb}
use Rattle.std.proofs.lemmas.List.{append-nil}
use Rattle.vx_base.specs.Arithmetic.{wrap, sum_of}
use Rattle.vx_base.specs.declared.arithmetic.Code.TheVariants.{Add}
use Rattle.vx_base.specs.Outcome.{Outcome, Ends, On, Over}
use Rattle.vx_base.proofs.Runs.{run_reach, run_ends, safe_after, safe_end, reach_one}
use Rattle.vx_flow.specs.declared.graph.Bank.{Bank}
use Rattle.vx_flow.specs.declared.graph.Bank.TheVariants.{General as GeneralBank}
use Rattle.vx_flow.specs.declared.graph.Exit.{Exit}
use Rattle.vx_flow.specs.declared.graph.Exit.TheVariants.{Call as Calling}
use Rattle.vx_flow.specs.declared.graph.Flow.{Flow}
use Rattle.vx_flow.specs.declared.graph.Operand.{Operand}
use Rattle.vx_flow.specs.Effects.{Content, State as VState, IsIn, held, value_in}
use Rattle.vx_flow.specs.Meaning.{Active, Frame, Hop, Leaves, returned, leaves, with_result, after_hop, next}
use Rattle.vx_flow.specs.Sound.{Sound, SoundFlow, IsPlace, IsBase, results_of_exit, is_sound_flow}
use Rattle.vx_flow.proofs.Members.{in_right}
use Rattle.vx_flow.proofs.SoundFlowLaw.{told}
use Rattle.vx_isa.specs.declared.operation.Register.TheVariants.{General}
use Rattle.vx_isa.specs.declared.operation.Source.TheVariants.{Held, Number}
use Rattle.vx_isa.specs.declared.operation.Operation.{Operation}
use Rattle.vx_isa.specs.declared.operation.Operation.TheVariants.{Compute, Call as CallsTo, Halt}
use Rattle.vx_isa.specs.declared.program.Word.{Word}
use Rattle.vx_isa.specs.declared.program.WordProgram.{WordProgram}
use Rattle.vx_isa.specs.Machine.{State, Halts, register, leads_to, unless_stuck, effect, issue, step}
use Rattle.vx_room.specs.Items.{latency_of_op}
use Rattle.vx_mixed.specs.declared.layout.VirtualWord.TheVariants.{Call, Return}
use Rattle.vx_mixed.specs.declared.layout.VWords.{VWords}
use Rattle.vx_layout.specs.Laid.{laid_program}
use Rattle.vx_mixed.specs.LaidSettled.{bank_in}
use Rattle.vx_layout.specs.Origins.{CallsAs}
use Rattle.vx_regs.specs.Intervals.{IsLive, IsBusy, is_live, is_named, result_of}
use Rattle.vx_target.specs.Target.{Target, answer, kept, is_slotted, is_branch, holds_branch, stack_on, register_of, one, bytes, move_stack, result_words, load_slots, wanted, reload_words, call_words, back_words, set_stack, halt_place, memory_words}
use Rattle.vx_target.specs.Tied.{Tied, Seating, Shows, Stacked, IsStack, Seated, Waits, Below, Deep, IsResult, active_at, waiting_at, there_of, waiting_above, seat, Itself, IsShown, back_place, kind_of, holds, word_at}
use Rattle.vx_target.specs.Frames.{NeedsSlot, is_spilled, is_saved, Survives}
use Rattle.vx_target.specs.Carried.{Carries, IsFunctionOf}
use Rattle.vx_tie.specs.Planned.{CarriesOn, EndsAlike}
use Rattle.vx_tie.proofs.PastTransfers.{one_on}
use Rattle.vx_tie.specs.Returned.{ReturnLaw}
use Rattle.vx_target.proofs.Calm.{AllFit, after, not_stuck, effect_is}
use Rattle.vx_target.proofs.Enough.{some_cluster}
use Rattle.vx_target.specs.Seats.{Seats, is_slot}
use Rattle.vx_target.proofs.Frames.{get_below, get_in, frame_room, above_globals, link_in_frame, below_keep}
use Rattle.vx_target.proofs.SeatRoom.{table, framed_from}
use Rattle.vx_target.proofs.SeatSteps.{seated_on, returned_stack, returned_seated, frames_of, saved_of}
use Rattle.vx_target.proofs.FromGraph.{branch_plain, plain_kind, whole_bank, has_whole, whole_is}
use Rattle.vx_tie.proofs.Leaving.{Left, hop_to, left_run}
use Rattle.vx_target.proofs.Live.{live_bank}
use Rattle.vx_tie.proofs.Moves.{Moved, move_run, up}
use Rattle.vx_target.proofs.Names.{in_register, apart_registers, not_zero, not_general}
use Rattle.vx_target.proofs.Cells.{same_or_not}
use Rattle.vx_tie.proofs.Resulted.{CanGet, Resulted, result_run}
use Rattle.vx_target.proofs.Slots.{Usable, Loaded, paused_case, as_read, stack_no_answer}
use Rattle.vx_target.proofs.Stands.{word_stands, word_next, start_stands}
use Rattle.vx_target.proofs.Steps.{Stands, stands_left, stands_right, Quiet, quiet_on, Forth, comes_on, forth_on, forth_comes}
use Rattle.vx_target.proofs.Word.{own_name, read_shows}

-- the result of a call

is_result : (result : Option ℕ) (v : ℕ) → IsResult result v ⊎ (IsResult result v → ⊥)
is_result None v = inr (λ i. i)
is_result (Some r) v = ⊎_elim (λ q. inl q.1) (λ q. inr q.1) (same_or_not v r)

in_result : (result : Option ℕ) (v : ℕ) → IsResult result v → IsIn v (result_of result)
in_result None v i = absurd i
in_result (Some r) v e = inl e

in_results : (g next : ℕ) (arguments : List Operand) (result : Option ℕ) (v : ℕ) → IsResult result v → IsIn v (results_of_exit (Calling g arguments result next))
in_results g next arguments None v i = absurd i
in_results g next arguments (Some r) v e = inl e

with_is : (result : Option ℕ) (v : ℕ) (n m : ℤ) (values : ℕ → Content) → IsResult result v → with_result values result n v ≡ Some m → n ≡ m
with_is None v n m values i e = absurd i
with_is (Some r) v n m values i e = ⊎_elim (λ q. let k : Some n ≡ Some m = sym (ap (λ b. if b then Some n else values v) q.0) ∙ e in cc) (λ q. absurd (q.1 i)) (same_or_not v r)

with_other : (result : Option ℕ) (v : ℕ) (n : ℤ) (values : ℕ → Content) → (IsResult result v → ⊥) → with_result values result n v ≡ values v
with_other None v n values h = refl
with_other (Some r) v n values h = ap (λ b. if b then Some n else values v) (ne_eqb v r h)

module _ (T : Target) (flow : Flow) (ls : List VWords) (w : WordProgram) (sound : SoundFlow flow) (carries : Carries T flow ls w) (fit : AllFit T.machine w) (r : Active) (u : State) (tied : Tied T flow ls r u) (fr : Frame) (frs : List Frame) (waiting : r.waiting ≡ fr ∷ frs) where
  abbrev S : VState
  S = r.state

  abbrev F : ℕ
  F = fr.function

  -- where the frame of the caller begins
  abbrev Sp : ℕ
  Sp = tied.sp + T.frame

  abbrev Globals : ℕ
  Globals = length flow.globals

  both : Below T flow ls u.memory tied.sp (fr ∷ frs)
  both = subst (λ fs. Below T flow ls u.memory tied.sp fs) waiting tied.below

  waits : Waits T flow ls u.memory Sp fr frs
  waits = both.0

  -- the activations: the one that returns, and the others

  abbrev Returning_one : Stacked
  Returning_one = active_at tied.sp r

  abbrev Caller : Stacked
  Caller = waiting_at Sp fr

  abbrev Activations : List Stacked
  Activations = Caller ∷ waiting_above T Sp frs

  was_stacked : IsStack T flow ls tied.sp (length S.arrays) (Returning_one ∷ Activations)
  was_stacked = subst (λ fs. IsStack T flow ls tied.sp (length S.arrays) (Returning_one ∷ waiting_above T tied.sp fs)) waiting tied.stacked

  was_seated : Seated T flow.globals (Returning_one ∷ Activations) S.arrays u.memory
  was_seated = subst (λ fs. Seated T flow.globals (Returning_one ∷ waiting_above T tied.sp fs) S.arrays u.memory) waiting tied.seated

  -- what the caller sees, now as before
  abbrev There : Seating
  There = there_of T flow.globals Sp fr frs

  abbrev P : ℕ
  P = waits.caller

  abbrev Saved : List ℕ
  Saved = T.saved F P

  below : F < length flow.functions
  below = get_below flow.functions F (T.graph F) waits.is.graph

  of : IsFunctionOf T flow ls F
  of = carries.functions F below

  graph_sound : Sound (T.graph F)
  graph_sound = sound.graphs (T.graph F) (get_in flow.functions F (T.graph F) waits.is.graph)

  deep : Deep T tied.sp (suc (suc (length frs)))
  deep = subst (λ fs. Deep T tied.sp (suc (length fs))) waiting tied.deep

  deep_back : Deep T Sp (suc (length frs))
  deep_back = record {
    is = (let a = deep.is in let m : T.frame * suc (suc (length frs)) ≡ T.frame * suc (length frs) + T.frame = grind arith in omega arith);
    most = (let a = deep.most in omega arith);
  }

  room : Sp + T.frame ≤ memory_words T
  room = frame_room T flow carries.some_frame carries.globals sound Sp (length frs) deep_back

  small : 4 * memory_words T < 2 ^ 32
  small = let c = carries.small in omega arith

  some : 0 < T.machine.clusters
  some = some_cluster T.machine carries.machine

  -- the words behind the call

  abbrev Calls : List Word
  Calls = call_words T F P waits.callee waits.arguments

  abbrev Up : List Word
  Up = move_stack T (bytes T.frame)

  abbrev Gets : List Word
  Gets = result_words T F fr.result

  abbrev Loads : List Word
  Loads = reload_words T F (P + 1) Saved

  back_is : back_place T r.waiting ≡ T.back F P
  back_is = ap (back_place T) waiting ∙ ap (T.back F) (let e = waits.from in let q : fr.from - 1 ≡ P = omega arith in q)

  back_at : T.back F P ≡ T.starts F P + length Calls
  back_at = carries.placed.backs F P waits.callee waits.arguments fr.result waits.called

  stands : Stands w.words (back_place T r.waiting) (Up ++ (Gets ++ Loads))
  stands = subst (λ q. Stands w.words q (back_words T F P fr.result)) (sym (back_is ∙ back_at)) (stands_right w.words (T.starts F P) Calls (back_words T F P fr.result) (word_stands T flow.main (length flow.functions) w.words carries.placed F P (Call waits.callee waits.arguments fr.result) below waits.called))

  pub few : back_place T r.waiting < 2 ^ 32
  few = let a = get_below w.words (back_place T r.waiting) _ stands.0 in let b = carries.few in omega arith

  -- the result

  abbrev Any : ℕ → Type 0
  Any a = Unit {0}

  site : CallsAs (T.graph F) waits.callee waits.arguments fr.result
  site = of.mapped.code.calls P waits.callee waits.arguments fr.result waits.called

  abbrev Exiting : Exit
  Exiting = Calling waits.callee waits.arguments fr.result site.next

  among : (v : ℕ) → IsResult fr.result v → IsIn v (results_of_exit Exiting)
  among v i = in_results waits.callee site.next waits.arguments fr.result v i

  result_general : (v : ℕ) → IsResult fr.result v → slice_get (T.graph F).banks v ≡ Some GeneralBank
  result_general v i = graph_sound.exit_results Exiting v site.has (among v i)

  in_general_bank : (v : ℕ) → IsResult fr.result v → bank_in (T.layout F) v ≡ Some GeneralBank
  in_general_bank v i = whole_bank T F Any graph_sound of.mapped.code v GeneralBank (has_whole T F Any graph_sound of.mapped.code (λ a lt. tt) v GeneralBank (result_general v i))

  result_bank : (v : ℕ) → IsResult fr.result v → (b : Bank) × (bank_in (T.layout F) v ≡ Some b)
  result_bank v i = (GeneralBank, in_general_bank v i)

  result_plain : (v : ℕ) → IsResult fr.result v → (kind_of T F v ≡ Itself) × (holds_branch T F v ≡ false)
  result_plain v i =
      let whole = whole_is T F Any graph_sound of.mapped.code (λ a lt. tt) v GeneralBank (result_general v i) in (
        plain_kind T F Any graph_sound of.mapped.code v
            (λ a k. graph_sound.place_exit v a Exiting (subst (λ y. IsPlace (T.graph F) y a) whole k) site.has (inr (among v i)))
            (λ k. graph_sound.base_result v Exiting (subst (IsBase (T.graph F)) whole k) site.has (among v i)),
        ap is_branch (in_general_bank v i),
      )

  result_busy : (v : ℕ) → IsResult fr.result v → IsBusy (latency_of_op T.machine) (T.layout F) P v
  result_busy v i = is_named waits.called (in_right v (flat_map value_in waits.arguments) (result_of fr.result) (in_result fr.result v i))

  result_needs : (v : ℕ) → IsResult fr.result v → is_slotted (kept T F v) ≡ true → NeedsSlot T F v
  result_needs v i h = is_spilled P (result_busy v i) h

  can_get : (v : ℕ) → IsResult fr.result v → CanGet T.machine w fit T F Sp carries.memory small v
  can_get v i = record {
    general = (result_plain v i).1;
    not_zero = not_zero T F of.mapped (v ∷ []) v (result_bank v i);
    inside = λ h. let a = of.framed.slot_to v (result_needs v i h) in let b = room in omega arith;
  }

  -- saved values

  survives : (v : ℕ) → IsIn v Saved → Survives T F P fr.result v
  survives v i = of.saved.saved P waits.callee v waits.arguments fr.result waits.called i

  in_a_register : (v : ℕ) → IsIn v Saved → is_slotted (kept T F v) ≡ false
  in_a_register v i = ap is_slotted (survives v i).register

  saved_bank : (v : ℕ) → IsIn v Saved → (b : Bank) × (bank_in (T.layout F) v ≡ Some b)
  saved_bank v i = live_bank T F of.mapped graph_sound (suc P) v (survives v i).live

  saved_needs : (v : ℕ) → IsIn v Saved → NeedsSlot T F v
  saved_needs v i = is_saved P waits.callee waits.arguments fr.result waits.called i

  usable : (v : ℕ) → IsIn v Saved → Usable T.machine w fit T F Sp carries.memory small some Saved v
  usable v i = record {
    cluster = of.mapped.homes (suc P) v (is_live (survives v i).live);
    not_zero = not_zero T F of.mapped Saved v (saved_bank v i);
    not_answer = not_general T F of.mapped Saved v 0 2 (saved_bank v i) (omega arith);
    not_stack = λ k. not_general T F of.mapped Saved v k 1 (saved_bank v i) (omega arith);
  }

  saved_apart : (x y : ℕ) → IsIn x Saved → IsIn y Saved → x ≢ y → register_of T F Saved x ≢ register_of T F Saved y
  saved_apart x y i j ne = apart_registers T F of.mapped (suc P) Saved Saved x y (saved_bank x i) (saved_bank y j) (is_live (survives x i).live) (is_live (survives y j).live) ne (in_a_register x i) (in_a_register y j)

  -- the run

  module _ (n : ℤ) (steps : next (laid_program flow ls) r ≡ returned n S r.base r.waiting) (left : Left T w fit tied.sp u (back_place T r.waiting) n) where
    abbrev L : State
    L = left.to

    abbrev op : ℕ → Operation
    op k = Compute k Add (General (stack_on k)) (Held (stack_on k)) (Number (bytes T.frame))

    abbrev Raise : ℕ → ℤ
    Raise k = sum_of (register L (General (stack_on k))) (bytes T.frame)

    stands_l : Stands w.words L.place (Up ++ (Gets ++ Loads))
    stands_l = subst (λ q. Stands w.words q (Up ++ (Gets ++ Loads))) (sym left.place) stands

    moved : Moved T.machine w fit L op Raise (λ k. refl) (λ k. refl) (λ k. record { bad = refl; takes = refl; prints = refl; stores = λ m. refl; leads = λ ops. refl }) T.machine.clusters
    moved = move_run T.machine w fit L op Raise (λ k. refl) (λ k. refl) (λ k. record { bad = refl; takes = refl; prints = refl; stores = λ m. refl; leads = λ ops. refl }) T.machine.clusters left.quiet.calm (stands_left w.words L.place Up (Gets ++ Loads) stands_l)

    abbrev A : State
    A = moved.to

    stack_a : (k : ℕ) → k < T.machine.clusters → register A (General (stack_on k)) ≡ pos (4 * Sp)
    stack_a k lt = moved.stack k lt ∙ ap (λ z. sum_of z (bytes T.frame)) (left.stack k lt) ∙ up Sp tied.sp T.frame refl (let c = carries.small in let a = room in omega arith)

    answer_a : register A (General answer) ≡ n
    answer_a = moved.others (General answer) (λ k e. stack_no_answer k (sym e)) ∙ left.answered

    stands_a : Stands w.words A.place (Gets ++ Loads)
    stands_a = subst (λ q. Stands w.words q (Gets ++ Loads)) (sym moved.place) (stands_right w.words L.place Up (Gets ++ Loads) stands_l)

    resulted : Resulted T.machine w fit T F Sp carries.memory small A fr.result n (length Gets)
    resulted = result_run T.machine w fit T F Sp carries.memory small fr.result n A moved.quiet.calm (stack_a 0 some) answer_a can_get (stands_left w.words A.place Gets Loads stands_a)

    abbrev B : State
    B = resulted.to

    stack_b : (k : ℕ) → k < T.machine.clusters → register B (General (stack_on k)) ≡ pos (4 * Sp)
    stack_b k lt = resulted.others (General (stack_on k)) (λ v i e. not_general T F of.mapped (v ∷ []) v k 1 (result_bank v i) (omega arith) (sym e)) ∙ stack_a k lt

    stands_b : Stands w.words B.place Loads
    stands_b = subst (λ q. Stands w.words q Loads) (sym resulted.place) (stands_right w.words A.place Gets Loads stands_a)

    reloaded : Loaded T.machine w fit T F Sp carries.memory small some Saved B Saved (length Loads)
    reloaded = paused_case T.machine w fit T F Sp carries.memory small some Saved (wanted T F None (P + 1) Saved (load_slots T F Saved Saved)) Saved B resulted.quiet.calm stands_b stack_b usable (λ v i. let a = of.framed.slot_to v (saved_needs v i) in let b = room in omega arith) saved_apart

    abbrev C : State
    C = reloaded.to

    stack_c : (k : ℕ) → k < T.machine.clusters → register C (General (stack_on k)) ≡ pos (4 * Sp)
    stack_c k lt = reloaded.others (General (stack_on k)) (λ v i q. (usable v i).not_stack k (sym q)) (stack_no_answer k) ∙ stack_b k lt

    forth_c : Forth T.machine w fit u C
    forth_c = forth_on T.machine w fit u L C left.forth (comes_on T.machine w fit L A C (forth_comes T.machine w fit L A moved.forth) (comes_on T.machine w fit A B C resulted.comes reloaded.comes))

    quiet_c : Quiet u C
    quiet_c = quiet_on u L C left.quiet (quiet_on L A C moved.quiet (quiet_on A B C resulted.quiet reloaded.quiet))

    place_c : C.place ≡ T.starts F (suc P)
    place_c =
        let a = reloaded.place in
        let b = resulted.place in
        let c : A.place ≡ L.place + length Up = moved.place in
        let d = left.place in
        let e = back_is in
        let f = back_at in
        let g = word_next T flow.main (length flow.functions) w.words carries.placed F P (Call waits.callee waits.arguments fr.result) below waits.called in
        let l1 : length (Calls ++ back_words T F P fr.result) ≡ length Calls + length (back_words T F P fr.result) = length-append Calls (back_words T F P fr.result) in
        let l2 : length (Gets ++ Loads) ≡ length Gets + length Loads = length-append Gets Loads in
        let l3 : length (back_words T F P fr.result) ≡ length Up + length (Gets ++ Loads) = length-append Up (Gets ++ Loads) in
        let h : T.starts F (suc P) ≡ T.starts F P + length (Calls ++ back_words T F P fr.result) = g in
        omega arith

    -- memory is as it was but for the result's slot

    memory_b : (x : ℕ) → ((v : ℕ) → IsResult fr.result v → is_slotted (kept T F v) ≡ true → x ≢ Sp + T.slot F v) → word_at B.memory x ≡ word_at u.memory x
    memory_b x h = resulted.elsewhere x h ∙ ap (λ y. word_at y x) (moved.memory ∙ left.memory)

    memory_c : (x : ℕ) → ((v : ℕ) → IsResult fr.result v → is_slotted (kept T F v) ≡ true → x ≢ Sp + T.slot F v) → word_at C.memory x ≡ word_at u.memory x
    memory_c x h = ap (λ y. word_at y x) reloaded.memory ∙ memory_b x h

    link_c : word_at C.memory Sp ≡ wrap (pos (back_place T frs))
    link_c = memory_c Sp (λ v i h e. let a = of.framed.slot_from v (result_needs v i h) in omega arith) ∙ waits.link

    other_slot : (v : ℕ) → NeedsSlot T F v → (IsResult fr.result v → ⊥) → (x : ℕ) → IsResult fr.result x → is_slotted (kept T F x) ≡ true → Sp + T.slot F v ≢ Sp + T.slot F x
    other_slot v needs no_ x i h e = let same : v ≡ x = of.framed.slots v x needs (result_needs x i h) (omega arith) in no_ (subst (IsResult fr.result) (sym same) i)

    -- values

    result_value : (v : ℕ) → IsLive (T.layout F) (suc P) v → IsResult fr.result v → holds T C Sp F v ≡ n
    result_value v lives i = by (is_slotted (kept T F v)) refl (resulted.is v i)
      where
        by : (b : Bool) → is_slotted (kept T F v) ≡ b → (if b then word_at B.memory (Sp + T.slot F v) else register B (register_of T F (v ∷ []) v)) ≡ n → (if b then word_at C.memory (Sp + T.slot F v) else register C (register_of T F (v ∷ []) v)) ≡ n
        by true h k = ap (λ y. word_at y (Sp + T.slot F v)) reloaded.memory ∙ k
        by false h k =
            reloaded.others (register_of T F (v ∷ []) v)
            (λ y j e. apart_registers T F of.mapped (suc P) (v ∷ []) Saved v y (result_bank v i) (saved_bank y j) (is_live lives) (is_live (survives y j).live) (λ q. (survives y j).other (subst (IsResult fr.result) q i)) h (in_a_register y j) e)
            (not_general T F of.mapped (v ∷ []) v 0 2 (result_bank v i) (omega arith)) ∙ k

    shows_result : (v : ℕ) (m : ℤ) → IsLive (T.layout F) (suc P) v → IsResult fr.result v → n ≡ m → Shows T There F v m (holds T C Sp F v)
    shows_result v m lives i e = record {
      answer = λ b. absurd (let z : true ≡ false = sym b ∙ (result_plain v i).1 in cc);
      is = subst (λ k. IsShown (T.graph F).arrays There k m (holds T C Sp F v)) (sym (result_plain v i).0) (result_value v lives i ∙ e);
    }

    shows_other : (v : ℕ) (m : ℤ) → IsLive (T.layout F) (suc P) v → (IsResult fr.result v → ⊥) → fr.values v ≡ Some m → Shows T There F v m (holds T C Sp F v)
    shows_other v m lives no_ e = by (is_slotted (kept T F v)) refl (waits.values v m lives no_ e)
      where
        by : (b : Bool) → is_slotted (kept T F v) ≡ b → Shows T There F v m (word_at u.memory (Sp + T.slot F v)) → Shows T There F v m (if b then word_at C.memory (Sp + T.slot F v) else register C (register_of T F (v ∷ []) v))
        by true h k = subst (λ y. Shows T There F v m y) (sym (memory_c (Sp + T.slot F v) (other_slot v (is_spilled (suc P) (is_live lives) h) no_))) k
        by false h k =
            let number = in_register (kept T F v) h in
            let there : IsIn v Saved = of.saved.saves P waits.callee v waits.arguments fr.result waits.called (record { live = lives; other = no_; number = number.0; register = number.1 }) in
            let old : Shows T There F v m (word_at B.memory (Sp + T.slot F v)) = subst (λ y. Shows T There F v m y) (sym (memory_b (Sp + T.slot F v) (other_slot v (saved_needs v there) no_))) k in
            let name : register C (register_of T F (v ∷ []) v) ≡ as_read (holds_branch T F v) (word_at B.memory (Sp + T.slot F v)) = ap (register C) (own_name T F v (v ∷ []) Saved h) ∙ reloaded.at v there in
            subst (λ y. Shows T There F v m y) (sym name) (read_shows T There F v m (word_at B.memory (Sp + T.slot F v)) (branch_plain T F Any graph_sound of.mapped.code v) old)

    values : (v : ℕ) (m : ℤ) → IsLive (T.layout F) (suc P) v → with_result fr.values fr.result n v ≡ Some m → Shows T There F v m (holds T C Sp F v)
    values v m lives e = ⊎_elim
        (λ i. shows_result v m lives i (with_is fr.result v n m fr.values i e))
        (λ no_. shows_other v m lives no_ (sym (with_other fr.result v n fr.values no_) ∙ e))
        (is_result fr.result v)

    -- rows

    abbrev Rows : List (List Content)
    Rows = take r.base S.arrays

    stacked : IsStack T flow ls Sp (length Rows) Activations
    stacked = returned_stack T flow ls Returning_one Activations tied.sp S.arrays was_stacked

    returned_rows : Seated T flow.globals Activations Rows u.memory
    returned_rows = returned_seated T flow ls Returning_one Activations tied.sp S.arrays was_stacked u.memory was_seated

    the_table : Seats T Globals Activations Rows u.memory (λ k. seat T flow.globals Activations k)
    the_table = table T flow ls sound (frames_of T flow ls w carries) Activations Sp Rows u.memory stacked (above_globals T flow carries.some_frame carries.globals sound Sp (length frs) deep_back) returned_rows

    seated : Seated T flow.globals Activations Rows C.memory
    seated = seated_on T flow.globals Activations Rows u.memory C.memory
        (λ k i has. memory_c (seat T flow.globals Activations k + i) (λ v j h e. the_table.free Caller (Sp + T.slot F v) k i (inl refl) (is_slot v (result_needs v j h) refl) has (sym e)))
        returned_rows

    rest_below : Below T flow ls C.memory Sp frs
    rest_below = below_keep T flow ls (saved_of T flow ls w carries) frs u.memory C.memory Sp
        (λ x word i framed. let z = framed_from T flow ls (waiting_above T Sp frs) (Sp + T.frame) fr.base was_stacked.4.4 x word i framed in
        memory_c word (λ v j h e. let a = of.framed.slot_to v (result_needs v j h) in omega arith))
        both.1

    -- the step over values

    abbrev After : Active
    After = record { function = F; block = fr.next; passed = fr.passed; base = fr.base; state = record S { values = with_result fr.values fr.result n; arrays = Rows }; waiting = frs }

    goes : next (laid_program flow ls) r ≡ On After
    goes = steps ∙ ap (returned n S r.base) waiting

    pub back_on : CarriesOn T flow ls w r u
    back_on = record {
      after = After;
      to = C;
      words = forth_c.0;
      steps = 0;
      over_values = one_on flow ls r After goes;
      over_registers = λ k. run_reach (step T.machine (1 ∷ []) w) (λ x. x.out) (suc forth_c.0) k u C forth_c.1;
      tied = record {
        sp = Sp;
        is = waits.is;
        calm = quiet_c.calm;
        deep = deep_back;
        stack = stack_c;
        at = inr (suc P, record { block = waits.next; place = place_c; values = values; link = link_in_frame T C Sp F P waits.callee waits.arguments fr.result waits.called ∙ link_c });
        stacked = stacked;
        seated = seated;
        below = rest_below;
        input = quiet_c.input ∙ tied.input;
        out = quiet_c.out ∙ tied.out;
        safe = safe_after (next (laid_program flow ls)) (λ x. x.state.out) 1 r After (reach_one (next (laid_program flow ls)) r After goes) tied.safe;
      };
    }

-- with no function waiting the word at the link ends the run with the result
module _ (T : Target) (flow : Flow) (ls : List VWords) (w : WordProgram) (carries : Carries T flow ls w) (fit : AllFit T.machine w) (r : Active) (u : State) (tied : Tied T flow ls r u) (waiting : r.waiting ≡ []) where
  abbrev Halting : Word
  Halting = one (Halt (Held answer))

  halt_at : slice_get w.words (back_place T r.waiting) ≡ Some Halting
  halt_at =
      let ends : List Word = one (CallsTo (T.entry flow.main)) ∷ Halting ∷ [] in
      let at = stands_right w.words 0 (set_stack T) ends (start_stands T flow.main (length flow.functions) w.words carries.placed) in
      let z : (0 + length (set_stack T)) + 1 ≡ halt_place T = omega arith in
      subst (λ fs. slice_get w.words (back_place T fs) ≡ Some Halting) (sym waiting) (subst (λ q. slice_get w.words q ≡ Some Halting) z at.1.0)

  few_at_end : back_place T r.waiting < 2 ^ 32
  few_at_end = let a = get_below w.words (back_place T r.waiting) Halting halt_at in let b = carries.few in omega arith

  module _ (n : ℤ) (steps : next (laid_program flow ls) r ≡ returned n r.state r.base r.waiting) (left : Left T w fit tied.sp u (back_place T r.waiting) n) where
    abbrev Last : State
    Last = left.to

    halt_here : slice_get w.words Last.place ≡ Some Halting
    halt_here = subst (λ q. slice_get w.words q ≡ Some Halting) (sym left.place) halt_at

    ends : step T.machine (1 ∷ []) w Last ≡ Over (Ends (register Last (General answer)) (after w Last Halting Last.place).out)
    ends =
        let f = fit Last.place Halting halt_here in
        ap (issue T.machine (1 ∷ []) w Last) halt_here
        ∙ ap (λ why. unless_stuck why Last (leads_to (Halts (register Last (General answer))) (effect T.machine (1 ∷ []) w Last Halting))) (not_stuck T.machine w Last Halting f.0 f.1 (record { addresses = refl; input = refl }))
        ∙ ap (λ t. leads_to (Halts (register Last (General answer))) t) (effect_is T.machine w Last Halting left.quiet.calm)

    out_is : (after w Last Halting Last.place).out ≡ r.state.out
    out_is = append-nil Last.out ∙ left.quiet.out ∙ tied.out

    ended : EndsAlike T flow ls w r u
    ended = record {
      outcome = Ends n r.state.out;
      over = tt;
      words = suc left.forth.0 + 1;
      over_values = steps ∙ ap (returned n r.state r.base) waiting;
      over_registers = run_ends (step T.machine (1 ∷ []) w) (λ t. t.out) (suc left.forth.0) u Last (Ends (register Last (General answer)) (after w Last Halting Last.place).out) left.forth.1 ends
          ∙ ap (λ z. Ends z (after w Last Halting Last.place).out) left.answered ∙ ap (Ends n) out_is;
    }

module _ (T : Target) (flow : Flow) (ls : List VWords) (w : WordProgram) (sound : SoundFlow flow) (carries : Carries T flow ls w) (fit : AllFit T.machine w) (r : Active) (u : State) (tied : Tied T flow ls r u) (p : ℕ) (x : Operand) (block : r.block ≡ suc p) (plan : slice_get (T.layout r.function).words p ≡ Some (Return x)) where
  to_hop : (h : Hop) → leaves (held r.state x) r.state ≡ h → next (laid_program flow ls) r ≡ after_hop (laid_program flow ls) r h
  to_hop h e = hop_to T flow ls w sound carries fit r u tied p x block plan h e

  steps_by : (n : ℤ) → held r.state x ≡ Some n → next (laid_program flow ls) r ≡ returned n r.state r.base r.waiting
  steps_by n e = to_hop (Leaves n r.state) (ap (λ y. leaves y r.state) e)

  by_waiting : (n : ℤ) → held r.state x ≡ Some n → (fs : List Frame) → r.waiting ≡ fs → CarriesOn T flow ls w r u ⊎ EndsAlike T flow ls w r u
  by_waiting n e [] waiting = inr (ended T flow ls w carries fit r u tied waiting n (steps_by n e) (left_run T flow ls w sound carries fit r u tied p x block plan n e (few_at_end T flow ls w carries fit r u tied waiting)))
  by_waiting n e (fr ∷ frs) waiting = inl (back_on T flow ls w sound carries fit r u tied fr frs waiting n (steps_by n e) (left_run T flow ls w sound carries fit r u tied p x block plan n e (few T flow ls w sound carries fit r u tied fr frs waiting)))

  by_held : (c : Content) → held r.state x ≡ c → CarriesOn T flow ls w r u ⊎ EndsAlike T flow ls w r u
  by_held None e = absurd (safe_end (next (laid_program flow ls)) (λ q. q.state.out) r (Outcome.Wrong r.state.out) (to_hop Hop.Wrong (ap (λ y. leaves y r.state) e)) tied.safe tt)
  by_held (Some n) e = by_waiting n e r.waiting refl

  pub return_word : CarriesOn T flow ls w r u ⊎ EndsAlike T flow ls w r u
  return_word = by_held (held r.state x) refl

pub return_law : ReturnLaw
return_law T flow ls w sound carries fit r u tied p x block plan = return_word T flow ls w ((told flow (is_sound_flow flow) refl).0 sound) carries fit r u tied p x block plan
