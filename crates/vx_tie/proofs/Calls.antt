-- A call: what is live behind it is saved, the depth is tested, the stack pointers go down, and the arguments are passed.
use Rattle.std.proofs.Common.{◌≡◌, ◌≢◌, ◌<◌, ◌≤◌, ◌⊎◌, inl, inr, ⊎_elim, ◌+◌, ◌-◌, ◌*◌, ◌^◌, ℕ, suc, ℤ, pos, neg_ℤ, Bool, true, false, Option, Some, None, List, [], ◌∷◌, ◌++◌, length, length-append, map, refl, sym, ap, ◌∙◌, subst, arith}
use Rattle.std.specs.Prelude.{slice_get, if◌then◌else◌, nat_lt, nat_le}
use Rattle.std.proofs.lemmas.Bool.{cases_lt, lt-ltb, le-ltb, le-leb, lt-leb, leb-true, leb-false}
use Rattle.std.proofs.lemmas.List.{append-nil}
use Rattle.vx_base.specs.Arithmetic.{one_if, compare_of, unsigned, wrap, sum_of}
use Rattle.vx_base.specs.declared.arithmetic.Code.TheVariants.{ToBranch}
use Rattle.vx_base.specs.declared.arithmetic.Compare.TheVariants.{Ltu}
use Rattle.vx_base.specs.Outcome.{Outcome, Traps, On, Over}
use Rattle.vx_base.specs.declared.outcome.Trap.TheVariants.{Depth}
use Rattle.vx_base.proofs.Runs.{run_reach, run_ends, safe_after, safe_end, reach_one}
use Rattle.vx_flow.specs.declared.graph.Bank.{Bank}
use Rattle.vx_flow.specs.declared.graph.Flow.{Flow}
use Rattle.vx_flow.specs.declared.graph.Graph.{Graph}
use Rattle.vx_flow.specs.declared.graph.Bank.TheVariants.{General as GeneralBank}
use Rattle.vx_flow.specs.declared.graph.Operand.{Operand}
use Rattle.vx_flow.specs.declared.graph.Operand.TheVariants.{Held as HeldValue, Number as AsNumber, Stack}
use Rattle.vx_flow.specs.declared.graph.Exit.{Exit}
use Rattle.vx_flow.specs.declared.graph.Exit.TheVariants.{Call as Calling}
use Rattle.vx_flow.proofs.Members.{in_left, in_right}
use Rattle.std.specs.List.{flat_map}
use Rattle.vx_flow.specs.Effects.{Content, State as VState, IsIn, held, value_in}
use Rattle.vx_flow.specs.Meaning.{Active, Body, Frame, Hop, deepest, known, undefined, bases_of, own_of, setting_with, calls, enters, enters_with, spots_for, entered, at_entry, waits, body_hop, after_hop, next}
use Rattle.vx_flow.specs.Sound.{Sound, SoundFlow, Callable, IsPlace, IsBase, IsBaseOperand, IsGivenBase, base_of, base_at, is_given_base, is_sound_flow}
use Rattle.vx_flow.proofs.Entering.{Holds, spots_hold}
use Rattle.vx_flow.proofs.SoundFlowLaw.{given_base_is, given_base_of, told}
use Rattle.vx_isa.specs.declared.operation.Register.{Register}
use Rattle.vx_isa.specs.declared.operation.Register.TheVariants.{General, Branch, Link}
use Rattle.vx_isa.specs.declared.operation.Source.TheVariants.{Held, Number}
use Rattle.vx_isa.specs.declared.operation.Operation.TheVariants.{Compute, EndByTrap}
use Rattle.vx_isa.specs.declared.program.Word.{Word}
use Rattle.vx_isa.specs.declared.program.WordProgram.{WordProgram}
use Rattle.vx_isa.specs.Machine.{State, TrapsBy, register, is_one, leads_to, unless_stuck, effect, issue, step}
use Rattle.vx_mixed.specs.declared.layout.VirtualWord.TheVariants.{Call}
use Rattle.vx_mixed.specs.declared.layout.VWords.{VWords}
use Rattle.vx_layout.specs.Laid.{laid_program, laid_hop, some_word_hop, laid_body}
use Rattle.vx_mixed.specs.LaidSettled.{bank_in}
use Rattle.vx_layout.specs.Origins.{CallsAs, whole}
use Rattle.vx_regs.specs.Intervals.{IsLive, here, beyond, is_live, result_of}
use Rattle.vx_target.specs.Target.{Target, answer, kept, is_slotted, is_branch, home, holds_branch, branch_of, stack_on, parameters_of, register_of, one, pause, in_flight, bytes, save_words, leave_or_lower, argument_words, call_words, back_words, memory_words}
use Rattle.vx_target.specs.Tied.{Tied, AtWord, Seating, IsShown, IsBaseShown, IsAnswer, Shows, Stacked, WasPassed, IsStack, Seated, Waits, Below, IsResult, active_at, waiting_at, stack_from, waiting_above, seat, seating, here_of, Itself, AsBase, kind_of, word_at}
use Rattle.vx_target.specs.Frames.{NeedsSlot, is_passed, is_saved, is_spilled, Survives}
use Rattle.vx_target.specs.Carried.{Carries, IsFunctionOf}
use Rattle.vx_target.specs.Seats.{Seats, is_slot}
use Rattle.vx_target.proofs.Bytes.{unsigned_small}
use Rattle.vx_target.proofs.Calm.{seen, AllFit, after, not_stuck, effect_is}
use Rattle.vx_target.proofs.Proper.{itself, shows_itself}
use Rattle.vx_target.proofs.Frames.{get_below, get_some, get_in, frame_room, link_in_frame, below_keep}
use Rattle.vx_target.proofs.SeatRoom.{seat_before, table, framed_from}
use Rattle.vx_target.proofs.SeatSteps.{seated_on, entered_stack, entered_seated, frames_of, saved_of}
use Rattle.vx_target.proofs.Live.{live_bank}
use Rattle.vx_target.proofs.Names.{in_register, named, number_at, apart_mixed, not_zero, not_general, not_first_branch}
use Rattle.vx_target.proofs.FromGraph.{branch_plain, plain_kind, base_kind, whole_bank, has_whole, whole_is}
use Rattle.vx_tie.proofs.Passing.{CanFetch, OperandAt, OperandsAt, Called as Given, pass_run}
use Rattle.vx_tie.proofs.Handed.{aligned_by, base_spot, known_at, entry_at, map_at, base_operand, is_base_operand, not_base, given_is_base}
use Rattle.vx_tie.proofs.Simple.{few_one}
use Rattle.vx_mixed.specs.Settled.{NoTwice}
use Rattle.vx_target.proofs.Enough.{some_cluster, some_issue}
use Rattle.vx_tie.proofs.Moves.{down}
use Rattle.vx_tie.proofs.Lowering.{Left, Lowered, leave_run, lower_run}
use Rattle.vx_target.proofs.Slots.{Usable, Stored, as_kept, store_list, stack_no_answer}
use Rattle.vx_target.proofs.Stands.{word_stands, depth_stands}
use Rattle.vx_target.proofs.Word.{own_name, kept_shows}
use Rattle.vx_tie.specs.Planned.{CarriesOn, EndsAlike, CallLaw}
use Rattle.vx_tie.proofs.PastTransfers.{one_on}
use Rattle.vx_target.proofs.Steps.{Stands, stands_left, stands_right, Quiet, quiet_on, Comes, Forth, comes_on, then_forth, forth_comes, Set, set_step, Paused, pause_step}

abbrev is_branch_register : Register → Bool
is_branch_register (General r) = false
is_branch_register (Branch r) = true
is_branch_register Link = false

one_of : (b : Bool) → is_one (one_if b) ≡ b
one_of true = refl
one_of false = refl

index_in : (v : ℕ) (vs : List ℕ) → IsIn v vs → (j : ℕ) × (slice_get vs j ≡ Some v)
index_in v [] i = absurd i
index_in v (x ∷ xs) i = ⊎_elim (λ e. (0, ap (λ y. Some y) (sym e))) (λ j. let k = index_in v xs j in (suc k.0, k.1)) i

no_twice : (vs : List ℕ) → ((i j v : ℕ) → i < j → slice_get vs i ≡ Some v → slice_get vs j ≡ Some v → ⊥) → NoTwice vs
no_twice [] h = tt
no_twice (v ∷ vs) h = ((λ i. let k = index_in v vs i in h 0 (suc k.0) v (omega arith) refl k.1), no_twice vs (λ i j x lt a b. h (suc i) (suc j) x (omega arith) a b))

module _ (T : Target) (flow : Flow) (ls : List VWords) (w : WordProgram) (sound : SoundFlow flow) (carries : Carries T flow ls w) (fit : AllFit T.machine w) (r : Active) (u : State) (tied : Tied T flow ls r u) (p g : ℕ) (arguments : List Operand) (result : Option ℕ) (block : r.block ≡ suc p) (plan : slice_get (T.layout r.function).words p ≡ Some (Call g arguments result)) where
  abbrev F : ℕ
  F = r.function

  abbrev S : VState
  S = r.state

  abbrev Sp : ℕ
  Sp = tied.sp

  abbrev Saved : List ℕ
  Saved = T.saved F p

  below : F < length flow.functions
  below = get_below flow.functions F (T.graph F) tied.is.graph

  of : IsFunctionOf T flow ls F
  of = carries.functions F below

  graph_sound : Sound (T.graph F)
  graph_sound = sound.graphs (T.graph F) (get_in flow.functions F (T.graph F) tied.is.graph)

  -- what the caller sees
  abbrev Here : Seating
  Here = here_of T flow.globals Sp r

  at_word : AtWord T flow.globals Sp p r u
  at_word = ⊎_elim (λ a. absurd (let z : suc p ≡ 0 = sym block ∙ a.block in omega arith)) (λ a. let z : suc a.0 ≡ suc p = sym a.1.block ∙ block in let q : a.0 ≡ p = omega arith in subst (λ x. AtWord T flow.globals Sp x r u) q a.1) tied.at

  hop_to : (h : Hop) → calls g (known (map (held S) arguments)) result (suc p) (suc (suc p)) S ≡ h → next (laid_program flow ls) r ≡ after_hop (laid_program flow ls) r h
  hop_to h e =
      ap (after_hop (laid_program flow ls) r)
      (ap (body_hop (laid_program flow ls) r) (ap (λ x. laid_body (length flow.globals) x (slice_get ls F)) tied.is.graph ∙ ap (λ l. laid_body (length flow.globals) (Some (T.graph F)) l) tied.is.layout)
      ∙ ap (λ b. laid_hop (setting_with (laid_program flow ls) r.passed r.base) (T.layout F) b S) block ∙ ap (λ x. some_word_hop (setting_with (laid_program flow ls) r.passed r.base) p x S) plan ∙ e)

  small : 4 * memory_words T < 2 ^ 32
  small = let c = carries.small in omega arith

  some : 0 < T.machine.clusters
  some = some_cluster T.machine carries.machine

  room : Sp + T.frame ≤ memory_words T
  room = frame_room T flow carries.some_frame carries.globals sound Sp (length r.waiting) tied.deep

  abbrev Leaves : List Word
  Leaves = leave_or_lower T

  abbrev Passes : List Word
  Passes = argument_words T F g (parameters_of T g) arguments

  abbrev Compares : Word
  Compares = one (Compute 0 (ToBranch Ltu) (Branch (record { cluster = 0; number = 0 })) (Held (stack_on 0)) (Number (bytes (T.globals + T.frame))))

  abbrev Saves : List Word
  Saves = save_words T F Saved

  abbrev Pause : ℕ
  Pause = in_flight T.machine 0 (Compares ∷ Saves)

  abbrev Late : List Word
  Late = pause Pause

  abbrev Branching : List Word
  Branching = Leaves ++ Passes

  stands_call : Stands w.words u.place (Compares ∷ ((Saves ++ Late) ++ Branching))
  stands_call = stands_left w.words u.place (call_words T F p g arguments) (back_words T F p result) (subst (λ q. Stands w.words q (call_words T F p g arguments ++ back_words T F p result)) (sym at_word.place) (word_stands T flow.main (length flow.functions) w.words carries.placed F p (Call g arguments result) below plan))

  -- saved values

  survives : (v : ℕ) → IsIn v Saved → Survives T F p result v
  survives v i = of.saved.saved p g v arguments result plan i

  bank : (v : ℕ) → IsIn v Saved → (b : Bank) × (bank_in (T.layout F) v ≡ Some b)
  bank v i = live_bank T F of.mapped graph_sound (suc p) v (survives v i).live

  needs : (v : ℕ) → IsIn v Saved → NeedsSlot T F v
  needs v i = is_saved p g arguments result plan i

  usable : (v : ℕ) → IsIn v Saved → Usable T.machine w fit T F Sp carries.memory small some Saved v
  usable v i = record {
    cluster = of.mapped.homes (suc p) v (is_live (survives v i).live);
    not_zero = not_zero T F of.mapped Saved v (bank v i);
    not_answer = not_general T F of.mapped Saved v 0 2 (bank v i) (omega arith);
    not_stack = λ k. not_general T F of.mapped Saved v k 1 (bank v i) (omega arith);
  }

  -- the test of the depth

  abbrev Flag : Register
  Flag = Branch (record { cluster = 0; number = 0 })

  below_limit : Bool
  below_limit = nat_lt (4 * Sp) (4 * (T.globals + T.frame))

  compared_is : one_if (compare_of Ltu (register u (General (stack_on 0))) (bytes (T.globals + T.frame))) ≡ one_if below_limit
  unfolding below_limit
  compared_is =
      let c = carries.small in
      let x = room in
      let y = within_memory in
      ap (λ z. one_if (compare_of Ltu z (bytes (T.globals + T.frame)))) (tied.stack 0 some)
      ∙ ap (λ n. one_if (nat_lt n (unsigned (bytes (T.globals + T.frame))))) (unsigned_small (4 * Sp) (omega arith))
      ∙ ap (λ n. one_if (nat_lt (4 * Sp) n)) (unsigned_small (4 * (T.globals + T.frame)) (omega arith))
    where
      within_memory : T.globals + T.frame ≤ memory_words T
      within_memory = let d = tied.deep.most in let j : ℕ = deepest - 1 in let q : deepest ≡ suc j = omega arith in let m : T.frame * deepest ≡ T.frame * j + T.frame = ap (λ y. T.frame * y) q ∙ grind arith in omega arith

  compared : Set T.machine w fit u Flag (one_if below_limit)
  compared = set_step T.machine w fit u (Compute 0 (ToBranch Ltu) Flag (Held (stack_on 0)) (Number (bytes (T.globals + T.frame)))) Flag (one_if below_limit) tied.calm stands_call.0 (record { bad = refl; takes = refl; prints = refl; stores = λ m. refl; leads = λ ops. refl }) refl refl compared_is

  abbrev B : State
  B = compared.to

  stack_b : (k : ℕ) → k < T.machine.clusters → register B (General (stack_on k)) ≡ pos (4 * Sp)
  stack_b k lt = compared.others (General (stack_on k)) (λ e. absurd (cc)) ∙ tied.stack k lt

  -- values are saved meanwhile

  saving : Stands w.words (u.place + 1) (Saves ++ Late)
  saving = stands_left w.words (u.place + 1) (Saves ++ Late) Branching stands_call.1

  saved : Stored T.machine w fit T F Sp carries.memory small some Saved B Saved (length Saves)
  saved = store_list T.machine w fit T F Sp carries.memory small some Saved Saved B compared.quiet.calm (subst (λ q. Stands w.words q Saves) (sym compared.place) (stands_left w.words (u.place + 1) Saves Late saving)) stack_b usable
      (λ v i. let a = of.framed.slot_to v (needs v i) in let b = room in omega arith) (λ x y i j e. of.framed.slots x y (needs x i) (needs y j) e)

  abbrev A : State
  A = saved.to

  saved_at : (v : ℕ) → IsIn v Saved → word_at A.memory (Sp + T.slot F v) ≡ as_kept (holds_branch T F v) (seen u.registers (register_of T F Saved v))
  saved_at v i = saved.at v i ∙ ap (as_kept (holds_branch T F v)) (compared.others (register_of T F Saved v) (not_first_branch T F of.mapped Saved v (bank v i) (ap is_slotted (survives v i).register) (some_issue T.machine carries.machine)))

  saved_elsewhere : (x : ℕ) → ((v : ℕ) → IsIn v Saved → x ≢ Sp + T.slot F v) → word_at A.memory x ≡ word_at u.memory x
  saved_elsewhere x h = saved.elsewhere x h ∙ ap (λ m. word_at m x) compared.memory

  place_a : A.place ≡ (u.place + 1) + length Saves
  place_a = let x = saved.place in let y = compared.place in omega arith

  paused : Paused T.machine w fit A (A.place + length Late)
  paused = pause_step T.machine w fit A Pause saved.quiet.calm (subst (λ q. Stands w.words q Late) (sym place_a) (stands_right w.words (u.place + 1) Saves Late saving))

  abbrev C : State
  C = paused.to

  place_c : C.place ≡ (u.place + 1) + length (Saves ++ Late)
  place_c = let x = paused.place in let y = place_a in let z = length-append Saves Late in omega arith

  branching : Stands w.words C.place Branching
  branching = subst (λ q. Stands w.words q Branching) (sym place_c) (stands_right w.words (u.place + 1) (Saves ++ Late) Branching stands_call.1)

  comes_c : Comes T.machine w fit u C
  comes_c = comes_on T.machine w fit u B C (forth_comes T.machine w fit u B compared.forth) (comes_on T.machine w fit B A C saved.comes paused.comes)

  quiet_c : Quiet u C
  quiet_c = quiet_on u B C compared.quiet (quiet_on B A C saved.quiet paused.quiet)

  memory_c : C.memory ≡ A.memory
  memory_c = paused.memory

  others_c : (q : Register) → (q ≢ Flag) → (q ≢ General answer) → seen C.registers q ≡ seen u.registers q
  others_c q nf na = ap (λ x. seen x q) paused.registers ∙ saved.others q na ∙ compared.others q nf

  leaving : Stands w.words C.place Leaves
  leaving = stands_left w.words C.place Leaves Passes branching

  tested : is_one (register C Flag) ≡ below_limit
  tested = ap is_one (ap (λ x. seen x Flag) paused.registers ∙ saved.others Flag (λ e. absurd (cc)) ∙ compared.at) ∙ one_of below_limit

  -- where one more function may be active, the frame of the next one is there

  module _ (more : suc (suc (length r.waiting)) ≤ deepest) where
    enough : T.globals + T.frame ≤ Sp
    enough =
        let e = tied.deep.is in
        let k : ℕ = length r.waiting in
        let j : ℕ = deepest - suc (suc k) in
        let q : deepest ≡ suc k + suc j = omega arith in
        let m : T.frame * deepest ≡ T.frame * suc k + (T.frame + T.frame * j) = ap (λ x. T.frame * x) q ∙ grind arith in
        omega arith

    abbrev Base : ℕ
    Base = Sp - T.frame

    base_is : Base + T.frame ≡ Sp
    base_is = let d = enough in omega arith

    not_below : below_limit ≡ false
    unfolding below_limit
    not_below = let d = enough in le-ltb (4 * Sp) (4 * (T.globals + T.frame)) (omega arith)

    lowered : Lowered T w fit C quiet_c.calm (length Leaves)
    lowered = lower_run T w fit C quiet_c.calm leaving (tested ∙ not_below)

    abbrev E : State
    E = lowered.to

    stack_c : (k : ℕ) → k < T.machine.clusters → register C (General (stack_on k)) ≡ pos (4 * Sp)
    stack_c k lt = others_c (General (stack_on k)) (λ e. absurd (cc)) (stack_no_answer k) ∙ tied.stack k lt

    stack_e : (k : ℕ) → k < T.machine.clusters → register E (General (stack_on k)) ≡ pos (4 * Base)
    stack_e k lt = lowered.stack k lt ∙ ap (λ z. sum_of z (neg_ℤ (bytes T.frame))) (stack_c k lt) ∙ down Sp Base T.frame base_is (let c = carries.small in let x = room in omega arith)

    comes_e : Comes T.machine w fit u E
    comes_e = comes_on T.machine w fit u C E comes_c (forth_comes T.machine w fit C E lowered.forth)

    memory_e : E.memory ≡ A.memory
    memory_e = lowered.memory ∙ memory_c

    others_e : (q : Register) → (q ≢ Flag) → (q ≢ General answer) → ((k : ℕ) → q ≢ General (stack_on k)) → seen E.registers q ≡ seen u.registers q
    others_e q nf na ns = lowered.others q ns ∙ others_c q nf na

    -- the arguments

    module _ (ns : List ℤ) (are : known (map (held S) arguments) ≡ Some ns) where
      abbrev Any : ℕ → Type 0
      Any a = Unit {0}

      site : CallsAs (T.graph F) g arguments result
      site = of.mapped.code.calls p g arguments result plan

      abbrev Exiting : Exit
      Exiting = Calling g arguments result site.next

      caller_in : IsIn (T.graph F) flow.functions
      caller_in = get_in flow.functions F (T.graph F) tied.is.graph

      -- an argument is a general value and no place: its number stands for itself, or it is a base

      general : (v : ℕ) → IsIn (HeldValue v) arguments → slice_get (T.graph F).banks v ≡ Some GeneralBank
      general v i = graph_sound.exit_operands Exiting (HeldValue v) site.has i

      same_whole : (v : ℕ) → IsIn (HeldValue v) arguments → whole (length (T.graph F).banks) v ≡ v
      same_whole v i = whole_is T F Any graph_sound of.mapped.code (λ a lt. tt) v GeneralBank (general v i)

      unbranched : (v : ℕ) → IsIn (HeldValue v) arguments → holds_branch T F v ≡ false
      unbranched v i = ap is_branch (whole_bank T F Any graph_sound of.mapped.code v GeneralBank (has_whole T F Any graph_sound of.mapped.code (λ a lt. tt) v GeneralBank (general v i)))

      plain : (v : ℕ) → IsIn (HeldValue v) arguments → (IsBase (T.graph F) v → ⊥) → kind_of T F v ≡ Itself
      plain v i no_ = plain_kind T F Any graph_sound of.mapped.code v
          (λ a k. graph_sound.place_exit v a Exiting (subst (λ x. IsPlace (T.graph F) x a) (same_whole v i) k) site.has (inl i))
          (λ k. no_ (subst (IsBase (T.graph F)) (same_whole v i) k))

      as_base : (v : ℕ) → IsIn (HeldValue v) arguments → IsBase (T.graph F) v → kind_of T F v ≡ AsBase v
      as_base v i b = base_kind T F Any graph_sound of.mapped.code v (subst (IsBase (T.graph F)) (sym (same_whole v i)) b) ∙ ap AsBase (same_whole v i)

      in_operands : (v : ℕ) (xs : List Operand) → IsIn (HeldValue v) xs → IsIn v (flat_map value_in xs)
      in_operands v [] i = absurd i
      in_operands v (x ∷ xs) i = ⊎_elim (λ e. in_left v (value_in x) (flat_map value_in xs) (subst (λ y. IsIn v (value_in y)) e (inl refl))) (λ j. in_right v (value_in x) (flat_map value_in xs) (in_operands v xs j)) i

      live : (v : ℕ) → IsIn (HeldValue v) arguments → IsLive (T.layout F) p v
      live v i = here plan (in_operands v arguments i)

      its_bank : (v : ℕ) → IsIn (HeldValue v) arguments → (b : Bank) × (bank_in (T.layout F) v ≡ Some b)
      its_bank v i = live_bank T F of.mapped graph_sound p v (live v i)

      low : 4 * Base < 2 ^ 32
      low = let c = carries.small in let x = room in let y = base_is in omega arith

      can : (v : ℕ) → IsIn (HeldValue v) arguments → CanFetch T.machine w fit T F Base carries.memory small some T.frame v
      can v i = record {
        general = unbranched v i;
        usable = record {
          cluster = of.mapped.homes p v (is_live (live v i));
          not_zero = not_zero T F of.mapped (v ∷ []) v (its_bank v i);
          not_answer = not_general T F of.mapped (v ∷ []) v 0 2 (its_bank v i) (omega arith);
          not_stack = λ k. not_general T F of.mapped (v ∷ []) v k 1 (its_bank v i) (omega arith);
        };
        inside = λ e. let a = of.framed.slot_to v (is_spilled p (is_live (live v i)) e) in let b = room in let c = base_is in omega arith;
      }

      -- slots of values that are not saved stay
      slot_same : (v : ℕ) → NeedsSlot T F v → is_slotted (kept T F v) ≡ true → word_at A.memory (Sp + T.slot F v) ≡ word_at u.memory (Sp + T.slot F v)
      slot_same v n e = saved_elsewhere (Sp + T.slot F v) (λ x i q.
          let same : v ≡ x = of.framed.slots v x n (needs x i) (omega arith) in
          let z : is_slotted (kept T F v) ≡ false = ap (λ y. is_slotted (kept T F y)) same ∙ ap is_slotted (survives x i).register in
          let y : true ≡ false = sym e ∙ z in cc)

      -- what is passed for an argument

      abbrev shown : Operand → ℤ
      shown (HeldValue v) = if is_slotted (kept T F v) then word_at E.memory (Base + (T.frame + T.slot F v)) else seen E.registers (register_of T F (v ∷ []) v)
      shown (AsNumber z) = z
      shown Stack = pos 0

      operand_at : (a : Operand) → IsIn a arguments → OperandAt T.machine w fit T F Base carries.memory small some E T.frame a (shown a)
      operand_at (AsNumber z) i = refl
      operand_at Stack i = graph_sound.exit_operands Exiting Stack site.has i
      operand_at (HeldValue v) i = (can v i, refl)

      operands_from : (xs : List Operand) → ((x : Operand) → IsIn x xs → IsIn x arguments) → OperandsAt T.machine w fit T F Base carries.memory small some E xs (map shown xs)
      operands_from [] h = tt
      operands_from (a ∷ xs) h = (operand_at a (h a (inl refl)), operands_from xs (λ x i. h x (inr i)))

      shows : (v : ℕ) (n : ℤ) → IsIn (HeldValue v) arguments → S.values v ≡ Some n → Shows T Here F v n (shown (HeldValue v))
      shows v n i e = by (is_slotted (kept T F v)) refl (at_word.values v n (live v i) e)
        where
          by : (b : Bool) → is_slotted (kept T F v) ≡ b → Shows T Here F v n (if b then word_at u.memory (Sp + T.slot F v) else register u (register_of T F (v ∷ []) v)) → Shows T Here F v n (if b then word_at E.memory (Base + (T.frame + T.slot F v)) else seen E.registers (register_of T F (v ∷ []) v))
          by true h k =
              let place : Base + (T.frame + T.slot F v) ≡ Sp + T.slot F v = (let c = base_is in omega arith) in
              subst (λ x. Shows T Here F v n x) (sym (ap (word_at E.memory) place ∙ ap (λ m. word_at m (Sp + T.slot F v)) memory_e ∙ slot_same v (is_spilled p (is_live (live v i)) h) h)) k
          by false h k =
              subst (λ x. Shows T Here F v n x)
              (sym (others_e (register_of T F (v ∷ []) v) (λ q. let z : is_branch_register (register_of T F (v ∷ []) v) ≡ false = ap (λ b. is_branch_register (named b (home T F v) (branch_of T F (v ∷ []) v) (number_at T F of.mapped (v ∷ []) v))) (unbranched v i) in let y : true ≡ false = sym (ap is_branch_register q) ∙ z in cc)
              (not_general T F of.mapped (v ∷ []) v 0 2 (its_bank v i) (omega arith)) (λ k. not_general T F of.mapped (v ∷ []) v k 1 (its_bank v i) (omega arith)))) k

      -- the function that is called

      callable : Callable flow g (length arguments)
      callable = sound.calls (T.graph F) g site.next arguments result caller_in site.has

      called_below : g < length flow.functions
      called_below = get_below flow.functions g callable.graph callable.is

      its : IsFunctionOf T flow ls g
      its = carries.functions g called_below

      there : IsIn (T.graph g) flow.functions
      there = get_in flow.functions g (T.graph g) its.is.graph

      callee_sound : Sound (T.graph g)
      callee_sound = sound.graphs (T.graph g) there

      abbrev Globals : ℕ
      Globals = length flow.globals

      abbrev Parameters : List ℕ
      Parameters = parameters_of T g

      as_many : length Parameters ≡ length arguments
      as_many =
          let z : Some callable.graph ≡ Some (T.graph g) = sym callable.is ∙ its.is.graph in
          let q : callable.graph ≡ T.graph g = cc in
          ap (λ (h : Graph). length h.parameters) (sym q) ∙ callable.parameters

      argument_at : (j v : ℕ) → slice_get Parameters j ≡ Some v → (a : Operand) × (slice_get arguments j ≡ Some a)
      argument_at j v e = let l = get_below Parameters j v e in let q = as_many in get_some arguments j (omega arith)

      passing : Stands w.words E.place Passes
      passing = subst (λ q. Stands w.words q Passes) (sym lowered.place) (stands_right w.words C.place Leaves Passes branching)

      passed : Given T.machine w fit T F Base carries.memory small some E g Parameters (map shown arguments) (length Passes)
      passed = pass_run T.machine w fit T F Base carries.memory small some g Parameters arguments (map shown arguments) E lowered.quiet.calm stack_e passing
          (operands_from arguments (λ x i. i))
          (λ x y i j sx sy. apart_mixed T F of.mapped (x ∷ []) (y ∷ []) x y (its_bank x i) (few_one T F of.mapped y (some_issue T.machine carries.machine)) (inl refl) sx sy)
          (λ v i. let a = its.framed.slot_to v (is_passed i) in let b = room in let c = base_is in omega arith)
          (λ v i. its.framed.slot_to v (is_passed i)) (λ x y i j e. its.framed.slots x y (is_passed i) (is_passed j) e)
          (no_twice Parameters (λ i j v lt a b. sound.parameters (T.graph g) i j v there lt a b))

      abbrev G : State
      G = passed.to

      forth_g : Forth T.machine w fit u G
      forth_g = then_forth T.machine w fit u E G comes_e passed.forth

      back_is : E.place + length Passes ≡ T.back F p
      back_is =
          let c = place_c in
          let d : E.place ≡ C.place + length Leaves = lowered.place in
          let e : T.back F p ≡ T.starts F p + suc (length ((Saves ++ Late) ++ Branching)) = carries.placed.backs F p g arguments result plan in
          let h = at_word.place in
          let l1 : length ((Saves ++ Late) ++ Branching) ≡ length (Saves ++ Late) + length (Leaves ++ Passes) = length-append (Saves ++ Late) Branching in
          let l3 : length (Leaves ++ Passes) ≡ length Leaves + length Passes = length-append Leaves Passes in
          omega arith

      link_is : G.registers Link ≡ wrap (pos (T.back F p))
      link_is = passed.link ∙ ap (λ n. wrap (pos n)) back_is

      -- memory

      above_base : (x : ℕ) → Sp ≤ x → word_at G.memory x ≡ word_at A.memory x
      above_base x le = passed.elsewhere x (λ v i e. let a = its.framed.slot_to v (is_passed i) in let c = base_is in omega arith) ∙ ap (λ m. word_at m x) memory_e

      free_above : (x : ℕ) → Sp ≤ x → ((v : ℕ) → NeedsSlot T F v → x ≢ Sp + T.slot F v) → word_at G.memory x ≡ word_at u.memory x
      free_above x le h = above_base x le ∙ saved_elsewhere x (λ v i. h v (needs v i))

      -- all that changes are slots of what is saved and of the parameters
      changes : (x : ℕ) → ((v : ℕ) → IsIn v Parameters → x ≢ Base + T.slot g v) → ((v : ℕ) → NeedsSlot T F v → x ≢ Sp + T.slot F v) → word_at G.memory x ≡ word_at u.memory x
      changes x h k = passed.elsewhere x h ∙ ap (λ m. word_at m x) memory_e ∙ saved_elsewhere x (λ v i. k v (needs v i))

      -- the caller waits

      abbrev Waiter : Frame
      Waiter = record { function = F; from = suc p; next = suc (suc p); result = result; passed = r.passed; base = r.base; values = S.values }

      result_in : (res : Option ℕ) (v : ℕ) → IsIn v (result_of res) → IsResult res v
      result_in None v i = i
      result_in (Some x) v i = ⊎_elim (λ e. e) (λ j. absurd j) i

      waiting_values : (v : ℕ) (n : ℤ) → IsLive (T.layout F) (suc p) v → (IsResult result v → ⊥) → S.values v ≡ Some n → Shows T Here F v n (word_at G.memory (Sp + T.slot F v))
      waiting_values v n lives no_ e = by (is_slotted (kept T F v)) refl (at_word.values v n (beyond plan (λ i. no_ (result_in result v i)) refl lives) e)
        where
          by : (b : Bool) → is_slotted (kept T F v) ≡ b → Shows T Here F v n (if b then word_at u.memory (Sp + T.slot F v) else register u (register_of T F (v ∷ []) v)) → Shows T Here F v n (word_at G.memory (Sp + T.slot F v))
          by true h k = subst (λ x. Shows T Here F v n x) (sym (above_base (Sp + T.slot F v) (omega arith) ∙ slot_same v (is_spilled (suc p) (is_live lives) h) h)) k
          by false h k =
              let number = in_register (kept T F v) h in
              let there : IsIn v Saved = of.saved.saves p g v arguments result plan (record { live = lives; other = no_; number = number.0; register = number.1 }) in
              let was : Shows T Here F v n (seen u.registers (register_of T F Saved v)) = subst (λ x. Shows T Here F v n x) (ap (register u) (own_name T F v (v ∷ []) Saved h)) k in
              subst (λ x. Shows T Here F v n x) (sym (above_base (Sp + T.slot F v) (omega arith) ∙ saved_at v there)) (kept_shows T Here F v n (seen u.registers (register_of T F Saved v)) (branch_plain T F Any graph_sound of.mapped.code v) was)

      waits_at : Waits T flow ls G.memory Sp Waiter r.waiting
      waits_at = record {
        is = tied.is;
        caller = p;
        callee = g;
        arguments = arguments;
        called = plan;
        from = refl;
        next = refl;
        values = waiting_values;
        link = free_above Sp (omega arith) (λ v needed e. let a = of.framed.slot_from v needed in omega arith) ∙ sym (link_in_frame T u Sp F p g arguments result plan) ∙ at_word.link;
      }

      rest_below : Below T flow ls G.memory Sp r.waiting
      rest_below = below_keep T flow ls (saved_of T flow ls w carries) r.waiting u.memory G.memory Sp
          (λ x word i framed. let z = framed_from T flow ls (waiting_above T Sp r.waiting) (Sp + T.frame) r.base tied.stacked.4 x word i framed in
          free_above word (omega arith) (λ v needed e. let a = of.framed.slot_to v needed in omega arith))
          tied.below

      all_below : Below T flow ls G.memory Base (Waiter ∷ r.waiting)
      all_below = subst (λ x. Waits T flow ls G.memory x Waiter r.waiting × Below T flow ls G.memory x r.waiting) (sym base_is) (waits_at, rest_below)

      -- the step over values

      abbrev TheBody : Body
      TheBody = record { parameters = Parameters; bases = bases_of Globals (T.graph g); own = own_of Globals (T.graph g); hop = λ setting b s. laid_hop setting (T.layout g) b s }

      body_is : (laid_program flow ls).body g ≡ Some TheBody
      body_is = ap (λ x. laid_body Globals x (slice_get ls g)) its.is.graph ∙ ap (λ l. laid_body Globals (Some (T.graph g)) l) its.is.layout

      not_full : nat_le deepest (length r.waiting + 1) ≡ false
      not_full = lt-leb deepest (length r.waiting + 1) (omega arith)

      abbrev Spots : Option (List (Option ℕ))
      Spots = spots_for (Some TheBody) ns S

      goes_in : (o : Option (List (Option ℕ))) → Spots ≡ o → next (laid_program flow ls) r ≡ enters_with g (Some TheBody) ns S (Waiter ∷ r.waiting) o
      goes_in o e =
          hop_to (Hop.Calls g ns result (suc p) (suc (suc p)) S) (ap (λ x. calls g x result (suc p) (suc (suc p)) S) are)
          ∙ ap (λ b. if b then Over (Traps Depth S.out) else enters g ((laid_program flow ls).body g) ns S (Waiter ∷ r.waiting)) not_full
          ∙ ap (λ x. enters g x ns S (Waiter ∷ r.waiting)) body_is
          ∙ ap (enters_with g (Some TheBody) ns S (Waiter ∷ r.waiting)) e

      -- the function is entered with the spots that its bases hold

      module _ (spots : List (Option ℕ)) (spotted : Spots ≡ Some spots) where
        holds_spots : Holds (length S.arrays) (bases_of Globals (T.graph g)) spots
        holds_spots = spots_hold (length S.arrays) (at_entry Parameters ns) (bases_of Globals (T.graph g)) spots spotted

        -- rows and their seats

        abbrev Rows : List (List Content)
        Rows = S.arrays ++ map undefined (own_of Globals (T.graph g))

        abbrev Callee : Stacked
        Callee = record { function = g; frame = Base; passed = spots; base = length S.arrays }

        abbrev Activations : List Stacked
        Activations = Callee ∷ stack_from T Sp r

        was_passed : WasPassed T Globals Callee
        was_passed = record { aligned = aligned_by Globals (T.graph g) (length S.arrays) spots holds_spots; below = holds_spots.below }

        stacked : IsStack T flow ls Base (length Rows) Activations
        stacked = entered_stack T flow ls (stack_from T Sp r) Base S.arrays g spots its.is was_passed (subst (λ x. IsStack T flow ls x (length S.arrays) (stack_from T Sp r)) (sym base_is) tied.stacked)

        entered_rows : Seated T flow.globals Activations Rows u.memory
        entered_rows = entered_seated T flow ls (stack_from T Sp r) Sp S.arrays u.memory g Base spots tied.stacked tied.seated

        the_table : Seats T Globals Activations Rows u.memory (λ k. seat T flow.globals Activations k)
        the_table = table T flow ls sound (frames_of T flow ls w carries) Activations Base Rows u.memory stacked (let a = enough in let c = base_is in omega arith) entered_rows

        seated : Seated T flow.globals Activations Rows G.memory
        seated = seated_on T flow.globals Activations Rows u.memory G.memory
            (λ k i has. changes (seat T flow.globals Activations k + i)
            (λ v j e. the_table.free Callee (Base + T.slot g v) k i (inl refl) (is_slot v (is_passed j) refl) has (sym e))
            (λ v needed e. the_table.free (active_at Sp r) (Sp + T.slot F v) k i (inr (inl refl)) (is_slot v needed refl) has (sym e)))
            entered_rows

        -- as the frame of the caller stands above that of the called
        abbrev Over_it : ℕ → List Stacked
        Over_it x = waiting_at x Waiter ∷ waiting_above T x r.waiting

        -- what is shown to the caller is shown to the called: the slots of the parameters show what is passed

        abbrev Inside : Seating
        Inside = seating T flow.globals Callee (stack_from T Sp r)

        behind_globals : (a v : ℕ) → base_at (T.graph g).arrays a ≡ Some v → Globals ≤ a
        behind_globals a v has = ⊎_elim
            (λ lt. absurd (let x = get_some flow.globals a lt in let k = sound.globals (T.graph g) a x.0 there x.1 in let z : None ≡ Some v = sym k.base ∙ ap base_of (sym k.is) ∙ has in cc))
            (λ le. le)
            (cases_lt a Globals)

        base_shown : (c v : ℕ) (n x : ℤ) → at_entry Parameters ns v ≡ Some n → IsBaseShown (T.graph F).arrays Here c n x → IsBaseShown (T.graph g).arrays Inside v n x
        base_shown c v n x e s =
            let q = tied.stacked.2 in
            let l = s.stands in
            let lt : s.row < length S.arrays = omega arith in
            record {
              row = s.row;
              stands = omega arith;
              number = s.number;
              word = s.word ∙ ap (λ y. pos (4 * y)) (sym (seat_before T flow.globals Callee (stack_from T Sp r) s.row lt));
              spots = λ a has. base_spot Globals (T.graph g) (length S.arrays) (at_entry Parameters ns) spots spotted a v (behind_globals a v has) has s.row (e ∙ ap Some s.number);
            }

        abbrev Parameter_shown : (v : ℕ) (n x : ℤ) → Type 0
        Parameter_shown v n x = Shows T Inside g v n x

        module _ (v : ℕ) (n : ℤ) (j : ℕ) (parameter : slice_get Parameters j ≡ Some v) (entry : at_entry Parameters ns v ≡ Some n) where
          is_in : IsIn v Parameters
          is_in = get_in Parameters j v parameter

          whole_there : whole (length (T.graph g).banks) v ≡ v
          whole_there = whole_is T g Any callee_sound its.mapped.code (λ a lt. tt) v GeneralBank (callee_sound.parameters v is_in)

          no_branch : holds_branch T g v ≡ false
          no_branch = ap is_branch (whole_bank T g Any callee_sound its.mapped.code v GeneralBank (has_whole T g Any callee_sound its.mapped.code (λ a lt. tt) v GeneralBank (callee_sound.parameters v is_in)))

          no_answer : IsAnswer (holds_branch T g v) n
          no_answer b = absurd (let z : true ≡ false = sym b ∙ no_branch in cc)

          module _ (a : Operand) (argument : slice_get arguments j ≡ Some a) (known_there : held S a ≡ Some n) where
            agree : (IsBaseOperand (T.graph F) a → IsGivenBase (T.graph g) v) × (IsGivenBase (T.graph g) v → IsBaseOperand (T.graph F) a)
            agree = sound.handed (T.graph F) (T.graph g) g site.next j v arguments result a caller_in site.has its.is.graph argument parameter

            -- a base for a base
            as_given : IsGivenBase (T.graph g) v → Parameter_shown v n (shown a)
            as_given k = by a (base_operand (T.graph F) a (agree.1 k)) (get_in arguments j a argument) known_there
              where
                kind : kind_of T g v ≡ AsBase v
                kind = base_kind T g Any callee_sound its.mapped.code v (subst (IsBase (T.graph g)) (sym whole_there) (given_is_base (T.graph g) v k)) ∙ ap AsBase whole_there

                by : (x : Operand) → (c : ℕ) × (x ≡ HeldValue c) × IsBase (T.graph F) c → IsIn x arguments → held S x ≡ Some n → Parameter_shown v n (shown x)
                by (AsNumber z) b i e = absurd (let q = b.1 in cc)
                by Stack b i e = absurd (let q = b.1 in cc)
                by (HeldValue c) b i e =
                    let q = b.1 in
                    let same : b.0 ≡ c = cc in
                    let its_kind = as_base c i (subst (IsBase (T.graph F)) same b.2) in
                    record {
                      answer = no_answer;
                      is = subst (λ d. IsShown (T.graph g).arrays Inside d n (shown (HeldValue c))) (sym kind) (base_shown c v n (shown (HeldValue c)) entry (subst (λ d. IsShown (T.graph F).arrays Here d n (shown (HeldValue c))) its_kind (shows c n i e).is));
                    }

            -- and a number for what is none
            as_number : (IsGivenBase (T.graph g) v → ⊥) → Parameter_shown v n (shown a)
            as_number no_ = by a (λ k. no_ (agree.0 k)) (get_in arguments j a argument) known_there
              where
                kind : kind_of T g v ≡ Itself
                kind = plain_kind T g Any callee_sound its.mapped.code v
                    (λ b k. callee_sound.place_parameter v b (subst (λ x. IsPlace (T.graph g) x b) whole_there k) is_in)
                    (λ k. not_base (T.graph g) v callee_sound is_in no_ (subst (IsBase (T.graph g)) whole_there k))

                by : (x : Operand) → (IsBaseOperand (T.graph F) x → ⊥) → IsIn x arguments → held S x ≡ Some n → Parameter_shown v n (shown x)
                by (AsNumber z) b i e = let q : z ≡ n = cc in shows_itself T Inside g v n z kind no_answer q
                by Stack b i e = absurd (cc)
                by (HeldValue c) b i e = shows_itself T Inside g v n (shown (HeldValue c)) kind no_answer (itself (shows c n i e) (plain c i (λ k. b (is_base_operand (T.graph F) c k))))

            parameter_shows : Parameter_shown v n (shown a)
            parameter_shows = by (is_given_base (T.graph g) v) refl
              where
                by : (b : Bool) → is_given_base (T.graph g) v ≡ b → Parameter_shown v n (shown a)
                by true t = as_given (given_base_is (T.graph g) v t)
                by false t = as_number (λ k. absurd (let z : true ≡ false = sym (given_base_of (T.graph g) v k) ∙ t in cc))

        passed_values : (v : ℕ) (n : ℤ) → at_entry Parameters ns v ≡ Some n → IsIn v Parameters × Shows T Inside g v n (word_at G.memory (Base + T.slot g v))
        passed_values v n e =
            let k = entry_at Parameters ns (map shown arguments) v n e in
            let a = argument_at k.place v k.parameter in
            let put = passed.values v (shown a.0) (k.other (shown a.0) (map_at shown arguments k.place a.0 a.1)) in
            (put.0, subst (λ x. Shows T Inside g v n x) (sym put.1) (parameter_shows v n k.place k.parameter e a.0 a.1 (known_at S arguments ns are k.place a.0 n a.1 k.number)))

        -- together

        abbrev Entered : Active
        Entered = record { function = g; block = 0; passed = spots; base = length S.arrays; state = entered TheBody ns S; waiting = Waiter ∷ r.waiting }

        steps : next (laid_program flow ls) r ≡ On Entered
        steps = goes_in (Some spots) spotted

        entry_values : (v : ℕ) (n : ℤ) → at_entry Parameters ns v ≡ Some n → IsIn v Parameters × Shows T (seating T flow.globals Callee (Over_it (Base + T.frame))) g v n (word_at G.memory (Base + T.slot g v))
        entry_values v n e = let k = passed_values v n e in (k.0, subst (λ x. Shows T (seating T flow.globals Callee (Over_it x)) g v n (word_at G.memory (Base + T.slot g v))) (sym base_is) k.1)

        called_on : CarriesOn T flow ls w r u
        called_on = record {
          after = Entered;
          to = G;
          words = forth_g.0;
          steps = 0;
          over_values = one_on flow ls r Entered steps;
          over_registers = λ n. run_reach (step T.machine (1 ∷ []) w) (λ x. x.out) (suc forth_g.0) n u G forth_g.1;
          tied = record {
            sp = Base;
            is = its.is;
            calm = passed.quiet.calm;
            deep = record { is = (let e = tied.deep.is in let b = base_is in let k : ℕ = length r.waiting in let m : T.frame * suc (suc k) ≡ T.frame * suc k + T.frame = grind arith in omega arith); most = more };
            stack = passed.stack;
            at = inl (record { block = refl; place = passed.place; values = entry_values; link = link_is ∙ (let q : suc p - 1 ≡ p = omega arith in ap (λ n. wrap (pos (T.back F n))) (sym q)) });
            stacked = subst (λ x. IsStack T flow ls Base (length Rows) (Callee ∷ Over_it x)) (sym base_is) stacked;
            seated = subst (λ x. Seated T flow.globals (Callee ∷ Over_it x) Rows G.memory) (sym base_is) seated;
            below = all_below;
            input = passed.quiet.input ∙ lowered.quiet.input ∙ quiet_c.input ∙ tied.input;
            out = passed.quiet.out ∙ lowered.quiet.out ∙ quiet_c.out ∙ tied.out;
            safe = safe_after (next (laid_program flow ls)) (λ x. x.state.out) 1 r Entered (reach_one (next (laid_program flow ls)) r Entered steps) tied.safe;
          };
        }

      called_by : (o : Option (List (Option ℕ))) → Spots ≡ o → CarriesOn T flow ls w r u
      called_by None e = absurd (safe_end (next (laid_program flow ls)) (λ q. q.state.out) r (Outcome.Wrong S.out) (goes_in None e) tied.safe tt)
      called_by (Some spots) e = called_on spots e

      called : CarriesOn T flow ls w r u
      called = called_by Spots refl

  -- where no further function may be active both runs end by the trap of the depth

  module _ (full : deepest ≤ suc (length r.waiting)) where
    at_globals : Sp ≡ T.globals
    at_globals =
        let e = tied.deep.is in
        let most = tied.deep.most in
        let q : deepest ≡ suc (length r.waiting) = omega arith in
        let m : T.frame * deepest ≡ T.frame * suc (length r.waiting) = ap (λ x. T.frame * x) q in
        omega arith

    is_below : below_limit ≡ true
    unfolding below_limit
    is_below = let d = at_globals in let f = carries.some_frame in lt-ltb (4 * Sp) (4 * (T.globals + T.frame)) (omega arith)

    left : Left T w fit C quiet_c.calm
    left = leave_run T w fit C quiet_c.calm leaving (tested ∙ is_below)

    abbrev Trapped : State
    Trapped = left.to

    all_the_way : Forth T.machine w fit u Trapped
    all_the_way = then_forth T.machine w fit u C Trapped comes_c left.forth

    abbrev Trapping : Word
    Trapping = one (EndByTrap Depth)

    trap_at : slice_get w.words Trapped.place ≡ Some Trapping
    trap_at = ap (λ q. slice_get w.words q) left.place ∙ (depth_stands T flow.main (length flow.functions) w.words carries.placed).0

    ends : step T.machine (1 ∷ []) w Trapped ≡ Over (Traps Depth (after w Trapped Trapping Trapped.place).out)
    ends =
        let f = fit Trapped.place Trapping trap_at in
        ap (issue T.machine (1 ∷ []) w Trapped) trap_at
        ∙ ap (λ why. unless_stuck why Trapped (leads_to (TrapsBy Depth) (effect T.machine (1 ∷ []) w Trapped Trapping))) (not_stuck T.machine w Trapped Trapping f.0 f.1 (record { addresses = refl; input = refl }))
        ∙ ap (λ t. leads_to (TrapsBy Depth) t) (effect_is T.machine w Trapped Trapping left.quiet.calm)

    out_is : (after w Trapped Trapping Trapped.place).out ≡ S.out
    out_is = append-nil Trapped.out ∙ left.quiet.out ∙ quiet_c.out ∙ tied.out

    is_full : nat_le deepest (length r.waiting + 1) ≡ true
    is_full = le-leb deepest (length r.waiting + 1) (omega arith)

    ends_alike : (ns : List ℤ) → known (map (held S) arguments) ≡ Some ns → EndsAlike T flow ls w r u
    ends_alike ns are = record {
      outcome = Traps Depth S.out;
      over = tt;
      words = suc all_the_way.0 + 1;
      over_values = hop_to (Hop.Calls g ns result (suc p) (suc (suc p)) S) (ap (λ x. calls g x result (suc p) (suc (suc p)) S) are)
          ∙ ap (λ b. if b then Over (Traps Depth S.out) else enters g ((laid_program flow ls).body g) ns S (waits r result (suc p) (suc (suc p)) S ∷ r.waiting)) is_full;
      over_registers = run_ends (step T.machine (1 ∷ []) w) (λ t. t.out) (suc all_the_way.0) u Trapped (Traps Depth (after w Trapped Trapping Trapped.place).out) all_the_way.1 ends ∙ ap (Traps Depth) out_is;
    }

  by_depth : (ns : List ℤ) → known (map (held S) arguments) ≡ Some ns → (b : Bool) → nat_le deepest (length r.waiting + 1) ≡ b → CarriesOn T flow ls w r u ⊎ EndsAlike T flow ls w r u
  by_depth ns are true e = inr (ends_alike (let l = leb-true deepest (length r.waiting + 1) e in omega arith) ns are)
  by_depth ns are false e = inl (called (let l = leb-false deepest (length r.waiting + 1) e in omega arith) ns are)

  by_known : (x : Option (List ℤ)) → known (map (held S) arguments) ≡ x → CarriesOn T flow ls w r u ⊎ EndsAlike T flow ls w r u
  by_known None e = absurd (safe_end (next (laid_program flow ls)) (λ q. q.state.out) r (Outcome.Wrong S.out) (hop_to Hop.Wrong (ap (λ x. calls g x result (suc p) (suc (suc p)) S) e)) tied.safe tt)
  by_known (Some ns) e = by_depth ns e (nat_le deepest (length r.waiting + 1)) refl

  pub call_word : CarriesOn T flow ls w r u ⊎ EndsAlike T flow ls w r u
  call_word = by_known (known (map (held S) arguments)) refl

pub call_law : CallLaw
call_law T flow ls w sound carries fit r u tied p g arguments result block plan = call_word T flow ls w ((told flow (is_sound_flow flow) refl).0 sound) carries fit r u tied p g arguments result block plan
