-- The words of a return: the result comes to the answer's register, and the run to the place that the link names.
use Rattle.std.proofs.Common.{◌≡◌, ◌≢◌, ◌<◌, ◌≤◌, inl, ⊎_elim, ◌+◌, ◌*◌, ◌^◌, ◌==◌, ◌&&◌, ℕ, zero, suc, ℤ, pos, Bool, true, false, Some, List, [], ◌∷◌, ◌++◌, length, length-append, refl, sym, ap, ◌∙◌, subst, arith}
use Rattle.std.specs.Prelude.{slice_get, if◌then◌else◌}
use Rattle.std.proofs.lemmas.List.{append-nil}
use Rattle.vx_base.specs.Arithmetic.{unsigned, wrap}
use Rattle.vx_base.proofs.WrapLaws.{unsigned-wrap}
use Rattle.vx_flow.specs.declared.graph.Bank.{Bank}
use Rattle.vx_flow.specs.declared.graph.Bank.TheVariants.{General as GeneralBank}
use Rattle.vx_flow.specs.declared.graph.Flow.{Flow}
use Rattle.vx_flow.specs.declared.graph.Operand.{Operand}
use Rattle.vx_flow.specs.declared.graph.Operand.TheVariants.{Held as HeldValue, Number as AsNumber, Stack}
use Rattle.vx_flow.specs.declared.graph.Exit.TheVariants.{Return as Returning}
use Rattle.vx_flow.specs.Effects.{State as VState, held}
use Rattle.vx_flow.specs.Meaning.{Active, Hop, leaves, setting_with, body_hop, after_hop, next}
use Rattle.vx_flow.specs.Sound.{Sound, SoundFlow, IsPlace, IsBase, HasExit}
use Rattle.vx_isa.specs.declared.operation.Register.{Register}
use Rattle.vx_isa.specs.declared.operation.Register.TheVariants.{General, Link}
use Rattle.vx_isa.specs.declared.operation.Source.TheVariants.{Held}
use Rattle.vx_isa.specs.declared.operation.Operation.TheVariants.{Move, Load, ToLink, Return as GoBack}
use Rattle.vx_isa.specs.declared.program.Word.{Word}
use Rattle.vx_isa.specs.declared.program.WordProgram.{WordProgram}
use Rattle.vx_isa.specs.Fits.{fits}
use Rattle.vx_isa.specs.Machine.{State, To, register, number_of}
use Rattle.vx_isa.specs.Operations.{latency_of}
use Rattle.vx_mixed.specs.declared.layout.VirtualWord.TheVariants.{Return}
use Rattle.vx_mixed.specs.declared.layout.VWords.{VWords}
use Rattle.vx_layout.specs.Laid.{laid_program, laid_hop, some_word_hop, laid_body}
use Rattle.vx_mixed.specs.LaidSettled.{bank_in}
use Rattle.vx_regs.specs.Intervals.{IsLive, here, is_live}
use Rattle.vx_target.specs.Target.{Target, answer, general, kept, is_slotted, is_branch, holds_branch, stack_on, register_of, one, together, pause, in_flight, settled, is_caller, fetch_words, fetched, last_beside, leave_words, return_words, memory_words}
use Rattle.vx_target.specs.Tied.{Tied, AtWord, Seating, Shows, here_of, Itself, back_place, kind_of, word_at}
use Rattle.vx_target.specs.Frames.{is_spilled}
use Rattle.vx_target.specs.Carried.{Carries, IsFunctionOf}
use Rattle.vx_target.proofs.Bytes.{unsigned_small}
use Rattle.vx_target.proofs.Calm.{seen, put_at, put_off, AllFit, after}
use Rattle.vx_target.proofs.Enough.{some_cluster}
use Rattle.vx_target.proofs.Proper.{itself}
use Rattle.vx_target.proofs.Frames.{get_below, get_in, frame_room}
use Rattle.vx_target.proofs.FromGraph.{plain_kind, whole_bank, has_whole, whole_is}
use Rattle.vx_target.proofs.Live.{live_bank}
use Rattle.vx_target.proofs.Names.{not_zero, not_general}
use Rattle.vx_tie.proofs.Passing.{CanFetch, OperandAt, Got, fetch_run}
use Rattle.vx_target.proofs.Slots.{number_in, stack_no_answer, link_unnamed, link_no_general}
use Rattle.vx_target.proofs.Stands.{word_stands}
use Rattle.vx_target.proofs.Steps.{Stands, stands_left, stands_right, Quiet, quiet_on, Comes, Forth, comes_on, then_forth, forth_comes, Set, set_step, SetTwo, load_beside, Paused, pause_step, word_step}

-- the run is at the place that the link named, with the result in the answer's register
pub record Left (T : Target) (w : WordProgram) (fit : AllFit T.machine w) (sp : ℕ) (u : State) (back : ℕ) (n : ℤ) : Type 0 where
  pub to : State
  pub forth : Forth T.machine w fit u to
  pub place : to.place ≡ back
  pub quiet : Quiet u to
  pub memory : to.memory ≡ u.memory
  pub answered : register to (General answer) ≡ n
  pub stack : (k : ℕ) → k < T.machine.clusters → register to (General (stack_on k)) ≡ pos (4 * sp)

one_three : suc zero ≡ suc (suc (suc zero)) → ⊥
one_three q = omega arith

two_three : suc (suc zero) ≡ suc (suc (suc zero)) → ⊥
two_three q = omega arith

stack_no_scratch : (k : ℕ) → General (stack_on k) ≢ General (general 0 3)
stack_no_scratch k e = one_three (ap number_in e)

answer_no_scratch : General answer ≢ General (general 0 3)
answer_no_scratch e = two_three (ap number_in e)

module _ (T : Target) (flow : Flow) (ls : List VWords) (w : WordProgram) (sound : SoundFlow flow) (carries : Carries T flow ls w) (fit : AllFit T.machine w) (r : Active) (u : State) (tied : Tied T flow ls r u) (p : ℕ) (x : Operand) (block : r.block ≡ suc p) (plan : slice_get (T.layout r.function).words p ≡ Some (Return x)) where
  abbrev F : ℕ
  F = r.function

  abbrev S : VState
  S = r.state

  abbrev Sp : ℕ
  Sp = tied.sp

  below : F < length flow.functions
  below = get_below flow.functions F (T.graph F) tied.is.graph

  of : IsFunctionOf T flow ls F
  of = carries.functions F below

  graph_sound : Sound (T.graph F)
  graph_sound = sound.graphs (T.graph F) (get_in flow.functions F (T.graph F) tied.is.graph)

  abbrev Here : Seating
  Here = here_of T flow.globals Sp r

  at_word : AtWord T flow.globals Sp p r u
  at_word = ⊎_elim (λ a. absurd (let z : suc p ≡ 0 = sym block ∙ a.block in omega arith)) (λ a. let z : suc a.0 ≡ suc p = sym a.1.block ∙ block in let q : a.0 ≡ p = omega arith in subst (λ y. AtWord T flow.globals Sp y r u) q a.1) tied.at

  -- over values
  pub hop_to : (h : Hop) → leaves (held S x) S ≡ h → next (laid_program flow ls) r ≡ after_hop (laid_program flow ls) r h
  hop_to h e =
      ap (after_hop (laid_program flow ls) r)
      (ap (body_hop (laid_program flow ls) r) (ap (λ y. laid_body (length flow.globals) y (slice_get ls F)) tied.is.graph ∙ ap (λ l. laid_body (length flow.globals) (Some (T.graph F)) l) tied.is.layout)
      ∙ ap (λ b. laid_hop (setting_with (laid_program flow ls) r.passed r.base) (T.layout F) b S) block ∙ ap (λ y. some_word_hop (setting_with (laid_program flow ls) r.passed r.base) p y S) plan ∙ e)

  small : 4 * memory_words T < 2 ^ 32
  small = let c = carries.small in omega arith

  some : 0 < T.machine.clusters
  some = some_cluster T.machine carries.machine

  room : Sp + T.frame ≤ memory_words T
  room = frame_room T flow carries.some_frame carries.globals sound Sp (length r.waiting) tied.deep

  first_inside : Sp + 0 < memory_words T
  first_inside = let a = room in let b = carries.some_frame in omega arith

  abbrev Fetches : List Word
  Fetches = fetch_words T F 0 x

  abbrev Answering : Word
  Answering = one (Move 0 answer (fetched T F x))

  abbrev Loads : List Word
  Loads = together T.machine (Move 0 answer (fetched T F x)) (Load 0 (general 0 3) (pos 0) (stack_on 0) false)

  abbrev Linking : Word
  Linking = one (ToLink (Held (general 0 3)))

  -- the words that ready the answer and the link, in a function that calls and in another
  abbrev Readies : Bool → List Word
  Readies b = if b then settled T Loads ++ settled T (Linking ∷ []) else settled T (Answering ∷ [])

  -- both in one word
  abbrev Beside : Word
  Beside = record { ops = Move 0 answer (fetched T F x) ∷ GoBack ∷ []; idle = 0 }

  abbrev Last : List Word
  Last = leave_words T F x

  stands : Stands w.words u.place (Fetches ++ Last)
  stands = subst (λ q. Stands w.words q (return_words T F x)) (sym at_word.place) (word_stands T flow.main (length flow.functions) w.words carries.placed F p (Return x) below plan)

  -- the operand

  abbrev Any : ℕ → Type 0
  Any a = Unit {0}

  has_exit : HasExit (T.graph F) (Returning x)
  has_exit = of.mapped.code.returns p x plan

  general_bank : (v : ℕ) → x ≡ HeldValue v → slice_get (T.graph F).banks v ≡ Some GeneralBank
  general_bank v e = graph_sound.exit_operands (Returning x) (HeldValue v) has_exit (inl (sym e))

  plain : (v : ℕ) → x ≡ HeldValue v → (kind_of T F v ≡ Itself) × (holds_branch T F v ≡ false)
  plain v e =
      let h = general_bank v e in
      let whole = whole_is T F Any graph_sound of.mapped.code (λ a lt. tt) v GeneralBank h in (
        plain_kind T F Any graph_sound of.mapped.code v
            (λ a i. graph_sound.place_exit v a (Returning x) (subst (λ y. IsPlace (T.graph F) y a) whole i) has_exit (inl (inl (sym e))))
            (λ i. graph_sound.base_returned v x (subst (IsBase (T.graph F)) whole i) has_exit e),
        ap is_branch (whole_bank T F Any graph_sound of.mapped.code v GeneralBank (has_whole T F Any graph_sound of.mapped.code (λ a lt. tt) v GeneralBank h)),
      )

  live : (v : ℕ) → x ≡ HeldValue v → IsLive (T.layout F) p v
  live v e = here (plan ∙ ap (λ y. Some (Return y)) e) (inl refl)

  its_bank : (v : ℕ) → x ≡ HeldValue v → (b : Bank) × (bank_in (T.layout F) v ≡ Some b)
  its_bank v e = live_bank T F of.mapped graph_sound p v (live v e)

  can : (v : ℕ) → x ≡ HeldValue v → CanFetch T.machine w fit T F Sp carries.memory small some 0 v
  can v e = record {
    general = (plain v e).1;
    usable = record {
      cluster = of.mapped.homes p v (is_live (live v e));
      not_zero = not_zero T F of.mapped (v ∷ []) v (its_bank v e);
      not_answer = not_general T F of.mapped (v ∷ []) v 0 2 (its_bank v e) (omega arith);
      not_stack = λ k. not_general T F of.mapped (v ∷ []) v k 1 (its_bank v e) (omega arith);
    };
    inside = λ h. let a = of.framed.slot_to v (is_spilled p (is_live (live v e)) h) in let b = room in omega arith;
  }

  module _ (n : ℤ) (are : held S x ≡ Some n) (few : back_place T r.waiting < 2 ^ 32) where
    operand_at : (y : Operand) → x ≡ y → held S y ≡ Some n → OperandAt T.machine w fit T F Sp carries.memory small some u 0 y n
    operand_at (AsNumber z) i e = cc
    operand_at Stack i e = absurd (cc)
    operand_at (HeldValue v) i e = (can v i, by (is_slotted (kept T F v)) (at_word.values v n (live v i) e))
      where
        by : (b : Bool) → Shows T Here F v n (if b then word_at u.memory (Sp + T.slot F v) else register u (register_of T F (v ∷ []) v)) → (if b then word_at u.memory (Sp + (0 + T.slot F v)) else seen u.registers (register_of T F (v ∷ []) v)) ≡ n
        by true k = let place : Sp + (0 + T.slot F v) ≡ Sp + T.slot F v = omega arith in ap (word_at u.memory) place ∙ itself k (plain v i).0
        by false k = itself k (plain v i).0

    got : Got T.machine w fit T F Sp carries.memory small some u x n (length Fetches)
    got = fetch_run T.machine w fit T F Sp carries.memory small some 0 x n u tied.calm tied.stack (stands_left w.words u.place Fetches Last stands) (operand_at x refl are)

    abbrev A : State
    A = got.to

    st : Stands w.words A.place Last
    st = subst (λ q. Stands w.words q Last) (sym got.place) (stands_right w.words u.place Fetches Last stands)

    stack_a : (k : ℕ) → k < T.machine.clusters → register A (General (stack_on k)) ≡ pos (4 * Sp)
    stack_a k lt = got.others (General (stack_on k)) (λ v e h q. (can v e).usable.not_stack k (sym q)) (stack_no_answer k) ∙ tied.stack k lt

    answering : slice_get w.words A.place ≡ Some Answering → Set T.machine w fit A (General answer) n
    answering at = set_step T.machine w fit A (Move 0 answer (fetched T F x)) (General answer) n got.quiet.calm at (record { bad = refl; takes = refl; prints = refl; stores = λ m. refl; leads = λ ops. refl }) refl refl got.is

    link_a : seen A.registers Link ≡ seen u.registers Link
    link_a = got.others Link (λ v e h. link_unnamed T F (v ∷ []) v) (link_no_general answer)

    -- the result is in its register, and so is the link
    record Readied (taken : ℕ) : Type 0 where
      to : State
      comes : Comes T.machine w fit A to
      place : to.place ≡ A.place + taken
      quiet : Quiet A to
      memory : to.memory ≡ A.memory
      answered : seen to.registers (General answer) ≡ n
      stack : (k : ℕ) → k < T.machine.clusters → register to (General (stack_on k)) ≡ pos (4 * Sp)
      link : seen to.registers Link ≡ wrap (pos (back_place T r.waiting))

    module _ (calls : is_caller T F ≡ true) (st : Stands w.words A.place (Readies true)) where
      abbrev FirstPause : ℕ
      FirstPause = in_flight T.machine 0 Loads

      abbrev LoadLate : List Word
      LoadLate = pause FirstPause

      abbrev LinkPause : ℕ
      LinkPause = in_flight T.machine 0 (Linking ∷ [])

      abbrev LinkLate : List Word
      LinkLate = pause LinkPause

      abbrev Links : List Word
      Links = Linking ∷ LinkLate

      from_loads : Stands w.words A.place (Loads ++ LoadLate)
      from_loads = stands_left w.words A.place (Loads ++ LoadLate) Links st

      loading : SetTwo T.machine w fit A (General answer) (General (general 0 3)) n (word_at A.memory (Sp + 0)) (length Loads)
      loading = load_beside T.machine w fit (memory_words T) carries.memory small A (Move 0 answer (fetched T F x)) (General answer) n 0 (general 0 3) (stack_on 0) Sp 0 got.quiet.calm (stands_left w.words A.place Loads LoadLate from_loads)
          (λ v. record { bad = refl; takes = refl; prints = refl; stores = λ m. refl; leads = λ ops. refl }) refl answer_no_scratch (stack_no_answer 0) refl got.is (stack_a 0 some) first_inside refl

      abbrev C : State
      C = loading.to

      place_c : C.place ≡ A.place + length Loads
      place_c = loading.place

      pausing : Paused T.machine w fit C (C.place + length LoadLate)
      pausing = pause_step T.machine w fit C FirstPause loading.quiet.calm (subst (λ q. Stands w.words q LoadLate) (sym place_c) (stands_right w.words A.place Loads LoadLate from_loads))

      link_stands : Stands w.words (A.place + length (Loads ++ LoadLate)) Links
      link_stands = stands_right w.words A.place (Loads ++ LoadLate) Links st

      abbrev D : State
      D = pausing.to

      place_d : D.place ≡ A.place + length (Loads ++ LoadLate)
      place_d = let a = pausing.place in let b = place_c in let c = length-append Loads LoadLate in omega arith

      linking : Set T.machine w fit D Link (register D (General (general 0 3)))
      linking = set_step T.machine w fit D (ToLink (Held (general 0 3))) Link (register D (General (general 0 3))) pausing.quiet.calm (subst (λ q. slice_get w.words q ≡ Some Linking) (sym place_d) link_stands.0) (record { bad = refl; takes = refl; prints = refl; stores = λ m. refl; leads = λ ops. refl }) refl refl refl

      abbrev E : State
      E = linking.to

      place_e : E.place ≡ (A.place + length (Loads ++ LoadLate)) + 1
      place_e = let a = linking.place in let b = place_d in omega arith

      resting : Paused T.machine w fit E (E.place + length LinkLate)
      resting = pause_step T.machine w fit E LinkPause linking.quiet.calm (subst (λ q. Stands w.words q LinkLate) (sym place_e) link_stands.1)

      abbrev R : State
      R = resting.to

      -- a register but that of the link is as it was when both were loaded
      later_r : (q : Register) → q ≢ Link → seen R.registers q ≡ seen C.registers q
      later_r q nl = ap (λ y. seen y q) resting.registers ∙ linking.others q nl ∙ ap (λ y. seen y q) pausing.registers

      in_frame : word_at u.memory Sp ≡ wrap (pos (back_place T r.waiting))
      in_frame = ap (λ b. if b then word_at u.memory Sp else u.registers Link) (sym calls) ∙ at_word.link

      link_is : seen R.registers Link ≡ wrap (pos (back_place T r.waiting))
      link_is =
          let zero_up : Sp + 0 ≡ Sp = omega arith in
          ap (λ y. seen y Link) resting.registers ∙ linking.at ∙ ap (λ y. seen y (General (general 0 3))) pausing.registers ∙ loading.second
          ∙ ap (λ y. word_at y (Sp + 0)) got.memory ∙ ap (word_at u.memory) zero_up ∙ in_frame

      readied_by_frame : Readied (length (Readies true))
      readied_by_frame = record {
        to = R;
        comes = comes_on T.machine w fit A C R loading.comes (comes_on T.machine w fit C D R pausing.comes (comes_on T.machine w fit D E R (forth_comes T.machine w fit D E linking.forth) resting.comes));
        place = (let a = resting.place in let b = place_e in let c = length-append (Loads ++ LoadLate) Links in omega arith);
        quiet = quiet_on A C R loading.quiet (quiet_on C D R pausing.quiet (quiet_on D E R linking.quiet resting.quiet));
        memory = resting.memory ∙ linking.memory ∙ pausing.memory ∙ loading.memory;
        answered = later_r (General answer) (λ e. absurd (cc)) ∙ loading.first;
        stack = λ k lt. later_r (General (stack_on k)) (λ e. absurd (cc)) ∙ loading.others (General (stack_on k)) (stack_no_answer k) (stack_no_scratch k) ∙ stack_a k lt;
        link = link_is;
      }

    readied_in_register : is_caller T F ≡ false → Stands w.words A.place (Readies false) → Readied (length (Readies false))
    readied_in_register calls st =
        let n : ℕ = in_flight T.machine 0 (Answering ∷ []) in
        let a = answering st.0 in
        let b = pause_step T.machine w fit a.to n a.quiet.calm (subst (λ q. Stands w.words q (pause n)) (sym a.place) st.1) in
        let in_register : seen u.registers Link ≡ wrap (pos (back_place T r.waiting)) = ap (λ b. if b then word_at u.memory Sp else u.registers Link) (sym calls) ∙ at_word.link in
        record {
          to = b.to;
          comes = comes_on T.machine w fit A a.to b.to (forth_comes T.machine w fit A a.to a.forth) b.comes;
          place = (let x = b.place in let y = a.place in omega arith);
          quiet = quiet_on A a.to b.to a.quiet b.quiet;
          memory = b.memory ∙ a.memory;
          answered = ap (λ y. seen y (General answer)) b.registers ∙ a.at;
          stack = λ k lt. ap (λ y. seen y (General (stack_on k))) b.registers ∙ a.others (General (stack_on k)) (stack_no_answer k) ∙ stack_a k lt;
          link = ap (λ y. seen y Link) b.registers ∙ a.others Link (link_no_general answer) ∙ link_a ∙ in_register;
        }

    -- behind the words that ready both
    module _ (b : Bool) (readied : Readied (length (Readies b))) (last : Stands w.words A.place (Readies b ++ one GoBack ∷ [])) where
      abbrev G : State
      G = readied.to

      last_stands : Stands w.words G.place (one GoBack ∷ [])
      last_stands = subst (λ q. Stands w.words q (one GoBack ∷ [])) (sym readied.place) (stands_right w.words A.place (Readies b) (one GoBack ∷ []) last)

      goes_to : unsigned (G.registers Link) ≡ back_place T r.waiting
      goes_to = ap unsigned readied.link ∙ unsigned-wrap (pos (back_place T r.waiting)) ∙ unsigned_small (back_place T r.waiting) few

      abbrev Going_back : Word
      Going_back = one GoBack

      abbrev H : State
      H = after w G Going_back (back_place T r.waiting)

      going : Forth T.machine w fit G H
      going = word_step T.machine w fit G Going_back (back_place T r.waiting) readied.quiet.calm last_stands.0 (record { addresses = refl; input = refl }) (ap To goes_to)

      comes_g : Comes T.machine w fit u G
      comes_g = comes_on T.machine w fit u A G got.comes readied.comes

      quiet_g : Quiet u G
      quiet_g = quiet_on u A G got.quiet readied.quiet

      left_behind : Left T w fit Sp u (back_place T r.waiting) n
      left_behind = record {
        to = H;
        forth = then_forth T.machine w fit u G H comes_g going;
        place = refl;
        quiet = record { calm = refl; input = quiet_g.input; out = append-nil G.out ∙ quiet_g.out };
        memory = readied.memory ∙ got.memory;
        answered = readied.answered;
        stack = readied.stack;
      }

    -- in the word that moves the result
    left_at_once : is_caller T F ≡ false → slice_get w.words A.place ≡ Some Beside → Left T w fit Sp u (back_place T r.waiting) n
    left_at_once calls at =
        let in_register : seen u.registers Link ≡ wrap (pos (back_place T r.waiting)) = ap (λ b. if b then word_at u.memory Sp else u.registers Link) (sym calls) ∙ at_word.link in
        let goes : unsigned (A.registers Link) ≡ back_place T r.waiting = ap unsigned (link_a ∙ in_register) ∙ unsigned-wrap (pos (back_place T r.waiting)) ∙ unsigned_small (back_place T r.waiting) few in
        let to : State = after w A Beside (back_place T r.waiting) in
        let going : Forth T.machine w fit A to = word_step T.machine w fit A Beside (back_place T r.waiting) got.quiet.calm at (record { addresses = refl; input = refl }) (ap To goes) in
        record {
          to = to;
          forth = then_forth T.machine w fit u A to got.comes going;
          place = refl;
          quiet = record { calm = refl; input = got.quiet.input; out = append-nil A.out ∙ got.quiet.out };
          memory = got.memory;
          answered = put_at (General answer) (number_of w.memory A (Move 0 answer (fetched T F x))) A.registers refl ∙ got.is;
          stack = λ k lt. put_off (General answer) (number_of w.memory A (Move 0 answer (fetched T F x))) A.registers (General (stack_on k)) (stack_no_answer k) ∙ stack_a k lt;
        }

    left_in_register : (b : Bool) → is_caller T F ≡ false → Stands w.words A.place (if b then Beside ∷ [] else Readies false ++ one GoBack ∷ []) → Left T w fit Sp u (back_place T r.waiting) n
    left_in_register true calls s = left_at_once calls s.0
    left_in_register false calls s = left_behind false (readied_in_register calls (stands_left w.words A.place (Readies false) (one GoBack ∷ []) s)) s

    left_by : (b : Bool) → is_caller T F ≡ b → Stands w.words A.place (if b then Readies true ++ one GoBack ∷ [] else last_beside T (Move 0 answer (fetched T F x)) GoBack) → Left T w fit Sp u (back_place T r.waiting) n
    left_by true calls s = left_behind true (readied_by_frame calls (stands_left w.words A.place (Readies true) (one GoBack ∷ []) s)) s
    left_by false calls s = left_in_register ((latency_of T.machine (Move 0 answer (fetched T F x)) == 1) && fits T.machine (Move 0 answer (fetched T F x) ∷ GoBack ∷ [])) calls s

    pub left_run : Left T w fit Sp u (back_place T r.waiting) n
    left_run = left_by (is_caller T F) refl st
