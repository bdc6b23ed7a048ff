-- From tied states a planned word comes to tied states.
use Rattle.std.proofs.Common.{◌≡◌, ◌≢◌, ◌<◌, ◌≤◌, ◌⊎◌, inl, inr, ⊎_elim, ◌+◌, ◌*◌, ◌^◌, ℕ, suc, ℤ, Bool, true, false, Option, Some, None, List, [], ◌∷◌, length, map, refl, sym, ap, ◌∙◌, subst, arith}
use Rattle.std.specs.Prelude.{slice_get}
use Rattle.std.proofs.lemmas.Bool.{and_parts, ltb-true}
use Rattle.vx_base.specs.Outcome.{Outcome, NeverFails, On, Over}
use Rattle.vx_base.proofs.Runs.{Reach, run_reach, safe_after, safe_end}
use Rattle.vx_flow.specs.declared.graph.Array.{Array}
use Rattle.vx_flow.specs.declared.graph.Bank.{Bank}
use Rattle.vx_flow.specs.declared.graph.Flow.{Flow}
use Rattle.vx_flow.specs.declared.graph.Op.{Op}
use Rattle.vx_flow.specs.Effects.{State as VState, Setting, IsIn}
use Rattle.vx_flow.specs.Meaning.{Hop, Active, setting_with, and_then, body_hop, hop, after_hop, next, program_run}
use Rattle.vx_flow.specs.Sound.{Sound, SoundFlow, is_given, base_of, is_sound_flow}
use Rattle.vx_flow.proofs.SoundFlowLaw.{told}
use Rattle.vx_flow.proofs.SoundLists.{all_in}
use Rattle.vx_isa.specs.declared.program.WordProgram.{WordProgram}
use Rattle.vx_isa.specs.Machine.{State, step, words_from}
use Rattle.vx_isa.proofs.FitsLaw.{six_parts}
use Rattle.vx_room.specs.Items.{latency_of_op}
use Rattle.vx_room.specs.Room.{stands_well}
use Rattle.vx_mixed.specs.declared.layout.Laid.{Laid}
use Rattle.vx_mixed.specs.declared.layout.Laid.TheVariants.{Plain, Split}
use Rattle.vx_mixed.specs.declared.layout.VWords.{VWords}
use Rattle.vx_mixed.specs.declared.layout.VirtualWord.TheVariants.{Planned}
use Rattle.vx_mixed.specs.Meaning.{leaves_on, picked}
use Rattle.vx_layout.specs.Laid.{laid_effect, laid_next, moves_to, laid_hop, some_word_hop, laid_body, laid_program}
use Rattle.vx_mixed.specs.LaidSettled.{LeadsTo, laid_reads, laid_writes, bank_in, Plans}
use Rattle.vx_regs.specs.Intervals.{IsLive, here, beyond, IsBusy, is_live}
use Rattle.vx_target.specs.Target.{Target, kept, is_slotted, register_of, past, memory_words, plan_words}
use Rattle.vx_target.specs.Tied.{Tied, AtWord, Below, Seating, Shows, Stacked, IsStack, HasCell, Seated, active_at, here_of, stack_from, waiting_above, seat, holds, word_at}
use Rattle.vx_target.specs.Frames.{NeedsSlot, is_spilled}
use Rattle.vx_target.specs.Carried.{Carries, IsFunctionOf, item_of_laid}
use Rattle.vx_target.specs.Seats.{Seats, is_link, is_slot}
use Rattle.vx_tie.specs.Planned.{CarriesOn, PlannedLaw}
use Rattle.vx_target.proofs.Calm.{AllFit}
use Rattle.vx_target.proofs.Proper.{ProperItems}
use Rattle.vx_target.proofs.FromGraph.{branch_plain, op_proper, test_proper}
use Rattle.vx_target.proofs.Names.{Few, apart_all, apart_mixed, apart_registers, not_zero, not_general}
use Rattle.vx_target.proofs.Live.{reads_bank, writes_bank, live_bank}
use Rattle.vx_target.proofs.Enough.{few_reads, few_writes, named_busy, some_cluster}
use Rattle.vx_target.proofs.Frames.{get_below, get_some, get_in, frame_room, above_globals, link_stays, below_keep}
use Rattle.vx_target.proofs.SeatRoom.{table, framed_from}
use Rattle.vx_target.proofs.SeatSteps.{sized_as, frames_of, saved_of}
use Rattle.vx_target.proofs.Cells.{SameShape}
use Rattle.vx_target.proofs.Items.{Ran, shape_items, same_items}
use Rattle.vx_target.proofs.Steps.{Stands}
use Rattle.vx_target.proofs.Slots.{Usable, in_or_not}
use Rattle.vx_target.proofs.Stands.{word_stands, landing_stands, word_next}
use Rattle.vx_target.proofs.Word.{slotted_from, Planning, Untouched, Arrived, IsAt, there, past_it, beyond as beyond_it, First, ran}
use Rattle.vx_tie.proofs.PastTransfers.{Led, led_past, led_beyond, steps_on}
use Rattle.vx_tie.proofs.Plan.{plan_run}

module _ (T : Target) (flow : Flow) (ls : List VWords) (w : WordProgram) (sound : SoundFlow flow) (carries : Carries T flow ls w) (fit : AllFit T.machine w) (r : Active) (u : State) (tied : Tied T flow ls r u) (p region word : ℕ) (items : List Laid) (block : r.block ≡ suc p) (plan : slice_get (T.layout r.function).words p ≡ Some (Planned region word items)) where
  abbrev F : ℕ
  F = r.function

  abbrev S : VState
  S = r.state

  abbrev Sp : ℕ
  Sp = tied.sp

  abbrev Rs : List ℕ
  Rs = laid_reads items

  abbrev Ws : List ℕ
  Ws = laid_writes items

  abbrev Globals : ℕ
  Globals = length flow.globals

  abbrev TheSetting : Setting
  TheSetting = setting_with (laid_program flow ls) r.passed r.base

  abbrev IsArray : ℕ → Type 0
  IsArray a = (array : Array) × (slice_get (T.graph F).arrays a ≡ Some array)

  -- the seats of all rows
  abbrev TheStack : List Stacked
  TheStack = stack_from T Sp r

  abbrev TheSeats : ℕ → ℕ
  TheSeats k = seat T flow.globals TheStack k

  abbrev Latest : Stacked
  Latest = active_at Sp r

  -- what the function sees
  abbrev Here : Seating
  Here = here_of T flow.globals Sp r

  high : T.globals ≤ Sp
  high = above_globals T flow carries.some_frame carries.globals sound Sp (length r.waiting) tied.deep

  the_table : Seats T Globals TheStack S.arrays u.memory TheSeats
  the_table = table T flow ls sound (frames_of T flow ls w carries) TheStack Sp S.arrays u.memory tied.stacked high tied.seated

  below : F < length flow.functions
  below = get_below flow.functions F (T.graph F) tied.is.graph

  of : IsFunctionOf T flow ls F
  of = carries.functions F below

  graph_sound : Sound (T.graph F)
  graph_sound = sound.graphs (T.graph F) (get_in flow.functions F (T.graph F) tied.is.graph)

  arrays : (a : ℕ) → a < length (T.graph F).arrays → IsArray a
  arrays a lt = get_some (T.graph F).arrays a lt

  plans : Plans (T.layout F) p items
  plans = (region, word, plan)

  at_word : AtWord T flow.globals Sp p r u
  at_word = ⊎_elim (λ a. absurd (let z : suc p ≡ 0 = sym block ∙ a.block in omega arith)) (λ a. let z : suc a.0 ≡ suc p = sym a.1.block ∙ block in let q : a.0 ≡ p = omega arith in subst (λ x. AtWord T flow.globals Sp x r u) q a.1) tied.at

  small : 4 * memory_words T < 2 ^ 32
  small = let c = carries.small in omega arith

  -- what the operations name

  cluster_below : (op : Op) (k : ℕ) → IsIn (Plain op k) items → k < T.machine.clusters
  cluster_below op k i =
      let room = six_parts _ _ _ _ _ _ (of.mapped.settled.fits p items plans) in
      let well = all_in (stands_well T.machine) (map item_of_laid items) (item_of_laid (Plain op k)) (and_parts _ _ room.two).0 (in_mapped items i) in
      ltb-true k T.machine.clusters (and_parts _ _ well).0
    where
      in_mapped : (xs : List Laid) → IsIn (Plain op k) xs → IsIn (item_of_laid (Plain op k)) (map item_of_laid xs)
      in_mapped [] j = absurd j
      in_mapped (x ∷ xs) j = ⊎_elim (λ e. inl (ap item_of_laid e)) (λ l. inr (in_mapped xs l)) j

  proper_items : (xs : List Laid) → ((x : Laid) → IsIn x xs → IsIn x items) → ProperItems T F IsArray xs
  proper_items [] h = tt
  proper_items (Plain op k ∷ xs) h = (op_proper T F IsArray graph_sound of.mapped.code arrays op k (cluster_below op k (h (Plain op k) (inl refl))) (of.mapped.code.ops p k op items plans (h (Plain op k) (inl refl))), proper_items xs (λ x i. h x (inr i)))
  proper_items (Split test y q ∷ xs) h =
      let parts = of.mapped.code.splits p test q y items plans (h (Split test y q) (inl refl)) in
      (test_proper T F IsArray graph_sound of.mapped.code arrays test parts.yes parts.no parts.has, proper_items xs (λ x i. h x (inr i)))

  proper : ProperItems T F IsArray items
  proper = proper_items items (λ x i. i)

  banks : (v : ℕ) → IsIn v Rs ⊎ IsIn v Ws → (b : Bank) × (bank_in (T.layout F) v ≡ Some b)
  banks v i = ⊎_elim (reads_bank T F of.mapped graph_sound p items plans v) (writes_bank T F of.mapped graph_sound p items plans v) i

  busy : (v : ℕ) → IsIn v Rs ⊎ IsIn v Ws → IsBusy (latency_of_op T.machine) (T.layout F) p v
  busy v i = named_busy T F of.mapped graph_sound IsArray p items plans proper banks v i

  enough_reads : Few T F of.mapped Rs
  enough_reads = few_reads T F of.mapped graph_sound IsArray p items plans proper banks

  enough_writes : Few T F of.mapped Ws
  enough_writes = few_writes T F of.mapped graph_sound IsArray p items plans proper banks

  some : 0 < T.machine.clusters
  some = some_cluster T.machine carries.machine

  -- slots and arrays

  needs : (v : ℕ) → IsIn v Rs ⊎ IsIn v Ws → is_slotted (kept T F v) ≡ true → NeedsSlot T F v
  needs v i e = is_spilled p (busy v i) e

  room : Sp + T.frame ≤ memory_words T
  room = frame_room T flow carries.some_frame carries.globals sound Sp (length r.waiting) tied.deep

  slot_inside : (v : ℕ) → NeedsSlot T F v → Sp + T.slot F v < memory_words T
  slot_inside v n = let a = of.framed.slot_to v n in let b = room in omega arith

  -- a word of a row is no slot, and no link

  slot_apart : (v k i : ℕ) → NeedsSlot T F v → HasCell S.arrays k i → Sp + T.slot F v ≢ TheSeats k + i
  slot_apart v k i n has = the_table.free Latest (Sp + T.slot F v) k i (inl refl) (is_slot v n refl) has

  usable : (names : List ℕ) (v : ℕ) → IsIn v Rs ⊎ IsIn v Ws → Usable T.machine w fit T F Sp carries.memory small some names v
  usable names v i = record {
    cluster = of.mapped.homes p v (busy v i);
    not_zero = not_zero T F of.mapped names v (banks v i);
    not_answer = not_general T F of.mapped names v 0 2 (banks v i) (omega arith);
    not_stack = λ k. not_general T F of.mapped names v k 1 (banks v i) (omega arith);
  }

  -- what the function sees ends with all rows
  rows_are : Here.rows ≡ length S.arrays
  rows_are = tied.stacked.2

  no_base : (base : Option ℕ) → is_given base ≡ false → base ≡ None
  no_base None e = refl
  no_base (Some v) e = absurd (let z : true ≡ false = e in cc)

  planning : Planning T.machine w fit T F Here p carries.memory small some TheSetting IsArray items S u
  planning = record {
    calm = tied.calm;
    stands = subst (λ q. Stands w.words q (plan_words T F p items)) (sym at_word.place) (word_stands T flow.main (length flow.functions) w.words carries.placed F p (Planned region word items) below plan);
    next = word_next T flow.main (length flow.functions) w.words carries.placed F p (Planned region word items) below plan ∙ ap (λ q. q + length (plan_words T F p items)) (sym at_word.place);
    landing = λ test to y b v vs i e. landing_stands T flow.main (length flow.functions) w.words carries.placed F p to test region word b items v vs below plan e i;
    stack = tied.stack;
    shows = λ v n i e. at_word.values v n (here plan i) e;
    proper = proper;
    branch_plain = branch_plain T F IsArray graph_sound of.mapped.code;
    texts = carries.texts;
    inside = the_table.inside;
    apart = the_table.apart;
    begins = λ a is bare. the_table.begins Latest a is.0 (inl refl) is.1 (no_base is.0.base (sym (ap (λ o. is_given (base_of o)) is.1) ∙ bare));
    spots = λ a. refl;
    there = λ a is. (let l = the_table.stands Latest a is.0 (inl refl) is.1 in let q = rows_are in omega arith);
    low = λ k lt. the_table.low k (let q = rows_are in omega arith);
    less = (let c = carries.small in omega arith);
    start = the_table.known;
    input = tied.input;
    out = tied.out;
    reads_usable = λ v i. usable Rs v (inl i);
    reads_apart = λ x y i j ne. apart_all T F of.mapped p Rs x y (λ v k. (banks v (inl k), busy v (inl k))) enough_reads i j ne;
    reads_inside = λ v i. (let k = slotted_from T F v Rs i in slot_inside v (needs v (inl k.0) k.1));
    writes_usable = λ v i. usable Ws v (inr i);
    writes_apart = λ x y i j ne. apart_all T F of.mapped p Ws x y (λ v k. (banks v (inr k), busy v (inr k))) enough_writes i j ne;
    writes_inside = λ v i. (let k = slotted_from T F v Ws i in slot_inside v (needs v (inr k.0) k.1));
    writes_slots = λ x y i j e. (let a = slotted_from T F x Ws i in let b = slotted_from T F y Ws j in of.framed.slots x y (needs x (inr a.0) a.1) (needs y (inr b.0) b.1) e);
    slots_free = λ v k i j has. (let c = slotted_from T F v Ws j in slot_apart v k i (needs v (inr c.0) c.1) has);
  }

  -- a value that is live behind the word and not written by it

  untouched : (v : ℕ) → IsLive (T.layout F) p v → (IsIn v Ws → ⊥) → Untouched T.machine w fit T F Here p carries.memory small some TheSetting IsArray items S u v
  untouched v live no_ = record {
    answer_not = λ e. not_general T F of.mapped (v ∷ []) v 0 2 bank (omega arith);
    reads_not = λ y e i. (let k = slotted_from T F y Rs i in apart_mixed T F of.mapped (v ∷ []) Rs v y bank enough_reads k.0 e k.1);
    writes_not = λ y e i. by_slot y e i (is_slotted (kept T F y)) refl;
    slots_not = λ y e i q. (let k = slotted_from T F y Ws i in other y k.0 (of.framed.slots v y (is_spilled p (is_live live) e) (needs y (inr k.0) k.1) q));
    arrays_not = λ k i e has. slot_apart v k i (is_spilled p (is_live live) e) has;
  }
    where
      bank : (b : Bank) × (bank_in (T.layout F) v ≡ Some b)
      bank = live_bank T F of.mapped graph_sound p v live

      other : (y : ℕ) → IsIn y Ws → v ≡ y → ⊥
      other y i e = no_ (subst (λ z. IsIn z Ws) (sym e) i)

      by_slot : (y : ℕ) → is_slotted (kept T F v) ≡ false → IsIn y Ws → (b : Bool) → is_slotted (kept T F y) ≡ b → register_of T F (v ∷ []) v ≢ register_of T F Ws y
      by_slot y e i true q = apart_mixed T F of.mapped (v ∷ []) Ws v y bank enough_writes i e q
      by_slot y e i false q = apart_registers T F of.mapped p (v ∷ []) Ws v y bank (banks y (inr i)) (is_live live) (busy y (inr i)) (other y i) e q

  -- the step over values

  body_is : (laid_program flow ls).body F ≡ laid_body Globals (Some (T.graph F)) (Some (T.layout F))
  body_is = ap (λ g. laid_body Globals g (slice_get ls F)) tied.is.graph ∙ ap (λ l. laid_body Globals (Some (T.graph F)) l) tied.is.layout

  hop_is : hop (laid_program flow ls) r ≡ and_then (laid_effect TheSetting S items S) (moves_to p (laid_next S (suc p) items))
  hop_is = ap (body_hop (laid_program flow ls) r) body_is ∙ ap (λ b. laid_hop TheSetting (T.layout F) b S) block ∙ ap (λ x. some_word_hop TheSetting p x S) plan

  next_is : (h : Hop) → and_then (laid_effect TheSetting S items S) (moves_to p (laid_next S (suc p) items)) ≡ h → next (laid_program flow ls) r ≡ after_hop (laid_program flow ls) r h
  next_is h e = ap (after_hop (laid_program flow ls) r) (hop_is ∙ e)

  wrong : next (laid_program flow ls) r ≡ Over (Outcome.Wrong S.out) → ⊥
  wrong e = safe_end (next (laid_program flow ls)) (λ q. q.state.out) r (Outcome.Wrong S.out) e tied.safe tt

  module _ (t : VState) (q : ℕ) (done : laid_effect TheSetting S items S ≡ Some t) (took : laid_next S (suc p) items ≡ Some q) where
    abbrev After : Active
    After = record r { block = suc q; state = t }

    steps : next (laid_program flow ls) r ≡ On After
    steps = next_is (Hop.Arrives (suc p) (suc q) t) (ap (λ x. and_then x (moves_to p (laid_next S (suc p) items))) done ∙ ap (λ x. moves_to p x t) took)

    arrived : Arrived T.machine w fit T F Here p carries.memory small some TheSetting IsArray items S u t q
    arrived = plan_run T.machine w fit T F Here p carries.memory small some TheSetting IsArray items S u planning t done q took

    abbrev To : State
    To = arrived.to

    the_run : Ran T w F Here TheSetting IsArray Rs Ws S (First T.machine w fit T F Here p carries.memory small some TheSetting IsArray items S u planning) p items S t
    the_run = ran T.machine w fit T F Here p carries.memory small some TheSetting IsArray items S u planning t done

    shape : SameShape S.arrays t.arrays
    shape = shape_items T w F Here TheSetting IsArray Rs Ws S (First T.machine w fit T F Here p carries.memory small some TheSetting IsArray items S u planning) p items S t the_run

    leads_on : LeadsTo p (Planned region word items) q
    leads_on = next_leads S (suc p) items items (λ x i. i) took
      where
        next_leads : (s : VState) (n : ℕ) (all xs : List Laid) → ((x : Laid) → IsIn x xs → IsIn x all) → laid_next s n xs ≡ Some q → (q ≡ n) ⊎ ((test : ℕ) × (y : Bool) × IsIn (Split test y q) all)
        next_leads s n all [] h e = inl (cc)
        next_leads s n all (Plain op k ∷ xs) h e = next_leads s n all xs (λ x i. h x (inr i)) e
        next_leads s n all (Split test y to ∷ xs) h e = by (leaves_on (s.values test) y) e (λ g. next_leads s n all xs (λ x i. h x (inr i)) g)
          where
            by : (b : Option Bool) → picked b None (Some to) (laid_next s n xs) ≡ Some q → (laid_next s n xs ≡ Some q → (q ≡ n) ⊎ ((test : ℕ) × (y : Bool) × IsIn (Split test y q) all)) → (q ≡ n) ⊎ ((test : ℕ) × (y : Bool) × IsIn (Split test y q) all)
            by None g more = absurd (cc)
            by (Some true) g more = let z : to ≡ q = cc in inr (test, y, subst (λ x. IsIn (Split test y x) all) z (h (Split test y to) (inl refl)))
            by (Some false) g more = more g

    -- values

    values : (v : ℕ) (n : ℤ) → IsLive (T.layout F) q v → t.values v ≡ Some n → Shows T Here F v n (holds T To Sp F v)
    values v n live e = ⊎_elim
        (λ i. arrived.written v n i e)
        (λ no_.
        let before : IsLive (T.layout F) p v = beyond plan no_ leads_on live in
        let same = same_items T w F Here TheSetting IsArray Rs Ws S (First T.machine w fit T F Here p carries.memory small some TheSetting IsArray items S u planning) p v items S t the_run no_ in
        arrived.kept_value v n (untouched v before no_) (at_word.values v n before (sym same ∙ e)))
        (in_or_not v Ws)

    -- memory

    elsewhere : (x : ℕ) → ((k i : ℕ) → HasCell S.arrays k i → x ≢ TheSeats k + i) → ((v : ℕ) → NeedsSlot T F v → x ≢ Sp + T.slot F v) → word_at To.memory x ≡ word_at u.memory x
    elsewhere x free slots = arrived.elsewhere x free (λ v i. (let k = slotted_from T F v Ws i in slots v (needs v (inr k.0) k.1)))

    seated : Seated T flow.globals TheStack t.arrays To.memory
    seated = record {
      sized = sized_as T flow.globals TheStack S.arrays t.arrays shape tied.seated.sized;
      known = λ k i n has e. arrived.arrays k i n (let z = shape.each k in omega arith) e;
    }

    link : word_at To.memory Sp ≡ word_at u.memory Sp
    link = elsewhere Sp (λ k i has. the_table.free Latest Sp k i (inl refl) (is_link refl) has) (λ v n e. let z = of.framed.slot_from v n in omega arith)

    waiting : Below T flow ls To.memory Sp r.waiting
    waiting = below_keep T flow ls (saved_of T flow ls w carries) r.waiting u.memory To.memory Sp
        (λ x word i framed. elsewhere word (λ k j has. the_table.free x word k j (inr i) framed has)
        (λ v n e. let z = of.framed.slot_to v n in let y = framed_from T flow ls (waiting_above T Sp r.waiting) (Sp + T.frame) r.base tied.stacked.4 x word i framed in omega arith))
        tied.below

    tied_at : (d : ℕ) → To.place ≡ T.starts F d → ((v : ℕ) (n : ℤ) → IsLive (T.layout F) d v → t.values v ≡ Some n → Shows T Here F v n (holds T To Sp F v)) → NeverFails (λ n. program_run (laid_program flow ls) n (record r { block = suc d; state = t })) → Tied T flow ls (record r { block = suc d; state = t }) To
    tied_at d place shown safe = record {
      sp = Sp;
      is = tied.is;
      calm = arrived.calm;
      deep = tied.deep;
      stack = arrived.stack;
      at = inr (d, record { block = refl; place = place; values = shown; link = link_stays T u To Sp F link arrived.link ∙ at_word.link });
      stacked = subst (λ c. IsStack T flow ls Sp c TheStack) (sym shape.count) tied.stacked;
      seated = seated;
      below = waiting;
      input = arrived.input;
      out = arrived.out;
      safe = safe;
    }

    over : (n : ℕ) → words_from T.machine (1 ∷ []) w (suc arrived.forth.0 + n) u ≡ words_from T.machine (1 ∷ []) w n To
    over n = run_reach (step T.machine (1 ∷ []) w) (λ x. x.out) (suc arrived.forth.0) n u To arrived.forth.1

    abbrev Behind : ℕ → Active
    Behind d = record r { block = suc d; state = t }

    -- a split leads past transfers, which are more steps over values
    carried_to : (d : ℕ) → Led T flow ls After tied.is q d → To.place ≡ T.starts F d → CarriesOn T flow ls w r u
    carried_to d led place =
        let reach : Reach (next (laid_program flow ls)) (suc led.steps) r (Behind d) = (After, steps, led.over_values) in
        record {
          after = Behind d;
          to = To;
          steps = led.steps;
          words = arrived.forth.0;
          over_values = steps_on flow ls (suc led.steps) r (Behind d) reach;
          over_registers = over;
          tied = tied_at d place (λ v n live g. values v n (led.live v live) g) (safe_after (next (laid_program flow ls)) (λ x. x.state.out) (suc led.steps) r (Behind d) reach tied.safe);
        }

    carried : CarriesOn T flow ls w r u
    carried = by arrived.place
      where
        by : IsAt T.machine w fit T F Here p carries.memory small some TheSetting IsArray items S u q To.place → CarriesOn T flow ls w r u
        by (there place) = carried_to q (record { steps = 0; over_values = refl; live = λ v k. k }) place
        by (past_it place) = carried_to (past T F q) (led_past T flow ls After tied.is q) place
        by (beyond_it to transfer place) = carried_to (past T F to) (led_beyond T flow ls After tied.is q to transfer) place

  took_some : (t : VState) → laid_effect TheSetting S items S ≡ Some t → (q : Option ℕ) → laid_next S (suc p) items ≡ q → CarriesOn T flow ls w r u
  took_some t e None k = absurd (wrong (next_is Hop.Wrong (ap (λ x. and_then x (moves_to p (laid_next S (suc p) items))) e ∙ ap (λ x. moves_to p x t) k)))
  took_some t e (Some q) k = carried t q e k

  did_some : (x : Option VState) → laid_effect TheSetting S items S ≡ x → CarriesOn T flow ls w r u
  did_some None e = absurd (wrong (next_is Hop.Wrong (ap (λ x. and_then x (moves_to p (laid_next S (suc p) items))) e)))
  did_some (Some t) e = took_some t e (laid_next S (suc p) items) refl

  pub planned_word : CarriesOn T flow ls w r u
  planned_word = did_some (laid_effect TheSetting S items S) refl

pub planned_law : PlannedLaw
planned_law T flow ls w sound carries fit r u tied p region word items block plan =
    planned_word T flow ls w ((told flow (is_sound_flow flow) refl).0 sound) carries fit r u tied p region word items block plan
