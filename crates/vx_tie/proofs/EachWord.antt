-- Each word of a program that carries a flow is one of its plan, or of one of the other kinds.
use Rattle.std.proofs.Common.{◌≡◌, ◌<◌, ◌≤◌, ◌⊎◌, inl, inr, ◌+◌, ◌-◌, ◌==◌, ◌&&◌, ℕ, zero, suc, ℤ, pos, neg_ℤ, Bool, true, false, Option, Some, None, List, [], ◌∷◌, ◌++◌, length, refl, sym, ap, ◌∙◌, subst, arith}
use Rattle.std.specs.Prelude.{if◌then◌else◌, slice_get}
use Rattle.vx_base.specs.declared.arithmetic.Code.TheVariants.{Add, ToBranch}
use Rattle.vx_base.specs.declared.arithmetic.Compare.TheVariants.{Ltu, Ne}
use Rattle.vx_base.specs.declared.outcome.Trap.TheVariants.{Depth as ByDepth}
use Rattle.vx_flow.specs.declared.graph.Flow.{Flow}
use Rattle.vx_flow.specs.declared.graph.Operand.{Operand}
use Rattle.vx_flow.specs.declared.graph.Operand.TheVariants.{Held as HeldValue, Number as AsNumber, Stack}
use Rattle.vx_flow.specs.Effects.{IsIn, value_in}
use Rattle.vx_flow.specs.Sound.{Sound, SoundFlow}
use Rattle.vx_flow.proofs.Members.{in_left, in_right}
use Rattle.vx_isa.specs.declared.operation.GeneralRegister.{GeneralRegister}
use Rattle.vx_isa.specs.declared.operation.Register.TheVariants.{General as InGeneral, Branch as InBranch}
use Rattle.vx_isa.specs.declared.operation.Source.{Source}
use Rattle.vx_isa.specs.declared.operation.Source.TheVariants.{Held, Number}
use Rattle.vx_isa.specs.declared.operation.Operation.{Operation}
use Rattle.vx_isa.specs.declared.operation.Operation.TheVariants.{Compute, Move, Select, Load, Store, Goto, BranchOn, Call, Return, FromLink, ToLink, EndByTrap, Halt}
use Rattle.vx_isa.specs.declared.program.Word.{Word}
use Rattle.vx_isa.specs.declared.program.WordProgram.{WordProgram}
use Rattle.vx_isa.specs.Fits.{fits}
use Rattle.vx_isa.specs.Operations.{latency_of}
use Rattle.vx_isa.specs.Paths.{WordAt}
use Rattle.vx_mixed.specs.declared.layout.Laid.{Laid}
use Rattle.vx_mixed.specs.declared.layout.Laid.TheVariants.{Plain, Split}
use Rattle.vx_mixed.specs.declared.layout.VirtualWord.{VirtualWord}
use Rattle.vx_mixed.specs.declared.layout.VirtualWord.TheVariants.{Planned, Drain, Transfer, Choice, Call as Calls, Return as Returns, Ends}
use Rattle.vx_mixed.specs.declared.layout.VWords.{VWords}
use Rattle.vx_mixed.specs.LaidSettled.{laid_reads, laid_writes}
use Rattle.vx_regs.specs.declared.map.Kept.{Kept}
use Rattle.vx_regs.specs.declared.map.Kept.TheVariants.{InRegister, InSlot, Nowhere}
use Rattle.vx_regs.specs.Intervals.{is_named, word_reads, word_writes}
use Rattle.vx_target.specs.Target.{Target, answer, general, general_of, branch_of, number_by, scratch, stack_on, holds_branch, is_slotted, kept, slotted, once, parameters_of, one, together, pause, in_flight, settled, set_stack, slots_in_flight, load_slot, store_slot, load_slots, store_slots, if_some, before, behind, plan_word, plan_words, past_there, past_from, most_transfers, past, landing_words, on_clusters, stack_steps, move_stack, leave_or_lower, save_words, reload_words, fetch_words, fetched, cluster_of_operand, passes, calls_beside, store_or_call, argument_words, result_words, call_words, back_words, is_caller, answer_words, last_beside, leave_words, return_words, follows, way, link_words, begin_words, wanted, entry_words, turns, idle_words, word_words, start_words, waits, bytes, first_frame}
use Rattle.vx_target.specs.Placed.{Depth, Labelled, PlacedAt, place_of, laid_pieces, landing_of, item_landings, word_landings, landing_pieces, function_pieces, functions_pieces, all_pieces, words_of}
use Rattle.vx_target.specs.Frames.{NeedsSlot, is_passed, is_spilled, is_saved}
use Rattle.vx_target.specs.Carried.{Carries, IsFunctionOf, IsMapped}
use Rattle.vx_target.specs.Places.{plan_place}
use Rattle.vx_tie.specs.Plans.{AreSpaced, IsSpaced, LeavesAt, at_once, by_empty, IsEntrance, at_entry, by_transfer, by_choice, IsBranchOf, IsInStart, IsInEntry, IsInCall, IsInReturn, IsOther, loads_slot, stores_slot, picks_number, tests_number, moves, tests_depth, leaves_by_depth, leaves_or_lowers, moves_stacks, calls, stores_slot_and_calls, takes_link, stores_link, loads_link, moves_and_loads_link, gives_link, returns, moves_and_returns, sets_stacks, calls_first, halts, traps, traps_depth, idles, goes, branches, goes_out}
use Rattle.vx_target.proofs.FromPlace.{StandFrom, stand_here, stand_on, stand_from_start}
use Rattle.vx_target.proofs.Enough.{in_all_of}
use Rattle.vx_target.proofs.Frames.{get_below, get_in, past_keeps}
use Rattle.vx_target.proofs.Limits.{Limits, limits}
use Rattle.vx_target.proofs.Names.{Few}
use Rattle.vx_target.proofs.Once.{once_in}
use Rattle.vx_target.proofs.Pauses.{flight_few, slots_few, wanted_few}
use Rattle.vx_target.proofs.Stands.{word_stands, word_next, entry_next}
use Rattle.vx_target.proofs.Steps.{Stands}
use Rattle.vx_target.proofs.Word.{slotted_from}
use Rattle.vx_tie.proofs.Filed.{few_single, few_kept}
use Rattle.vx_tie.proofs.WordHeats.{few_r, few_w}

-- the word at a place is that of a planned word
pub record IsPlannedAt (T : Target) (count q : ℕ) : Type 0 where
  pub function : ℕ
  pub place : ℕ
  pub region : ℕ
  pub number : ℕ
  pub items : List Laid
  pub low : function < count
  pub planned : slice_get (T.layout function).words place ≡ Some (Planned region number items)
  pub at : plan_place T function place items ≡ q

module _ (T : Target) (count : ℕ) where
  -- words that are of the other kinds wherever they stand between two places
  abbrev AllOther : (from to : ℕ) → List Word → Type 0
  AllOther from to [] = Unit {0}
  AllOther from to (w ∷ ws) = ((q : ℕ) → from ≤ q → q < to → IsOther T count q w) × AllOther from to ws

  other_append : (from to : ℕ) (xs ys : List Word) → AllOther from to xs → AllOther from to ys → AllOther from to (xs ++ ys)
  other_append from to [] ys a b = b
  other_append from to (x ∷ xs) ys a b = (a.0, other_append from to xs ys a.1 b)

  some_other : (from to : ℕ) (vs : List ℕ) (ws : List Word) → AllOther from to ws → AllOther from to (if_some vs ws)
  some_other from to [] ws g = tt
  some_other from to (v ∷ vs) ws g = g

  abbrev KindsAt : ℕ → List Word → Type 0
  KindsAt q [] = Unit {0}
  KindsAt q (w ∷ ws) = (IsPlannedAt T count q ⊎ IsOther T count q w) × KindsAt (suc q) ws

  kinds_other : (from to q : ℕ) (ws : List Word) → from ≤ q → q + length ws ≤ to → AllOther from to ws → KindsAt q ws
  kinds_other from to q [] le fits h = tt
  kinds_other from to q (w ∷ ws) le fits h = (inr (h.0 q le (omega arith)), kinds_other from to (suc q) ws (omega arith) (omega arith) h.1)

  kinds_append : (q : ℕ) (xs ys : List Word) → KindsAt q xs → KindsAt (q + length xs) ys → KindsAt q (xs ++ ys)
  kinds_append q [] ys a b = let z : q + 0 ≡ q = omega arith in subst (λ n. KindsAt n ys) z b
  kinds_append q (x ∷ xs) ys a b = let z : q + suc (length xs) ≡ suc q + length xs = omega arith in (a.0, kinds_append (suc q) xs ys a.1 (subst (λ n. KindsAt n ys) z b))

  kind_at : (q : ℕ) (ws : List Word) (p : ℕ) (w : Word) → KindsAt q ws → slice_get ws p ≡ Some w → IsPlannedAt T count (q + p) ⊎ IsOther T count (q + p) w
  kind_at q [] p w h e = absurd (cc)
  kind_at q (x ∷ ws) zero w h e =
      let s : x ≡ w = cc in
      let z : q ≡ q + 0 = omega arith in
      subst (λ y. IsPlannedAt T count (q + 0) ⊎ IsOther T count (q + 0) y) s (subst (λ n. IsPlannedAt T count n ⊎ IsOther T count n x) z h.0)
  kind_at q (x ∷ ws) (suc p) w h e = let z : suc q + p ≡ q + suc p = omega arith in subst (λ n. IsPlannedAt T count n ⊎ IsOther T count n w) z (kind_at (suc q) ws p w h.1 e)

  abbrev KindPieces : List Labelled → Type 0
  KindPieces [] = Unit {0}
  KindPieces (x ∷ xs) = KindsAt (place_of T x.label) x.words × KindPieces xs

  pieces_append : (xs ys : List Labelled) → KindPieces xs → KindPieces ys → KindPieces (xs ++ ys)
  pieces_append [] ys a b = b
  pieces_append (x ∷ xs) ys a b = (a.0, pieces_append xs ys a.1 b)

  pieces_kinds : (q : ℕ) (xs : List Labelled) → PlacedAt T q xs → KindPieces xs → KindsAt q (words_of xs)
  pieces_kinds q [] p a = tt
  pieces_kinds q (x ∷ xs) p a = kinds_append q x.words (words_of xs) (subst (λ n. KindsAt n x.words) p.0 a.0) (pieces_kinds (q + length x.words) xs p.1 a.1)

-- where the first function stands
first_entry : (T : Target) (q n : ℕ) (rest : List Labelled) → 1 ≤ n → PlacedAt T q (functions_pieces T 0 n ++ rest) → T.entry 0 ≡ q
first_entry T q zero rest le p = absurd (omega arith)
first_entry T q (suc n) rest le p = p.0

sixty_four : 64 ≡ most_transfers
unfolding most_transfers
sixty_four = refl

module _ (T : Target) (flow : Flow) (ls : List VWords) (w : WordProgram) (sound : SoundFlow flow) (carries : Carries T flow ls w) (spaced : AreSpaced ls) where
  abbrev Count : ℕ
  Count = length flow.functions

  abbrev Kinds : ℕ → List Word → Type 0
  Kinds q ws = KindsAt T Count q ws

  abbrev Pieces : List Labelled → Type 0
  Pieces xs = KindPieces T Count xs

  module _ (f : ℕ) (lt : f < Count) where
    of : IsFunctionOf T flow ls f
    of = carries.functions f lt

    mapped : IsMapped T f
    mapped = of.mapped

    graph_sound : Sound (T.graph f)
    graph_sound = sound.graphs (T.graph f) (get_in flow.functions f (T.graph f) of.is.graph)

    of_machine : Limits T.machine
    of_machine = limits T.machine carries.machine

    abbrev HasWordAt : ℕ → VirtualWord → Type 0
    HasWordAt p word = slice_get (T.layout f).words p ≡ Some word

    -- values that need slots

    abbrev IfSlotted : ℕ → Type 0
    IfSlotted v = is_slotted (kept T f v) ≡ true → NeedsSlot T f v

    abbrev AllNeed : List ℕ → Type 0
    AllNeed vs = (v : ℕ) → IsIn v vs → NeedsSlot T f v

    abbrev AllIfSlotted : List ℕ → Type 0
    AllIfSlotted vs = (v : ℕ) → IsIn v vs → IfSlotted v

    abbrev Fetches : Operand → Type 0
    Fetches x = AllIfSlotted (value_in x)

    slotted_need : (vs : List ℕ) → AllIfSlotted vs → AllNeed (slotted T f vs)
    slotted_need vs h v i = let a = slotted_from T f v vs i in h v a.0 a.1

    word_needs : (p : ℕ) (word : VirtualWord) → HasWordAt p word → (v : ℕ) → IsIn v (word_reads word ++ word_writes word) → IfSlotted v
    word_needs p word e v i h = is_spilled p (is_named e i) h

    reads_need : (p : ℕ) (word : VirtualWord) → HasWordAt p word → AllIfSlotted (word_reads word)
    reads_need p word e v i = word_needs p word e v (in_left v (word_reads word) (word_writes word) i)

    writes_need : (p : ℕ) (word : VirtualWord) → HasWordAt p word → AllIfSlotted (word_writes word)
    writes_need p word e v i = word_needs p word e v (in_right v (word_reads word) (word_writes word) i)

    saved_need : (p g : ℕ) (arguments : List Operand) (result : Option ℕ) → HasWordAt p (Calls g arguments result) → AllNeed (T.saved f p)
    saved_need p g arguments result e v i = is_saved p g arguments result e i

    brought_need : AllNeed (T.brought f)
    brought_need v i = is_passed (of.saved.brought v i).passed

    -- registers of branch values

    abbrev Names : List ℕ → Type 0
    Names names = Few T f mapped names

    named : (names : List ℕ) (v : ℕ) → Names names → IsIn v names → holds_branch T f v ≡ true → IsBranchOf T f v (branch_of T f names v)
    named names v few i h = by (kept T f v) refl
      where
        by : (k : Kept) → kept T f v ≡ k → (k ≡ InRegister (number_by k (scratch T f names v))) ⊎ ((is_slotted k ≡ true) × (number_by k (scratch T f names v) < T.machine.issue))
        by (InRegister n) e = inl refl
        by (InSlot n) e = inr (refl, few.branch v i (ap is_slotted e) h)
        by Nowhere e = inr (refl, few.branch v i (ap is_slotted e) h)

    name_one : (v : ℕ) → Names (v ∷ [])
    name_one v = few_single T f mapped of_machine v

    name_kept : (vs : List ℕ) → ((v : ℕ) → IsIn v vs → is_slotted (kept T f v) ≡ false) → Names vs
    name_kept vs h = few_kept T f mapped of_machine vs h

    name_brought : Names (T.brought f)
    name_brought = name_kept (T.brought f) (λ v i. ap is_slotted (of.saved.brought v i).register)

    name_saved : (p g : ℕ) (arguments : List Operand) (result : Option ℕ) → HasWordAt p (Calls g arguments result) → Names (T.saved f p)
    name_saved p g arguments result e = name_kept (T.saved f p) (λ v i. ap is_slotted (of.saved.saved p g v arguments result e i).register)

    -- entrances

    abbrev Entrance : ℕ → Type 0
    Entrance q = IsEntrance (T.layout f) q

    -- a jump past transfers arrives where one of them leads, or where it was to go
    entrance_past : (n q : ℕ) → Entrance q → Entrance (past_from (T.layout f).words n q)
    entrance_past n q h = past_keeps (T.layout f).words Entrance (λ d to e k. by_transfer d e) n q h

    past_entrance : (q : ℕ) → Entrance q → Entrance (past T f q)
    past_entrance q h = entrance_past most_transfers q h

    past_transfer : (q to : ℕ) → HasWordAt q (Transfer to) → Entrance (past T f q)
    past_transfer q to e =
        let there : Entrance (past_from (T.layout f).words 63 to) = entrance_past 63 to (by_transfer q e) in
        let from : Entrance (past_from (T.layout f).words 64 q) = subst (λ o. Entrance (past_from (T.layout f).words 63 (past_there q o))) (sym e) there in
        subst (λ n. Entrance (past_from (T.layout f).words n q)) sixty_four from

    past_empty : (q n : ℕ) → HasWordAt q (Drain n) → past T f q ≡ q
    past_empty q n e = past_keeps (T.layout f).words (λ d. d ≡ q) (λ d to t s. absurd (let z : Some (Transfer to) ≡ Some (Drain n) = sym t ∙ ap (slice_get (T.layout f).words) s ∙ e in cc)) most_transfers q refl

    module _ (from to : ℕ) where
      abbrev Words : List Word → Type 0
      Words ws = AllOther T Count from to ws

      abbrev Everywhere : (ℕ → Type 0) → Type 0
      Everywhere Is = (q : ℕ) → from ≤ q → q < to → Is q

      abbrev Other : Word → Type 0
      Other word = Everywhere (λ q. IsOther T Count q word)

      append : (xs ys : List Word) → Words xs → Words ys → Words (xs ++ ys)
      append xs ys a b = other_append T Count from to xs ys a b

      pause_other : (n : ℕ) → n ≤ 16 → Words (pause n)
      pause_other zero le = tt
      pause_other (suc n) le = ((λ q a b. idles (suc n) le), tt)

      settled_other : (ws : List Word) → Words ws → Words (settled T ws)
      settled_other ws h = let n = in_flight T.machine 0 ws in append ws (pause n) h (pause_other n (flight_few T.machine carries.machine 0 ws (omega arith)))

      -- a word, a pause, and what follows
      one_settled : (word : Word) (ws : List Word) → Other word → Words ws → Words (settled T (word ∷ []) ++ ws)
      one_settled word ws g h = append (settled T (word ∷ [])) ws (settled_other (word ∷ []) (g, tt)) h

      -- an operation on each cluster

      move_stack_other : (z : ℤ) → (z ≡ bytes T.frame) ⊎ (z ≡ neg_ℤ (bytes T.frame)) → Everywhere (IsInCall T Count) → Words (move_stack T z)
      move_stack_other z h call = settled_other (record { ops = on_clusters T.machine.clusters (λ k. Compute k Add (InGeneral (stack_on k)) (Held (stack_on k)) (Number z)); idle = 0 } ∷ []) ((λ q a b. moves_stacks z h (call q a b)), tt)

      lower_other : Everywhere (IsInCall T Count) → Words (leave_or_lower T)
      lower_other call = by ((T.machine.latency_alu == 1) && fits T.machine (BranchOn 0 true T.depth_trap ∷ stack_steps T (neg_ℤ (bytes T.frame))))
        where
          by : (b : Bool) → Words (if b then record { ops = BranchOn 0 true T.depth_trap ∷ stack_steps T (neg_ℤ (bytes T.frame)); idle = 0 } ∷ [] else one (BranchOn 0 true T.depth_trap) ∷ move_stack T (neg_ℤ (bytes T.frame)))
          by true = ((λ q a b. leaves_or_lowers (call q a b)), tt)
          by false = ((λ q a b. leaves_by_depth (call q a b)), move_stack_other (neg_ℤ (bytes T.frame)) (inr refl) call)

      start_other : Everywhere (IsInStart T) → Words (start_words T f)
      start_other start = append (set_stack T) (one (Call (T.entry f)) ∷ one (Halt (Held answer)) ∷ [])
          (settled_other (record { ops = on_clusters T.machine.clusters (λ k. Move k (stack_on k) (Number (bytes (first_frame T)))); idle = 0 } ∷ []) ((λ q a b. sets_stacks (start q a b)), tt))
          ((λ q a b. calls_first f lt (start q a b)), ((λ q a b. halts (start q a b)), tt))

      -- slots

      load_slot_other : (up v : ℕ) (into : GeneralRegister) (b : ℕ) → NeedsSlot T f v → (holds_branch T f v ≡ true → IsBranchOf T f v b) → Everywhere (λ q. (up ≡ 0) ⊎ ((up ≡ T.frame) × IsInCall T Count q)) → Words (load_slot T f up v into b)
      load_slot_other up v into b needs names h = by (holds_branch T f v) refl
        where
          by : (c : Bool) → holds_branch T f v ≡ c → Words (if c
              then settled T (one (Load 0 answer (bytes (up + T.slot f v)) (stack_on 0) false) ∷ []) ++ one (Compute 0 (ToBranch Ne) (InBranch (record { cluster = 0; number = b })) (Held answer) (Number (pos 0))) ∷ []
              else one (Load into.cluster into (bytes (up + T.slot f v)) (stack_on into.cluster) false) ∷ [])
          by true e = one_settled (one (Load 0 answer (bytes (up + T.slot f v)) (stack_on 0) false)) (one (Compute 0 (ToBranch Ne) (InBranch (record { cluster = 0; number = b })) (Held answer) (Number (pos 0))) ∷ []) (λ q a c. loads_slot f v up answer lt needs (h q a c)) ((λ q a c. tests_number f v b lt needs e (names e)), tt)
          by false e = ((λ q a c. loads_slot f v up into lt needs (h q a c)), tt)

      store_slot_other : (v : ℕ) (held : GeneralRegister) (b : ℕ) → NeedsSlot T f v → (holds_branch T f v ≡ true → IsBranchOf T f v b) → Words (store_slot T f v held b)
      store_slot_other v held b needs names = by (holds_branch T f v) refl
        where
          by : (c : Bool) → holds_branch T f v ≡ c → Words (if c
              then settled T (one (Select 0 answer (record { cluster = 0; number = b }) (Number (pos 1)) (Number (pos 0))) ∷ []) ++ one (Store 0 (bytes (T.slot f v)) (stack_on 0) (Held answer)) ∷ []
              else one (Store held.cluster (bytes (T.slot f v)) (stack_on held.cluster) (Held held)) ∷ [])
          by true e = one_settled (one (Select 0 answer (record { cluster = 0; number = b }) (Number (pos 1)) (Number (pos 0)))) (one (Store 0 (bytes (T.slot f v)) (stack_on 0) (Held answer)) ∷ []) (λ q a c. picks_number f v b lt needs e (names e)) ((λ q a c. stores_slot f v 0 (Held answer) lt needs), tt)
          by false e = ((λ q a c. stores_slot f v held.cluster (Held held) lt needs), tt)

      load_slots_other : (names vs : List ℕ) → Names names → ((v : ℕ) → IsIn v vs → IsIn v names) → AllNeed vs → Words (load_slots T f names vs)
      load_slots_other names [] few among h = tt
      load_slots_other names (v ∷ vs) few among h = append (load_slot T f 0 v (general_of T f names v) (branch_of T f names v)) (load_slots T f names vs)
          (load_slot_other 0 v (general_of T f names v) (branch_of T f names v) (h v (inl refl)) (named names v few (among v (inl refl))) (λ q a b. inl refl)) (load_slots_other names vs few (λ x i. among x (inr i)) (λ x i. h x (inr i)))

      store_slots_other : (names vs : List ℕ) → Names names → ((v : ℕ) → IsIn v vs → IsIn v names) → AllNeed vs → Words (store_slots T f names vs)
      store_slots_other names [] few among h = tt
      store_slots_other names (v ∷ vs) few among h = append (store_slot T f v (general_of T f names v) (branch_of T f names v)) (store_slots T f names vs)
          (store_slot_other v (general_of T f names v) (branch_of T f names v) (h v (inl refl)) (named names v few (among v (inl refl)))) (store_slots_other names vs few (λ x i. among x (inr i)) (λ x i. h x (inr i)))

      before_other : (names : List ℕ) → Names names → AllIfSlotted names → Words (before T f names)
      before_other names few h =
          let vs : List ℕ = once (slotted T f names) in
          some_other T Count from to (slotted T f names) (settled T (load_slots T f names vs))
          (settled_other (load_slots T f names vs) (load_slots_other names vs few (λ v i. (slotted_from T f v names (once_in v (slotted T f names) i)).0) (λ v i. slotted_need names h v (once_in v (slotted T f names) i))))

      behind_other : (items : List Laid) → Names (laid_writes items) → AllIfSlotted (laid_writes items) → Words (behind T f items)
      behind_other items few h =
          let ws : List ℕ = laid_writes items in
          some_other T Count from to (slotted T f ws) (pause (slots_in_flight T f items) ++ store_slots T f ws (slotted T f ws))
          (append (pause (slots_in_flight T f items)) (store_slots T f ws (slotted T f ws)) (pause_other (slots_in_flight T f items) (slots_few T carries.machine f items)) (store_slots_other ws (slotted T f ws) few (λ v i. (slotted_from T f v ws i).0) (slotted_need ws h)))

      -- some words, and a pause that they are waited for
      wanted_other : (next : Option ℕ) (q : ℕ) (vs : List ℕ) (ws : List Word) → Words ws → Words (ws ++ pause (wanted T f next q vs ws))
      wanted_other next q vs ws h = let n = wanted T f next q vs ws in append ws (pause n) h (pause_other n (wanted_few T carries.machine f next q vs ws))

      reload_other : (q : ℕ) (vs : List ℕ) → Names vs → AllNeed vs → Words (reload_words T f q vs)
      reload_other q vs few h = wanted_other None q vs (load_slots T f vs vs) (load_slots_other vs vs few (λ v i. i) h)

      -- calls, returns and entries

      fetch_other : (up : ℕ) (x : Operand) → Fetches x → Everywhere (λ q. (up ≡ 0) ⊎ ((up ≡ T.frame) × IsInCall T Count q)) → Words (fetch_words T f up x)
      fetch_other up (HeldValue v) n h = by (is_slotted (kept T f v)) refl
        where
          by : (b : Bool) → is_slotted (kept T f v) ≡ b → Words (if b then settled T (load_slot T f up v (general_of T f (v ∷ []) v) (branch_of T f (v ∷ []) v)) else [])
          by true e = settled_other (load_slot T f up v (general_of T f (v ∷ []) v) (branch_of T f (v ∷ []) v)) (load_slot_other up v (general_of T f (v ∷ []) v) (branch_of T f (v ∷ []) v) (n v (inl refl) e) (named (v ∷ []) v (name_one v) (inl refl)) h)
          by false e = tt
      fetch_other up (AsNumber z) n h = tt
      fetch_other up Stack n h = tt

      -- a call of this function may stand at a place, alone and beside a store of its last argument
      abbrev Calling : ℕ → ℕ → Type 0
      Calling g q = IsOther T Count q (one (Call (T.entry g))) × ((v k : ℕ) (held : Source) → NeedsSlot T g v → IsOther T Count q (record { ops = Store k (bytes (T.slot g v)) (stack_on k) held ∷ Call (T.entry g) ∷ []; idle = 0 }))

      arguments_other : (g : ℕ) (vs : List ℕ) (xs : List Operand) → g < Count → ((v : ℕ) → IsIn v vs → NeedsSlot T g v) → ((x : Operand) → IsIn x xs → Fetches x) → Everywhere (IsInCall T Count) → Everywhere (Calling g) → Words (argument_words T f g vs xs)
      arguments_other g [] xs below h n call called = ((λ q a b. (called q a b).0), tt)
      arguments_other g (v ∷ vs) [] below h n call called = ((λ q a b. (called q a b).0), tt)
      arguments_other g (v ∷ vs) (x ∷ xs) below h n call called =
          append (fetch_words T f T.frame x) (store_or_call T g vs (passes T f g v x) (argument_words T f g vs xs)) (fetch_other T.frame x (n x (inl refl)) (λ q a b. inr (refl, call q a b)))
          (by (calls_beside T g vs (passes T f g v x)) (arguments_other g vs xs below (λ u i. h u (inr i)) (λ y i. n y (inr i)) call called))
        where
          by : (b : Bool) → Words (argument_words T f g vs xs) → Words (if b then record { ops = passes T f g v x ∷ Call (T.entry g) ∷ []; idle = 0 } ∷ [] else one (passes T f g v x) ∷ argument_words T f g vs xs)
          by true r = ((λ q a b. (called q a b).1 v (cluster_of_operand T f x) (fetched T f x) (h v (inl refl))), tt)
          by false r = ((λ q a b. stores_slot g v (cluster_of_operand T f x) (fetched T f x) below (h v (inl refl))), r)

      result_other : (result : Option ℕ) → ((v : ℕ) → result ≡ Some v → IfSlotted v) → Words (result_words T f result)
      result_other None n = tt
      result_other (Some v) n = by (is_slotted (kept T f v)) refl
        where
          by : (b : Bool) → is_slotted (kept T f v) ≡ b → Words (if b then one (Store 0 (bytes (T.slot f v)) (stack_on 0) (Held answer)) ∷ [] else settled T (one (Move (general_of T f (v ∷ []) v).cluster (general_of T f (v ∷ []) v) (Held answer)) ∷ []))
          by true e = ((λ q a b. stores_slot f v 0 (Held answer) lt (n v refl e)), tt)
          by false e = settled_other (one (Move (general_of T f (v ∷ []) v).cluster (general_of T f (v ∷ []) v) (Held answer)) ∷ []) ((λ q a b. moves (general_of T f (v ∷ []) v).cluster (general_of T f (v ∷ []) v) (Held answer)), tt)

      call_other : (p g : ℕ) (arguments : List Operand) (result : Option ℕ) → HasWordAt p (Calls g arguments result) → g < Count → ((x : Operand) → IsIn x arguments → Fetches x) → Everywhere (IsInCall T Count) →
          Everywhere (Calling g) → Words (call_words T f p g arguments)
      call_other p g xs result at below n call called =
          let test : Operation = Compute 0 (ToBranch Ltu) (InBranch (record { cluster = 0; number = 0 })) (Held (stack_on 0)) (Number (bytes (T.globals + T.frame))) in
          let passed : List Word = argument_words T f g (parameters_of T g) xs in
          let lowered : Words (leave_or_lower T ++ passed) = append (leave_or_lower T) passed (lower_other call) (arguments_other g (parameters_of T g) xs below (λ v i. is_passed i) n call called) in
          let saves : List Word = save_words T f (T.saved f p) in
          append (settled T (one test ∷ saves)) (leave_or_lower T ++ passed)
          (settled_other (one test ∷ saves) ((λ q a b. tests_depth (call q a b)), store_slots_other (T.saved f p) (T.saved f p) (name_saved p g xs result at) (λ v i. i) (saved_need p g xs result at))) lowered

      back_other : (p g : ℕ) (arguments : List Operand) (result : Option ℕ) → HasWordAt p (Calls g arguments result) → ((v : ℕ) → result ≡ Some v → IfSlotted v) → Everywhere (IsInCall T Count) → Words (back_words T f p result)
      back_other p g xs result at n call =
          append (move_stack T (bytes T.frame)) (result_words T f result ++ reload_words T f (p + 1) (T.saved f p)) (move_stack_other (bytes T.frame) (inl refl) call)
          (append (result_words T f result) (reload_words T f (p + 1) (T.saved f p)) (result_other result n) (reload_other (p + 1) (T.saved f p) (name_saved p g xs result at) (saved_need p g xs result at)))

      answer_other : (x : Operand) → Everywhere (IsInReturn T Count) → Words (answer_words T f x)
      answer_other x ret =
          let loads : List Word = together T.machine (Move 0 answer (fetched T f x)) (Load 0 (general 0 3) (pos 0) (stack_on 0) false) in
          append (settled T loads) (settled T (one (ToLink (Held (general 0 3))) ∷ [])) (settled_other loads (both (fits T.machine (Move 0 answer (fetched T f x) ∷ Load 0 (general 0 3) (pos 0) (stack_on 0) false ∷ [])))) (settled_other (one (ToLink (Held (general 0 3))) ∷ []) ((λ q a b. gives_link (ret q a b)), tt))
        where
          both : (c : Bool) → Words (if c then record { ops = Move 0 answer (fetched T f x) ∷ Load 0 (general 0 3) (pos 0) (stack_on 0) false ∷ []; idle = 0 } ∷ [] else one (Move 0 answer (fetched T f x)) ∷ one (Load 0 (general 0 3) (pos 0) (stack_on 0) false) ∷ [])
          both true = ((λ q a b. moves_and_loads_link (fetched T f x) (ret q a b)), tt)
          both false = ((λ q a b. moves 0 answer (fetched T f x)), ((λ q a b. loads_link (ret q a b)), tt))

      beside_other : (x : Operand) → Everywhere (IsInReturn T Count) → Words (last_beside T (Move 0 answer (fetched T f x)) Return)
      beside_other x ret = by ((latency_of T.machine (Move 0 answer (fetched T f x)) == 1) && fits T.machine (Move 0 answer (fetched T f x) ∷ Return ∷ []))
        where
          by : (b : Bool) → Words (if b then record { ops = Move 0 answer (fetched T f x) ∷ Return ∷ []; idle = 0 } ∷ [] else settled T (one (Move 0 answer (fetched T f x)) ∷ []) ++ one Return ∷ [])
          by true = ((λ q a b. moves_and_returns (fetched T f x) (ret q a b)), tt)
          by false = one_settled (one (Move 0 answer (fetched T f x))) (one Return ∷ []) (λ q a b. moves 0 answer (fetched T f x)) ((λ q a b. returns (ret q a b)), tt)

      leave_other : (x : Operand) → Everywhere (IsInReturn T Count) → Words (leave_words T f x)
      leave_other x ret = by (is_caller T f)
        where
          by : (b : Bool) → Words (if b then answer_words T f x ++ one Return ∷ [] else last_beside T (Move 0 answer (fetched T f x)) Return)
          by true = append (answer_words T f x) (one Return ∷ []) (answer_other x ret) ((λ q a b. returns (ret q a b)), tt)
          by false = beside_other x ret

      return_other : (x : Operand) → Fetches x → Everywhere (IsInReturn T Count) → Words (return_words T f x)
      return_other x n ret = append (fetch_words T f 0 x) (leave_words T f x) (fetch_other 0 x n (λ q a b. inl refl)) (leave_other x ret)

      link_other : Everywhere (IsInEntry T Count) → Words (link_words T f)
      link_other entry = by (is_caller T f)
        where
          by : (b : Bool) → Words (if b then settled T (one (FromLink (general 0 3)) ∷ []) ++ one (Store 0 (pos 0) (stack_on 0) (Held (general 0 3))) ∷ [] else [])
          by true = one_settled (one (FromLink (general 0 3))) (one (Store 0 (pos 0) (stack_on 0) (Held (general 0 3))) ∷ []) (λ q a b. takes_link (entry q a b)) ((λ q a b. stores_link (entry q a b)), tt)
          by false = tt

      -- ways

      way_other : (next q : ℕ) → Entrance q → Words (way T f next q)
      way_other next q there = by (follows T f next q)
        where
          by : (b : Bool) → Words (if b then [] else one (Goto (T.starts f q)) ∷ [])
          by true = tt
          by false = ((λ d a b. goes f q lt there), tt)

      entry_other : Everywhere (IsInEntry T Count) → Words (entry_words T f)
      entry_other entry =
          let next : List Word = way T f 0 (past T f (T.layout f).entry) in
          let loads : List Word = load_slots T f (T.brought f) (T.brought f) in
          let begins : List Word = begin_words T f in
          append (begins ++ pause (wanted T f (Some 0) (past T f (T.layout f).entry) (T.brought f) begins)) next
          (wanted_other (Some 0) (past T f (T.layout f).entry) (T.brought f) begins (append loads (link_words T f) (load_slots_other (T.brought f) (T.brought f) name_brought (λ v i. i) brought_need) (link_other entry)))
          (way_other 0 (past T f (T.layout f).entry) (past_entrance (T.layout f).entry (at_entry refl)))

      idle_other : (p n : ℕ) → HasWordAt p (Drain n) → Words (idle_words T f p n)
      idle_other p n e = by (turns T f (p + 1))
        where
          by : (b : Bool) → Words (if b then pause (n - 1) else waits n ∷ [])
          by true = pause_other (n - 1) (let a = mapped.brief p n e in omega arith)
          by false = ((λ q a b. idles n (let c = mapped.brief p n e in omega arith)), tt)

    -- words of a layout

    module _ (p rg wd : ℕ) (items : List Laid) (plan : HasWordAt p (Planned rg wd items)) where
      names_read : Names (laid_reads items)
      names_read = few_r T (λ q r. 0) f mapped graph_sound of_machine p rg wd items plan

      names_written : Names (laid_writes items)
      names_written = few_w T (λ q r. 0) f mapped graph_sound of_machine p rg wd items plan

      -- words between planned ones stand wherever they are

      planned_kinds : Kinds (T.starts f p) (plan_words T f p items)
      planned_kinds =
          let loads : List Word = before T f (laid_reads items) in
          let stores : List Word = behind T f items in
          let here : ℕ = T.starts f p in
          let at : ℕ = here + length loads in
          let there : IsPlannedAt T Count at = record { function = f; place = p; region = rg; number = wd; items = items; low = lt; planned = plan; at = refl } in
          kinds_append T Count here loads (plan_word T f p items ∷ stores) (kinds_other T Count here at here loads (omega arith) (omega arith) (before_other here at (laid_reads items) names_read (reads_need p (Planned rg wd items) plan)))
          (inl there, kinds_other T Count (suc at) (suc at + length stores) (suc at) stores (omega arith) (omega arith) (behind_other (suc at) (suc at + length stores) items names_written (writes_need p (Planned rg wd items) plan)))

      landing_kinds : (v test q : ℕ) (y : Bool) → IsIn v (slotted T f (laid_writes items)) → IsIn (Split test y q) items → Kinds (T.landing f p q) (landing_words T f items q)
      landing_kinds v test q y slot i =
          let here : ℕ = T.landing f p q in
          let to : ℕ = here + length (landing_words T f items q) in
          kinds_other T Count here to here (landing_words T f items q) (omega arith) (omega arith)
          (append here to (behind T f items) (one (Goto (T.starts f (past T f q))) ∷ []) (behind_other here to items names_written (writes_need p (Planned rg wd items) plan)) ((λ d a b. on d (its_spaced.splits p rg wd test q y items plan i)), tt))
        where
          its_spaced : IsSpaced (T.layout f)
          its_spaced = spaced f (T.layout f) of.is.layout

          on : (d : ℕ) → LeavesAt (T.layout f) q → IsOther T Count d (one (Goto (T.starts f (past T f q))))
          on d (at_once to e) = goes f (past T f q) lt (past_transfer q to e)
          on d (by_empty n e) = subst (λ z. IsOther T Count d (one (Goto (T.starts f z)))) (sym (past_empty q n e)) (goes_out f q lt (record { place = p; region = rg; number = wd; items = items; planned = plan; test = test; leaves_when = y; leads = i; result = v; stored = slot; cycles = n; empty = e }))

      landing_of_kinds : (vs : List ℕ) (test q : ℕ) (y : Bool) → ((v : ℕ) → IsIn v vs → IsIn v (slotted T f (laid_writes items))) → IsIn (Split test y q) items → Pieces (landing_of T f p items vs q)
      landing_of_kinds [] test q y h i = tt
      landing_of_kinds (v ∷ vs) test q y h i = (landing_kinds v test q y (h v (inl refl)) i, tt)

      landings_kinds : (xs : List Laid) → ((x : Laid) → IsIn x xs → IsIn x items) → Pieces (item_landings T f p items xs)
      landings_kinds [] h = tt
      landings_kinds (Plain op k ∷ xs) h = landings_kinds xs (λ x i. h x (inr i))
      landings_kinds (Split test y q ∷ xs) h = pieces_append T Count (landing_of T f p items (slotted T f (laid_writes items)) q) (item_landings T f p items xs) (landing_of_kinds (slotted T f (laid_writes items)) test q y (λ v i. i) (h (Split test y q) (inl refl))) (landings_kinds xs (λ x i. h x (inr i)))

    called_below : (p g : ℕ) (arguments : List Operand) (result : Option ℕ) → HasWordAt p (Calls g arguments result) → g < Count
    called_below p g arguments result e =
        let c = mapped.code.calls p g arguments result e in
        let there = sound.calls (T.graph f) g c.next arguments result (get_in flow.functions f (T.graph f) of.is.graph) c.has in
        get_below flow.functions g there.graph there.is

    -- the words that carry one of a layout stand up to the next
    up_to : (p : ℕ) (word : VirtualWord) → HasWordAt p word → T.starts f (suc p) ≡ T.starts f p + length (word_words T f p word)
    up_to p word e = word_next T flow.main Count w.words carries.placed f p word lt e

    between : (p : ℕ) (word : VirtualWord) → HasWordAt p word → AllOther T Count (T.starts f p) (T.starts f (suc p)) (word_words T f p word) → Kinds (T.starts f p) (word_words T f p word)
    between p word e h = let n = up_to p word e in kinds_other T Count (T.starts f p) (T.starts f (suc p)) (T.starts f p) (word_words T f p word) (omega arith) (omega arith) h

    called_kinds : (p g : ℕ) (arguments : List Operand) (result : Option ℕ) → HasWordAt p (Calls g arguments result) → Kinds (T.starts f p) (word_words T f p (Calls g arguments result))
    called_kinds p g arguments result e =
        let from : ℕ = T.starts f p in
        let to : ℕ = T.starts f (suc p) in
        between p (Calls g arguments result) e
        (append from to (call_words T f p g arguments) (back_words T f p result) (call_other from to p g arguments result e (called_below p g arguments result e) fetches here (λ q a b. (calls (record { function = f; at = p; called = g; arguments = arguments; result = result; low = lt; calls = e; from = a; to = b }), λ v k held need. stores_slot_and_calls (record { function = f; at = p; called = g; arguments = arguments; result = result; low = lt; calls = e; from = a; to = b }) v k held need))) (back_other from to p g arguments result e (results result e) here))
      where
        here : (q : ℕ) → T.starts f p ≤ q → q < T.starts f (suc p) → IsInCall T Count q
        here q a b = record { function = f; at = p; called = g; arguments = arguments; result = result; low = lt; calls = e; from = a; to = b }

        fetches : (x : Operand) → IsIn x arguments → Fetches x
        fetches x i v j = reads_need p (Calls g arguments result) e v (in_all_of value_in x v arguments i j)

        results : (r : Option ℕ) → HasWordAt p (Calls g arguments r) → (v : ℕ) → r ≡ Some v → IfSlotted v
        results None at v s = absurd (let z : None ≡ Some v = s in cc)
        results (Some u) at v s = let same : v ≡ u = cc in writes_need p (Calls g arguments (Some u)) at v (inl same)

    word_kinds : (p : ℕ) (word : VirtualWord) → HasWordAt p word → Kinds (T.starts f p) (word_words T f p word)
    word_kinds p (Planned rg wd items) e = planned_kinds p rg wd items e
    word_kinds p (Drain n) e = between p (Drain n) e (idle_other (T.starts f p) (T.starts f (suc p)) p n e)
    word_kinds p (Transfer q) e = between p (Transfer q) e (way_other (T.starts f p) (T.starts f (suc p)) (p + 1) (past T f q) (past_entrance q (by_transfer p e)))
    word_kinds p (Choice test q) e =
        let from : ℕ = T.starts f p in
        let to : ℕ = T.starts f (suc p) in
        between p (Choice test q) e
        (append from to (before T f (test ∷ [])) (one (BranchOn (branch_of T f (test ∷ []) test) true (T.starts f (past T f q))) ∷ []) (before_other from to (test ∷ []) (name_one test) (reads_need p (Choice test q) e))
        ((λ d a b. branches f (past T f q) (branch_of T f (test ∷ []) test) lt (past_entrance q (by_choice p test e))), tt))
    word_kinds p (Calls g arguments result) e = called_kinds p g arguments result e
    word_kinds p (Returns x) e = between p (Returns x) e (return_other (T.starts f p) (T.starts f (suc p)) x (reads_need p (Returns x) e) (λ q a b. record { function = f; at = p; value = x; low = lt; returns = e; from = a; to = b }))
    word_kinds p (Ends k) e = (inr (traps f p k lt e refl), tt)

    landing_word_kinds : (p : ℕ) (word : VirtualWord) → HasWordAt p word → Pieces (word_landings T f p word)
    landing_word_kinds p (Planned rg wd items) e = landings_kinds p rg wd items e items (λ x i. i)
    landing_word_kinds p (Drain n) e = tt
    landing_word_kinds p (Transfer q) e = tt
    landing_word_kinds p (Choice test q) e = tt
    landing_word_kinds p (Calls g arguments result) e = tt
    landing_word_kinds p (Returns x) e = tt
    landing_word_kinds p (Ends k) e = tt

    laid_kinds : (p : ℕ) (words : List VirtualWord) → StandFrom HasWordAt p words → Pieces (laid_pieces T f p words)
    laid_kinds p [] h = (tt, tt)
    laid_kinds p (word ∷ words) h = (word_kinds p word (stand_here HasWordAt p word words h), laid_kinds (suc p) words (stand_on HasWordAt p word words h))

    laid_landings : (p : ℕ) (words : List VirtualWord) → StandFrom HasWordAt p words → Pieces (landing_pieces T f p words)
    laid_landings p [] h = tt
    laid_landings p (word ∷ words) h = pieces_append T Count (word_landings T f p word) (landing_pieces T f (suc p) words) (landing_word_kinds p word (stand_here HasWordAt p word words h)) (laid_landings (suc p) words (stand_on HasWordAt p word words h))

    all_stand : StandFrom HasWordAt 0 (T.layout f).words
    all_stand = stand_from_start HasWordAt (T.layout f).words (λ i word e. e)

    entry_kinds : Kinds (T.entry f) (entry_words T f)
    entry_kinds =
        let n = entry_next T flow.main Count w.words carries.placed f lt in
        kinds_other T Count (T.entry f) (T.starts f 0) (T.entry f) (entry_words T f) (omega arith) (omega arith) (entry_other (T.entry f) (T.starts f 0) (λ q a b. record { function = f; low = lt; from = a; to = b }))

    function_kinds : Pieces (function_pieces T f)
    function_kinds = (entry_kinds, pieces_append T Count (laid_pieces T f 0 (T.layout f).words) (landing_pieces T f 0 (T.layout f).words) (laid_kinds 0 (T.layout f).words all_stand) (laid_landings 0 (T.layout f).words all_stand))

  functions_kinds : (f n : ℕ) → f + n ≤ Count → Pieces (functions_pieces T f n)
  functions_kinds f zero h = tt
  functions_kinds f (suc n) h = pieces_append T Count (function_pieces T f) (functions_pieces T (suc f) n) (function_kinds f (omega arith)) (functions_kinds (suc f) n (omega arith))

  main_below : flow.main < Count
  main_below = get_below flow.functions flow.main sound.main.graph sound.main.is

  start_kinds : Kinds 0 (start_words T flow.main)
  start_kinds =
      let to : ℕ = length (start_words T flow.main) in
      let m = main_below in
      let first = first_entry T (0 + to) Count (record { label = Depth; words = one (EndByTrap ByDepth) ∷ [] } ∷ []) (omega arith) carries.placed.places.1 in
      kinds_other T Count 0 to 0 (start_words T flow.main) (omega arith) (omega arith) (start_other flow.main main_below 0 to (λ q a b. let c = b in let d = first in omega arith))

  all_kinds : Kinds 0 w.words
  all_kinds = subst (Kinds 0) (sym carries.placed.is) (pieces_kinds T Count 0 (all_pieces T flow.main Count) carries.placed.places
      (start_kinds, pieces_append T Count (functions_pieces T 0 Count) (record { label = Depth; words = one (EndByTrap ByDepth) ∷ [] } ∷ []) (functions_kinds 0 Count (omega arith)) ((inr (traps_depth refl), tt), tt)))

  pub word_kind : (q : ℕ) (word : Word) → WordAt w q word → IsPlannedAt T Count q ⊎ IsOther T Count q word
  word_kind q word e = let z : 0 + q ≡ q = omega arith in subst (λ n. IsPlannedAt T Count n ⊎ IsOther T Count n word) z (kind_at T Count 0 w.words q word all_kinds e)

  -- the word of a planned one stands at its place

  behind_some : (words : List Word) (q : ℕ) (xs : List Word) (x : Word) (ys : List Word) → Stands words q (xs ++ x ∷ ys) → slice_get words (q + length xs) ≡ Some x
  behind_some words q [] x ys h = let z : q + 0 ≡ q = omega arith in ap (slice_get words) z ∙ h.0
  behind_some words q (y ∷ xs) x ys h = let z : q + suc (length xs) ≡ q + 1 + length xs = omega arith in ap (slice_get words) z ∙ behind_some words (q + 1) xs x ys h.1

  pub plan_stands : (f p r i : ℕ) (items : List Laid) → f < Count → slice_get (T.layout f).words p ≡ Some (Planned r i items) → WordAt w (plan_place T f p items) (plan_word T f p items)
  plan_stands f p r i items lt e = behind_some w.words (T.starts f p) (before T f (laid_reads items)) (plan_word T f p items) (behind T f items) (word_stands T flow.main Count w.words carries.placed f p (Planned r i items) lt e)
