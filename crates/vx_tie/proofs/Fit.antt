-- Every word of a program that carries a flow is well formed and fits: planned words by their room, all others since they hold
-- one operation, or one on each cluster.
use Rattle.std.proofs.Common.{◌≡◌, ◌≢◌, ◌<◌, ◌≤◌, ◌⊎◌, inl, inr, ⊎_elim, ◌+◌, ℕ, zero, suc, ℤ, pos, neg_ℤ, Bool, true, false, ◌==◌, ◌&&◌, eqb, Option, Some, None, List, [], ◌∷◌, ◌++◌, length, map, count_by, refl, sym, ap, subst, arith}
use Rattle.std.specs.Prelude.{◌-◌, if◌then◌else◌, slice_get}
use Rattle.std.specs.List.{list_all}
use Rattle.std.specs.Cmp.Derive.{both_true}
use Rattle.std.proofs.lemmas.Bool.{ne_eqb, lt-ltb, and_parts, ltb-true}
use Rattle.std.proofs.lemmas.Bool.Decides.{nat_tests}
use Rattle.vx_base.specs.declared.arithmetic.Code.TheVariants.{Add, ToBranch}
use Rattle.vx_base.specs.declared.arithmetic.Compare.TheVariants.{Ltu, Ne}
use Rattle.vx_base.specs.declared.outcome.Trap.TheVariants.{Depth as ByDepth}
use Rattle.vx_flow.specs.declared.graph.Array.{Array}
use Rattle.vx_flow.specs.declared.graph.Bank.{Bank}
use Rattle.vx_flow.specs.declared.graph.Bank.TheVariants.{General as GeneralBank, Branch as BranchBank}
use Rattle.vx_flow.specs.declared.graph.Exit.TheVariants.{Split as Branches, Call as Calling, Return as Returning}
use Rattle.vx_flow.specs.declared.graph.Flow.{Flow}
use Rattle.vx_flow.specs.declared.graph.Operand.{Operand}
use Rattle.vx_flow.specs.declared.graph.Operand.TheVariants.{Held as HeldValue, Number as AsNumber, Stack}
use Rattle.vx_flow.specs.declared.graph.Op.{Op}
use Rattle.vx_flow.specs.Effects.{IsIn, value_in}
use Rattle.vx_flow.specs.Sound.{Has, Sound, SoundFlow, is_sound_flow}
use Rattle.vx_flow.proofs.Members.{in_left, in_right}
use Rattle.vx_flow.proofs.SoundFlowLaw.{told}
use Rattle.vx_flow.proofs.SoundLists.{all_in}
use Rattle.vx_isa.specs.declared.operation.GeneralRegister.{GeneralRegister}
use Rattle.vx_isa.specs.declared.operation.Register.{Register}
use Rattle.vx_isa.specs.declared.operation.Register.TheVariants.{General as InGeneral, Branch as InBranch}
use Rattle.vx_isa.specs.declared.operation.Source.TheVariants.{Held, Number}
use Rattle.vx_isa.specs.declared.operation.Operation.{Operation}
use Rattle.vx_isa.specs.declared.operation.Operation.TheVariants.{Compute, Move, Select, Load, Store, Goto, BranchOn, Call, Return, FromLink, ToLink, EndByTrap, Halt}
use Rattle.vx_isa.specs.declared.program.Word.{Word}
use Rattle.vx_isa.specs.declared.program.WordProgram.{WordProgram}
use Rattle.vx_isa.specs.Numbers.{Numbers}
use Rattle.vx_isa.specs.Fits.{is_in_file, is_twice, keeps_to_cluster, destinations, fits, takes_read_port}
use Rattle.vx_isa.specs.Operations.{latency_of}
use Rattle.vx_isa.proofs.FitsLaw.{six_parts}
use Rattle.vx_room.specs.Items.{latency_of_op}
use Rattle.vx_room.specs.Needs.{FitsByRoom}
use Rattle.vx_room.specs.Room.{stands_well}
use Rattle.vx_mixed.specs.declared.layout.Laid.{Laid}
use Rattle.vx_mixed.specs.declared.layout.Laid.TheVariants.{Plain, Split}
use Rattle.vx_mixed.specs.declared.layout.VirtualWord.{VirtualWord}
use Rattle.vx_mixed.specs.declared.layout.VirtualWord.TheVariants.{Planned, Drain, Transfer, Choice, Call as Calls, Return as Returns, Ends}
use Rattle.vx_mixed.specs.declared.layout.VWords.{VWords}
use Rattle.vx_mixed.specs.LaidSettled.{bank_in, laid_reads, laid_writes, Plans}
use Rattle.vx_regs.specs.Intervals.{IsBusy, is_live, is_named, word_reads, word_writes}
use Rattle.vx_target.specs.Target.{Target, answer, general, general_of, branch_of, stack_on, home, holds_branch, is_branch, is_slotted, kept, slotted, parameters_of, one, together, waits, pause, in_flight, settled, on_clusters, stack_steps, leave_or_lower, set_stack, slots_in_flight, load_slot, store_slot, load_slots, store_slots, if_some, once, before, behind, plan_ops, plan_word, plan_words, past, landing_words, move_stack, save_words, reload_words, fetch_words, fetched, cluster_of_operand, passes, calls_beside, store_or_call, argument_words, result_words, call_words, back_words, is_caller, answer_words, last_beside, leave_words, return_words, follows, way, link_words, begin_words, wanted, entry_words, turns, idle_words, word_words, start_words, bytes, first_frame}
use Rattle.vx_target.specs.Placed.{Depth, Labelled, laid_pieces, landing_of, item_landings, word_landings, landing_pieces, function_pieces, functions_pieces, all_pieces, words_of}
use Rattle.vx_target.specs.Carried.{Carries, IsFunctionOf, IsMapped, item_of_laid, WordsFit}
use Rattle.vx_tie.specs.Fitted.{FitLaw}
use Rattle.vx_target.proofs.Beside.{beside}
use Rattle.vx_target.proofs.FromPlace.{StandFrom, stand_here, stand_on, stand_from_start}
use Rattle.vx_target.proofs.Frames.{get_some, get_in}
use Rattle.vx_target.proofs.FromGraph.{whole_bank, has_whole, op_proper, test_proper}
use Rattle.vx_target.proofs.Proper.{ProperItems}
use Rattle.vx_target.proofs.Names.{Few}
use Rattle.vx_target.proofs.Live.{reads_bank, writes_bank, live_bank}
use Rattle.vx_target.proofs.Enough.{few_reads, few_writes, named_busy, in_all_of, in_map}
use Rattle.vx_target.proofs.Once.{once_in}
use Rattle.vx_target.proofs.Word.{slotted_from}
use Rattle.vx_target.proofs.Limits.{Limits, limits}
use Rattle.vx_tie.proofs.Limits.{Good, well, good_behind, keeps_alone, empty_good, one_good, spread_good, count_single, count_none}
use Rattle.vx_tie.proofs.Filed.{few_single, few_kept, general_filed, branch_filed}
use Rattle.vx_tie.proofs.PlanFits.{plan_good}

abbrev Any : ℕ → Type 0
Any a = Unit {0}

eqb_self : (n : ℕ) → eqb n n ≡ true
eqb_self n = grind (arith, nat_tests)

module _ (m : Numbers) where
  abbrev pub GoodWords : List Word → Type 0
  GoodWords [] = Unit {0}
  GoodWords (w ∷ ws) = Good m w.ops × GoodWords ws

  pub good_append : (xs ys : List Word) → GoodWords xs → GoodWords ys → GoodWords (xs ++ ys)
  good_append [] ys a b = b
  good_append (x ∷ xs) ys a b = (a.0, good_append xs ys a.1 b)

  pub good_at : (ws : List Word) (p : ℕ) (w : Word) → GoodWords ws → slice_get ws p ≡ Some w → Good m w.ops
  good_at [] p w g e = absurd (cc)
  good_at (x ∷ ws) zero w g e = let s : x ≡ w = cc in subst (λ y. Good m y.ops) s g.0
  good_at (x ∷ ws) (suc p) w g e = good_at ws p w g.1 e

  abbrev GoodPieces : List Labelled → Type 0
  GoodPieces [] = Unit {0}
  GoodPieces (x ∷ xs) = GoodWords x.words × GoodPieces xs

  pieces_append : (xs ys : List Labelled) → GoodPieces xs → GoodPieces ys → GoodPieces (xs ++ ys)
  pieces_append [] ys a b = b
  pieces_append (x ∷ xs) ys a b = (a.0, pieces_append xs ys a.1 b)

  pieces_words : (xs : List Labelled) → GoodPieces xs → GoodWords (words_of xs)
  pieces_words [] a = tt
  pieces_words (x ∷ xs) a = good_append x.words (words_of xs) a.0 (pieces_words xs a.1)

  some_good : (vs : List ℕ) (ws : List Word) → GoodWords ws → GoodWords (if_some vs ws)
  some_good [] ws g = tt
  some_good (v ∷ vs) ws g = g

module _ (T : Target) (flow : Flow) (ls : List VWords) (w : WordProgram) (sound : SoundFlow flow) (carries : Carries T flow ls w) (by_room : FitsByRoom) where
  abbrev M : Numbers
  M = T.machine

  l : Limits M
  l = limits M carries.machine

  abbrev Words : List Word → Type 0
  Words ws = GoodWords M ws

  abbrev InFile : Register → Type 0
  InFile r = is_in_file M r ≡ true

  own : (k n : ℕ) → n < 11 → k < M.clusters → InFile (InGeneral (general k n))
  own k n lt below = both_true (lt-ltb k M.clusters below) (lt-ltb n M.registers (let a = l.registers in omega arith))

  first : 0 < M.clusters
  first = let a = l.clusters in omega arith

  first_branch : InFile (InBranch (record { cluster = 0; number = 0 }))
  first_branch = both_true (lt-ltb 0 M.clusters first) (lt-ltb 0 M.branch_registers (let a = l.branches in omega arith))

  wait_good : (n : ℕ) → Words (waits n ∷ [])
  wait_good n = (empty_good M carries.machine l, tt)

  idle : Good M []
  idle = empty_good M carries.machine l

  pause_good : (n : ℕ) → Words (pause n)
  pause_good zero = tt
  pause_good (suc n) = wait_good (suc n)

  settled_good : (ws : List Word) → Words ws → Words (settled T ws)
  settled_good ws h = let n = in_flight M 0 ws in good_append M ws (pause n) h (pause_good n)

  -- a word of one operation, a pause, and what follows
  one_settled : (op : Operation) (ws : List Word) → Good M (op ∷ []) → Words ws → Words (settled T (one op ∷ []) ++ ws)
  one_settled op ws g h = good_append M (settled T (one op ∷ [])) ws (settled_good (one op ∷ []) (g, tt)) h

  load_good : (to : GeneralRegister) (o : ℤ) → to.cluster < M.clusters → InFile (InGeneral to) → Good M (Load to.cluster to o (stack_on to.cluster) false ∷ [])
  load_good to o lt h = one_good M carries.machine l (Load to.cluster to o (stack_on to.cluster) false) lt (both_true (eqb_self to.cluster) (both_true (eqb_self to.cluster) refl)) (both_true (own to.cluster 1 (omega arith) lt) refl) (both_true h refl)

  store_good : (from : GeneralRegister) (o : ℤ) → from.cluster < M.clusters → InFile (InGeneral from) → Good M (Store from.cluster o (stack_on from.cluster) (Held from) ∷ [])
  store_good from o lt h = one_good M carries.machine l (Store from.cluster o (stack_on from.cluster) (Held from)) lt (both_true (eqb_self from.cluster) (both_true (eqb_self from.cluster) refl)) (both_true (own from.cluster 1 (omega arith) lt) (both_true h refl)) refl

  store_number : (o z : ℤ) → Good M (Store 0 o (stack_on 0) (Number z) ∷ [])
  store_number o z = one_good M carries.machine l (Store 0 o (stack_on 0) (Number z)) first refl (both_true (own 0 1 (omega arith) first) refl) refl

  goto_good : (q : ℕ) → Good M (Goto q ∷ [])
  goto_good q = one_good M carries.machine l (Goto q) first refl refl refl

  -- slots

  abbrev Named : ℕ → List ℕ → ℕ → Type 0
  Named f names v = (holds_branch T f v ≡ true → InFile (InBranch (record { cluster = 0; number = branch_of T f names v }))) × (holds_branch T f v ≡ false → InFile (InGeneral (general_of T f names v))) × (home T f v < M.clusters)

  load_slot_good : (f up v : ℕ) (names : List ℕ) → Named f names v → Words (load_slot T f up v (general_of T f names v) (branch_of T f names v))
  load_slot_good f up v names h = by (holds_branch T f v) refl
    where
      by : (b : Bool) → holds_branch T f v ≡ b → Words (if b
          then settled T (one (Load 0 answer (bytes (up + T.slot f v)) (stack_on 0) false) ∷ []) ++ one (Compute 0 (ToBranch Ne) (InBranch (record { cluster = 0; number = branch_of T f names v })) (Held answer) (Number (pos 0))) ∷ []
          else one (Load (home T f v) (general_of T f names v) (bytes (up + T.slot f v)) (stack_on (home T f v)) false) ∷ [])
      by true e =
          let test : Operation = Compute 0 (ToBranch Ne) (InBranch (record { cluster = 0; number = branch_of T f names v })) (Held answer) (Number (pos 0)) in
          one_settled (Load 0 answer (bytes (up + T.slot f v)) (stack_on 0) false) (one test ∷ []) (load_good answer (bytes (up + T.slot f v)) first (own 0 2 (omega arith) first))
          (one_good M carries.machine l test first refl (both_true (own 0 2 (omega arith) first) refl) (both_true (h.0 e) refl), tt)
      by false e = (load_good (general_of T f names v) (bytes (up + T.slot f v)) h.2 (h.1 e), tt)

  store_slot_good : (f v : ℕ) (names : List ℕ) → Named f names v → Words (store_slot T f v (general_of T f names v) (branch_of T f names v))
  store_slot_good f v names h = by (holds_branch T f v) refl
    where
      by : (b : Bool) → holds_branch T f v ≡ b → Words (if b
          then settled T (one (Select 0 answer (record { cluster = 0; number = branch_of T f names v }) (Number (pos 1)) (Number (pos 0))) ∷ []) ++ one (Store 0 (bytes (T.slot f v)) (stack_on 0) (Held answer)) ∷ []
          else one (Store (home T f v) (bytes (T.slot f v)) (stack_on (home T f v)) (Held (general_of T f names v))) ∷ [])
      by true e =
          let pick : Operation = Select 0 answer (record { cluster = 0; number = branch_of T f names v }) (Number (pos 1)) (Number (pos 0)) in
          one_settled pick (one (Store 0 (bytes (T.slot f v)) (stack_on 0) (Held answer)) ∷ []) (one_good M carries.machine l pick first refl (both_true (h.0 e) refl) (both_true (own 0 2 (omega arith) first) refl))
          (store_good answer (bytes (T.slot f v)) first (own 0 2 (omega arith) first), tt)
      by false e = (store_good (general_of T f names v) (bytes (T.slot f v)) h.2 (h.1 e), tt)

  load_slots_good : (f : ℕ) (names vs : List ℕ) → ((v : ℕ) → IsIn v vs → Named f names v) → Words (load_slots T f names vs)
  load_slots_good f names [] h = tt
  load_slots_good f names (v ∷ vs) h = good_append M (load_slot T f 0 v (general_of T f names v) (branch_of T f names v)) (load_slots T f names vs) (load_slot_good f 0 v names (h v (inl refl))) (load_slots_good f names vs (λ x i. h x (inr i)))

  store_slots_good : (f : ℕ) (names vs : List ℕ) → ((v : ℕ) → IsIn v vs → Named f names v) → Words (store_slots T f names vs)
  store_slots_good f names [] h = tt
  store_slots_good f names (v ∷ vs) h = good_append M (store_slot T f v (general_of T f names v) (branch_of T f names v)) (store_slots T f names vs) (store_slot_good f v names (h v (inl refl))) (store_slots_good f names vs (λ x i. h x (inr i)))

  before_good : (f : ℕ) (names : List ℕ) → ((v : ℕ) → IsIn v names → Named f names v) → Words (before T f names)
  before_good f names h = some_good M (slotted T f names) (settled T (load_slots T f names (once (slotted T f names)))) (settled_good (load_slots T f names (once (slotted T f names))) (load_slots_good f names (once (slotted T f names)) (λ v i. h v (slotted_from T f v names (once_in v (slotted T f names) i)).0)))

  behind_good : (f : ℕ) (items : List Laid) → ((v : ℕ) → IsIn v (laid_writes items) → Named f (laid_writes items) v) → Words (behind T f items)
  behind_good f items h =
      let ws = laid_writes items in
      some_good M (slotted T f ws) (pause (slots_in_flight T f items) ++ store_slots T f ws (slotted T f ws))
      (good_append M (pause (slots_in_flight T f items)) (store_slots T f ws (slotted T f ws)) (pause_good (slots_in_flight T f items)) (store_slots_good f ws (slotted T f ws) (λ v i. h v (slotted_from T f v ws i).0)))

  -- an operation on each cluster

  off_port : (k i n : ℕ) → i ≢ k → count_by (takes_read_port k) (InGeneral (stack_on i) ∷ []) ≡ 0
  off_port k i n ne = count_none (takes_read_port k) (InGeneral (stack_on i)) (ap (λ b. b && true && true) (ne_eqb i k ne))

  steps_good : (z : ℤ) → Good M (stack_steps T z)
  steps_good z = spread_good (λ k. Compute k Add (InGeneral (stack_on k)) (Held (stack_on k)) (Number z)) (λ k. refl) M carries.machine l (λ k. refl) (λ k i ne. off_port k i 0 ne)
      (λ k. both_true (eqb_self k) (both_true (eqb_self k) refl)) (λ k. refl) (λ k. refl) (λ k. refl) (λ k i. count_single (takes_read_port k) (InGeneral (stack_on i))) (λ k lt. both_true (own k 1 (omega arith) lt) refl)

  move_stack_good : (z : ℤ) → Words (move_stack T z)
  move_stack_good z = settled_good (record { ops = stack_steps T z; idle = 0 } ∷ []) (steps_good z, tt)

  lower_good : Words (leave_or_lower T)
  lower_good = by ((T.machine.latency_alu == 1) && fits M Beside) refl
    where
      Beside : List Operation
      Beside = BranchOn 0 true T.depth_trap ∷ stack_steps T (neg_ℤ (bytes T.frame))

      by : (b : Bool) → ((T.machine.latency_alu == 1) && fits M Beside) ≡ b → Words (if b then record { ops = Beside; idle = 0 } ∷ [] else one (BranchOn 0 true T.depth_trap) ∷ move_stack T (neg_ℤ (bytes T.frame)))
      by true e = (good_behind M (BranchOn 0 true T.depth_trap) (stack_steps T (neg_ℤ (bytes T.frame))) refl refl (steps_good (neg_ℤ (bytes T.frame))) (and_parts _ _ e).1, tt)
      by false e = (one_good M carries.machine l (BranchOn 0 true T.depth_trap) first refl (both_true first_branch refl) refl, move_stack_good (neg_ℤ (bytes T.frame)))

  start_good : (main : ℕ) → Words (start_words T main)
  start_good main = good_append M (set_stack T) (one (Call (T.entry main)) ∷ one (Halt (Held answer)) ∷ []) (settled_good (record { ops = on_clusters M.clusters (λ k. Move k (stack_on k) (Number (bytes (first_frame T)))); idle = 0 } ∷ []) (
    spread_good (λ k. Move k (stack_on k) (Number (bytes (first_frame T)))) (λ k. refl) M carries.machine l (λ k. refl) (λ k i ne. refl)
        (λ k. eqb_self k) (λ k. refl) (λ k. refl) (λ k. refl) (λ k i. (let q : count_by (takes_read_port k) [] ≡ 0 = refl in omega arith)) (λ k lt. refl),
    tt,
  )) (one_good M carries.machine l (Call (T.entry main)) first refl refl refl, (one_good M carries.machine l (Halt (Held answer)) first refl (both_true (own 0 2 (omega arith) first) refl) refl, tt))

  -- functions

  module _ (f : ℕ) (lt : f < length flow.functions) where
    of : IsFunctionOf T flow ls f
    of = carries.functions f lt

    mapped : IsMapped T f
    mapped = of.mapped

    graph_sound : Sound (T.graph f)
    graph_sound = sound.graphs (T.graph f) (get_in flow.functions f (T.graph f) of.is.graph)

    abbrev Banked : ℕ → Type 0
    Banked v = (b : Bank) × (bank_in (T.layout f) v ≡ Some b)

    abbrev Busy : ℕ → ℕ → Type 0
    Busy p v = IsBusy (latency_of_op M) (T.layout f) p v

    named : (names : List ℕ) (v p : ℕ) → Few T f mapped names → IsIn v names → Banked v → Busy p v → Named f names v
    named names v p few i bank busy = ((λ e. branch_filed T f mapped l names v few i bank e), (λ e. general_filed T f mapped l names v few i bank (mapped.homes p v busy) e), mapped.homes p v busy)

    named_one : (v p : ℕ) → Banked v → Busy p v → Named f (v ∷ []) v
    named_one v p bank busy = named (v ∷ []) v p (few_single T f mapped l v) (inl refl) bank busy

    bank_is : (v : ℕ) (b : Bank) → Has (T.graph f) v b → bank_in (T.layout f) v ≡ Some b
    bank_is v b h = whole_bank T f Any graph_sound mapped.code v b (has_whole T f Any graph_sound mapped.code (λ a z. tt) v b h)

    general_value : (v : ℕ) → Has (T.graph f) v GeneralBank → holds_branch T f v ≡ false
    general_value v h = ap is_branch (bank_is v GeneralBank h)

    -- values that are saved and reloaded

    kept_named : (vs : List ℕ) → ((v : ℕ) → IsIn v vs → (p : ℕ) × Busy p v × Banked v × (is_slotted (kept T f v) ≡ false)) → (v : ℕ) → IsIn v vs → Named f vs v
    kept_named vs h v i = let a = h v i in named vs v a.0 (few_kept T f mapped l vs (λ u j. (h u j).3)) i a.2 a.1

    save_good : (vs : List ℕ) → ((v : ℕ) → IsIn v vs → Named f vs v) → Words (save_words T f vs)
    save_good vs h = store_slots_good f vs vs h

    reload_good : (q : ℕ) (vs : List ℕ) → ((v : ℕ) → IsIn v vs → Named f vs v) → Words (reload_words T f q vs)
    reload_good q vs h = let loads : List Word = load_slots T f vs vs in good_append M loads (pause (wanted T f None q vs loads)) (load_slots_good f vs vs h) (pause_good (wanted T f None q vs loads))

    -- operands of calls and returns

    abbrev Fetches : Operand → Type 0
    Fetches (HeldValue v) = Named f (v ∷ []) v × (holds_branch T f v ≡ false)
    Fetches (AsNumber n) = Unit {0}
    Fetches Stack = Unit {0}

    fetch_good : (up : ℕ) (x : Operand) → Fetches x → Words (fetch_words T f up x)
    fetch_good up (HeldValue v) h = by (is_slotted (kept T f v))
      where
        by : (b : Bool) → Words (if b then settled T (load_slot T f up v (general_of T f (v ∷ []) v) (branch_of T f (v ∷ []) v)) else [])
        by true = settled_good (load_slot T f up v (general_of T f (v ∷ []) v) (branch_of T f (v ∷ []) v)) (load_slot_good f up v (v ∷ []) h.0)
        by false = tt
    fetch_good up (AsNumber n) h = tt
    fetch_good up Stack h = tt

    pass_good : (o : ℤ) (x : Operand) → Fetches x → Good M (Store (cluster_of_operand T f x) o (stack_on (cluster_of_operand T f x)) (fetched T f x) ∷ [])
    pass_good o (HeldValue v) h = store_good (general_of T f (v ∷ []) v) o h.0.2 (h.0.1 h.1)
    pass_good o (AsNumber n) h = store_number o n
    pass_good o Stack h = store_number o (pos 0)

    jump_good : (g : ℕ) → Good M (Call (T.entry g) ∷ [])
    jump_good g = one_good M carries.machine l (Call (T.entry g)) first refl refl refl

    arguments_good : (g : ℕ) (vs : List ℕ) (xs : List Operand) → ((x : Operand) → IsIn x xs → Fetches x) → Words (argument_words T f g vs xs)
    arguments_good g [] xs h = (jump_good g, tt)
    arguments_good g (v ∷ vs) [] h = (jump_good g, tt)
    arguments_good g (v ∷ vs) (x ∷ xs) h =
        good_append M (fetch_words T f T.frame x) (store_or_call T g vs (passes T f g v x) (argument_words T f g vs xs)) (fetch_good T.frame x (h x (inl refl)))
        (by (calls_beside T g vs (passes T f g v x)) refl (arguments_good g vs xs (λ y i. h y (inr i))))
      where
        put : Good M (passes T f g v x ∷ [])
        put = pass_good (bytes (T.slot g v)) x (h x (inl refl))

        by : (b : Bool) → calls_beside T g vs (passes T f g v x) ≡ b → Words (argument_words T f g vs xs) → Words (if b then record { ops = passes T f g v x ∷ Call (T.entry g) ∷ []; idle = 0 } ∷ [] else one (passes T f g v x) ∷ argument_words T f g vs xs)
        by true e r = (well M (passes T f g v x ∷ Call (T.entry g) ∷ []) refl (ap (λ b. b && true) (keeps_alone M (passes T f g v x) put)) (and_parts _ _ e).1, tt)
        by false e r = (put, r)

    result_good : (result : Option ℕ) → ((v : ℕ) → result ≡ Some v → Named f (v ∷ []) v × (holds_branch T f v ≡ false)) → Words (result_words T f result)
    result_good None h = tt
    result_good (Some v) h = by (is_slotted (kept T f v))
      where
        by : (b : Bool) → Words (if b then one (Store 0 (bytes (T.slot f v)) (stack_on 0) (Held answer)) ∷ [] else settled T (one (Move (home T f v) (general_of T f (v ∷ []) v) (Held answer)) ∷ []))
        by true = (store_good answer (bytes (T.slot f v)) first (own 0 2 (omega arith) first), tt)
        by false = let a = h v refl in settled_good (one (Move (home T f v) (general_of T f (v ∷ []) v) (Held answer)) ∷ []) (one_good M carries.machine l (Move (home T f v) (general_of T f (v ∷ []) v) (Held answer)) a.0.2 (eqb_self (home T f v)) (both_true (own 0 2 (omega arith) first) refl) (both_true (a.0.1 a.1) refl), tt)

    move_answer : (x : Operand) → Fetches x → Good M (Move 0 answer (fetched T f x) ∷ [])
    move_answer (HeldValue v) h = one_good M carries.machine l (Move 0 answer (Held (general_of T f (v ∷ []) v))) first refl (both_true (h.0.1 h.1) refl) (both_true (own 0 2 (omega arith) first) refl)
    move_answer (AsNumber n) h = one_good M carries.machine l (Move 0 answer (Number n)) first refl refl (both_true (own 0 2 (omega arith) first) refl)
    move_answer Stack h = one_good M carries.machine l (Move 0 answer (Number (pos 0))) first refl refl (both_true (own 0 2 (omega arith) first) refl)

    call_good : (p g : ℕ) (xs : List Operand) → ((v : ℕ) → IsIn v (T.saved f p) → Named f (T.saved f p) v) → ((x : Operand) → IsIn x xs → Fetches x) → Words (call_words T f p g xs)
    call_good p g xs saved h =
        let test : Operation = Compute 0 (ToBranch Ltu) (InBranch (record { cluster = 0; number = 0 })) (Held (stack_on 0)) (Number (bytes (T.globals + T.frame))) in
        let passed : List Word = argument_words T f g (parameters_of T g) xs in
        let lowered : Words (leave_or_lower T ++ passed) = good_append M (leave_or_lower T) passed lower_good (arguments_good g (parameters_of T g) xs h) in
        let saves : List Word = save_words T f (T.saved f p) in
        good_append M (settled T (one test ∷ saves)) (leave_or_lower T ++ passed)
        (settled_good (one test ∷ saves) (one_good M carries.machine l test first refl (both_true (own 0 1 (omega arith) first) refl) (both_true first_branch refl), save_good (T.saved f p) saved)) lowered

    back_good : (p : ℕ) (result : Option ℕ) → ((v : ℕ) → IsIn v (T.saved f p) → Named f (T.saved f p) v) → ((v : ℕ) → result ≡ Some v → Named f (v ∷ []) v × (holds_branch T f v ≡ false)) → Words (back_words T f p result)
    back_good p result saved h =
        good_append M (move_stack T (bytes T.frame)) (result_words T f result ++ reload_words T f (p + 1) (T.saved f p)) (move_stack_good (bytes T.frame))
        (good_append M (result_words T f result) (reload_words T f (p + 1) (T.saved f p)) (result_good result h) (reload_good (p + 1) (T.saved f p) saved))

    together_good : (a b : Operation) → is_twice (destinations (a ∷ b ∷ [])) ≡ false → list_all keeps_to_cluster (a ∷ b ∷ []) ≡ true → Good M (a ∷ []) → Good M (b ∷ []) → Words (together M a b)
    together_good a b once keeps ga gb = by (fits M (a ∷ b ∷ [])) refl
      where
        by : (c : Bool) → fits M (a ∷ b ∷ []) ≡ c → Words (if c then record { ops = a ∷ b ∷ []; idle = 0 } ∷ [] else one a ∷ one b ∷ [])
        by true e = (well M (a ∷ b ∷ []) once keeps e, tt)
        by false e = (ga, (gb, tt))

    answer_good : (x : Operand) → Fetches x → Words (answer_words T f x)
    answer_good x h =
        let link : Operation = ToLink (Held (general 0 3)) in
        let loads : List Word = together T.machine (Move 0 answer (fetched T f x)) (Load 0 (general 0 3) (pos 0) (stack_on 0) false) in
        good_append M (settled T loads) (settled T (one link ∷ [])) (settled_good loads (together_good (Move 0 answer (fetched T f x)) (Load 0 (general 0 3) (pos 0) (stack_on 0) false) refl refl (move_answer x h) (load_good (general 0 3) (pos 0) first (own 0 3 (omega arith) first))))
        (settled_good (one link ∷ []) (one_good M carries.machine l link first refl (both_true (own 0 3 (omega arith) first) refl) refl, tt))

    last_good : Words (one Return ∷ [])
    last_good = (one_good M carries.machine l Return first refl refl refl, tt)

    beside_good : (x : Operand) → Fetches x → Words (last_beside T (Move 0 answer (fetched T f x)) Return)
    beside_good x h = by ((latency_of T.machine (Move 0 answer (fetched T f x)) == 1) && fits T.machine (Move 0 answer (fetched T f x) ∷ Return ∷ [])) refl
      where
        by : (b : Bool) → ((latency_of T.machine (Move 0 answer (fetched T f x)) == 1) && fits T.machine (Move 0 answer (fetched T f x) ∷ Return ∷ [])) ≡ b → Words (if b then record { ops = Move 0 answer (fetched T f x) ∷ Return ∷ []; idle = 0 } ∷ [] else settled T (one (Move 0 answer (fetched T f x)) ∷ []) ++ one Return ∷ [])
        by true e = (well M (Move 0 answer (fetched T f x) ∷ Return ∷ []) refl refl (and_parts _ _ e).1, tt)
        by false e = good_append M (settled T (one (Move 0 answer (fetched T f x)) ∷ [])) (one Return ∷ []) (settled_good (one (Move 0 answer (fetched T f x)) ∷ []) (move_answer x h, tt)) last_good

    leave_good : (x : Operand) → Fetches x → Words (leave_words T f x)
    leave_good x h = by (is_caller T f)
      where
        by : (b : Bool) → Words (if b then answer_words T f x ++ one Return ∷ [] else last_beside T (Move 0 answer (fetched T f x)) Return)
        by true = good_append M (answer_words T f x) (one Return ∷ []) (answer_good x h) last_good
        by false = beside_good x h

    return_good : (x : Operand) → Fetches x → Words (return_words T f x)
    return_good x h = good_append M (fetch_words T f 0 x) (leave_words T f x) (fetch_good 0 x h) (leave_good x h)

    way_good : (next q : ℕ) → Words (way T f next q)
    way_good next q = by (follows T f next q)
      where
        by : (b : Bool) → Words (if b then [] else one (Goto (T.starts f q)) ∷ [])
        by true = tt
        by false = (goto_good (T.starts f q), tt)

    link_good : Words (link_words T f)
    link_good = by (is_caller T f)
      where
        by : (b : Bool) → Words (if b then settled T (one (FromLink (general 0 3)) ∷ []) ++ one (Store 0 (pos 0) (stack_on 0) (Held (general 0 3))) ∷ [] else [])
        by true =
            let link : Operation = FromLink (general 0 3) in
            let keep : List Word = one (Store 0 (pos 0) (stack_on 0) (Held (general 0 3))) ∷ [] in
            one_settled link keep (one_good M carries.machine l link first refl refl (both_true (own 0 3 (omega arith) first) refl)) (store_good (general 0 3) (pos 0) first (own 0 3 (omega arith) first), tt)
        by false = tt

    entry_good : Words (entry_words T f)
    entry_good =
        let goes : List Word = way T f 0 (past T f (T.layout f).entry) in
        let loads : List Word = load_slots T f (T.brought f) (T.brought f) in
        let begins : List Word = begin_words T f in
        let waits_on : ℕ = wanted T f (Some 0) (past T f (T.layout f).entry) (T.brought f) begins in
        good_append M (begins ++ pause waits_on) goes (good_append M begins (pause waits_on) (good_append M loads (link_words T f) (load_slots_good f (T.brought f) (T.brought f) (kept_named (T.brought f) arrives)) link_good) (pause_good waits_on)) (way_good 0 (past T f (T.layout f).entry))
      where
        arrives : (v : ℕ) → IsIn v (T.brought f) → (p : ℕ) × Busy p v × Banked v × (is_slotted (kept T f v) ≡ false)
        arrives v i = let a = of.saved.brought v i in ((T.layout f).entry, is_live a.live, live_bank T f mapped graph_sound (T.layout f).entry v a.live, ap is_slotted a.register)

    -- words of a layout

    abbrev HasWordAt : ℕ → VirtualWord → Type 0
    HasWordAt p word = slice_get (T.layout f).words p ≡ Some word

    module _ (p rg wd : ℕ) (items : List Laid) (plan : HasWordAt p (Planned rg wd items)) where
      plans : Plans (T.layout f) p items
      plans = (rg, wd, plan)

      abbrev IsArray : ℕ → Type 0
      IsArray a = (array : Array) × (slice_get (T.graph f).arrays a ≡ Some array)

      arrays : (a : ℕ) → a < length (T.graph f).arrays → IsArray a
      arrays a below = get_some (T.graph f).arrays a below

      cluster_below : (op : Op) (k : ℕ) → IsIn (Plain op k) items → k < M.clusters
      cluster_below op k i =
          let room = six_parts _ _ _ _ _ _ (mapped.settled.fits p items plans) in
          let well = all_in (stands_well M) (map item_of_laid items) (item_of_laid (Plain op k)) (and_parts _ _ room.two).0 (in_map item_of_laid (Plain op k) items i) in
          ltb-true k M.clusters (and_parts _ _ well).0

      proper_items : (xs : List Laid) → ((x : Laid) → IsIn x xs → IsIn x items) → ProperItems T f IsArray xs
      proper_items [] h = tt
      proper_items (Plain op k ∷ xs) h = (op_proper T f IsArray graph_sound mapped.code arrays op k (cluster_below op k (h (Plain op k) (inl refl))) (mapped.code.ops p k op items plans (h (Plain op k) (inl refl))), proper_items xs (λ x i. h x (inr i)))
      proper_items (Split test y q ∷ xs) h =
          let parts = mapped.code.splits p test q y items plans (h (Split test y q) (inl refl)) in
          (test_proper T f IsArray graph_sound mapped.code arrays test parts.yes parts.no parts.has, proper_items xs (λ x i. h x (inr i)))

      proper : ProperItems T f IsArray items
      proper = proper_items items (λ x i. i)

      banks : (v : ℕ) → IsIn v (laid_reads items) ⊎ IsIn v (laid_writes items) → Banked v
      banks v i = ⊎_elim (reads_bank T f mapped graph_sound p items plans v) (writes_bank T f mapped graph_sound p items plans v) i

      busy : (v : ℕ) → IsIn v (laid_reads items) ⊎ IsIn v (laid_writes items) → Busy p v
      busy v i = named_busy T f mapped graph_sound IsArray p items plans proper banks v i

      read_named : (v : ℕ) → IsIn v (laid_reads items) → Named f (laid_reads items) v
      read_named v i = named (laid_reads items) v p (few_reads T f mapped graph_sound IsArray p items plans proper banks) i (banks v (inl i)) (busy v (inl i))

      write_named : (v : ℕ) → IsIn v (laid_writes items) → Named f (laid_writes items) v
      write_named v i = named (laid_writes items) v p (few_writes T f mapped graph_sound IsArray p items plans proper banks) i (banks v (inr i)) (busy v (inr i))

      planned_good : Words (plan_words T f p items)
      planned_good = good_append M (before T f (laid_reads items)) (plan_word T f p items ∷ behind T f items) (before_good f (laid_reads items) read_named)
          (plan_good T f mapped graph_sound IsArray p items plans proper banks l by_room (plan_ops T f p items) (beside T f p items), behind_good f items write_named)

      landing_good : (q : ℕ) → Words (landing_words T f items q)
      landing_good q = good_append M (behind T f items) (one (Goto (T.starts f (past T f q))) ∷ []) (behind_good f items write_named) (goto_good (T.starts f (past T f q)), tt)

      landing_of_good : (xs : List ℕ) (q : ℕ) → GoodPieces M (landing_of T f p items xs q)
      landing_of_good [] q = tt
      landing_of_good (v ∷ vs) q = (landing_good q, tt)

      landings_good : (xs : List Laid) → GoodPieces M (item_landings T f p items xs)
      landings_good [] = tt
      landings_good (Plain op k ∷ xs) = landings_good xs
      landings_good (Split test y q ∷ xs) = pieces_append M (landing_of T f p items (slotted T f (laid_writes items)) q) (item_landings T f p items xs) (landing_of_good (slotted T f (laid_writes items)) q) (landings_good xs)

    idle_good : (p n : ℕ) → Words (idle_words T f p n)
    idle_good p n = by (turns T f (p + 1))
      where
        by : (b : Bool) → Words (if b then pause (n - 1) else waits n ∷ [])
        by true = pause_good (n - 1)
        by false = wait_good n

    word_good : (p : ℕ) (word : VirtualWord) → HasWordAt p word → Words (word_words T f p word)
    word_good p (Planned rg wd items) e = planned_good p rg wd items e
    word_good p (Drain n) e = idle_good p n
    word_good p (Transfer q) e = way_good (p + 1) (past T f q)
    word_good p (Choice test q) e =
        let parts = mapped.code.choices p test q e in
        let has : Has (T.graph f) test BranchBank = graph_sound.exit_tests (Branches test parts.yes parts.no) test parts.has (inl refl) in
        let n = named_one test p (BranchBank, bank_is test BranchBank has) (is_named e (inl refl)) in
        good_append M (before T f (test ∷ [])) (one (BranchOn (branch_of T f (test ∷ []) test) true (T.starts f (past T f q))) ∷ [])
        (before_good f (test ∷ []) (λ v i. ⊎_elim (λ s. subst (λ z. Named f (test ∷ []) z) (sym s) n) (λ j. absurd j) i))
        (one_good M carries.machine l (BranchOn (branch_of T f (test ∷ []) test) true (T.starts f (past T f q))) first refl (both_true (n.0 (ap is_branch (bank_is test BranchBank has))) refl) refl, tt)
    word_good p (Calls g arguments result) e =
        good_append M (call_words T f p g arguments) (back_words T f p result) (call_good p g arguments (kept_named (T.saved f p) survives) fetches) (back_good p result (kept_named (T.saved f p) survives) has_result)
      where
        survives : (v : ℕ) → IsIn v (T.saved f p) → (q : ℕ) × Busy q v × Banked v × (is_slotted (kept T f v) ≡ false)
        survives v i = let a = of.saved.saved p g v arguments result e i in (suc p, is_live a.live, live_bank T f mapped graph_sound (suc p) v a.live, ap is_slotted a.register)

        fetches : (x : Operand) → IsIn x arguments → Fetches x
        fetches (HeldValue v) i =
            let c = mapped.code.calls p g arguments result e in
            let has : Has (T.graph f) v GeneralBank = graph_sound.exit_operands (Calling g arguments result c.next) (HeldValue v) c.has i in
            (named_one v p (GeneralBank, bank_is v GeneralBank has) (is_named e (in_left v (word_reads (Calls g arguments result)) (word_writes (Calls g arguments result)) (in_all_of value_in (HeldValue v) v arguments i (inl refl)))), general_value v has)
        fetches (AsNumber n) i = tt
        fetches Stack i = tt

        has_result : (v : ℕ) → result ≡ Some v → Named f (v ∷ []) v × (holds_branch T f v ≡ false)
        has_result v q =
            let e2 : HasWordAt p (Calls g arguments (Some v)) = subst (λ r. HasWordAt p (Calls g arguments r)) q e in
            let c = mapped.code.calls p g arguments (Some v) e2 in
            let has : Has (T.graph f) v GeneralBank = graph_sound.exit_results (Calling g arguments (Some v) c.next) v c.has (inl refl) in
            (named_one v p (GeneralBank, bank_is v GeneralBank has) (is_named e2 (in_right v (word_reads (Calls g arguments (Some v))) (v ∷ []) (inl refl))), general_value v has)
    word_good p (Returns x) e = return_good x (fetches x refl)
      where
        fetches : (y : Operand) → x ≡ y → Fetches y
        fetches (HeldValue v) q =
            let e2 : HasWordAt p (Returns (HeldValue v)) = subst (λ r. HasWordAt p (Returns r)) q e in
            let has : Has (T.graph f) v GeneralBank = graph_sound.exit_operands (Returning (HeldValue v)) (HeldValue v) (mapped.code.returns p (HeldValue v) e2) (inl refl) in
            (named_one v p (GeneralBank, bank_is v GeneralBank has) (is_named e2 (inl refl)), general_value v has)
        fetches (AsNumber n) q = tt
        fetches Stack q = tt
    word_good p (Ends k) e = (one_good M carries.machine l (EndByTrap k) first refl refl refl, tt)

    landing_word_good : (p : ℕ) (word : VirtualWord) → HasWordAt p word → GoodPieces M (word_landings T f p word)
    landing_word_good p (Planned rg wd items) e = landings_good p rg wd items e items
    landing_word_good p (Drain n) e = tt
    landing_word_good p (Transfer q) e = tt
    landing_word_good p (Choice test q) e = tt
    landing_word_good p (Calls g arguments result) e = tt
    landing_word_good p (Returns x) e = tt
    landing_word_good p (Ends k) e = tt

    laid_good : (p : ℕ) (words : List VirtualWord) → StandFrom HasWordAt p words → GoodPieces M (laid_pieces T f p words)
    laid_good p [] h = (tt, tt)
    laid_good p (word ∷ words) h = (word_good p word (stand_here HasWordAt p word words h), laid_good (suc p) words (stand_on HasWordAt p word words h))

    laid_landings : (p : ℕ) (words : List VirtualWord) → StandFrom HasWordAt p words → GoodPieces M (landing_pieces T f p words)
    laid_landings p [] h = tt
    laid_landings p (word ∷ words) h = pieces_append M (word_landings T f p word) (landing_pieces T f (suc p) words) (landing_word_good p word (stand_here HasWordAt p word words h)) (laid_landings (suc p) words (stand_on HasWordAt p word words h))

    all_stand : StandFrom HasWordAt 0 (T.layout f).words
    all_stand = stand_from_start HasWordAt (T.layout f).words (λ i word e. e)

    function_good : GoodPieces M (function_pieces T f)
    function_good = (entry_good, pieces_append M (laid_pieces T f 0 (T.layout f).words) (landing_pieces T f 0 (T.layout f).words) (laid_good 0 (T.layout f).words all_stand) (laid_landings 0 (T.layout f).words all_stand))

  functions_good : (f n : ℕ) → f + n ≤ length flow.functions → GoodPieces M (functions_pieces T f n)
  functions_good f zero h = tt
  functions_good f (suc n) h = pieces_append M (function_pieces T f) (functions_pieces T (suc f) n) (function_good f (omega arith)) (functions_good (suc f) n (omega arith))

  all_good : Words w.words
  all_good = subst Words (sym carries.placed.is) (pieces_words M (all_pieces T flow.main (length flow.functions))
      (start_good flow.main, pieces_append M (functions_pieces T 0 (length flow.functions)) (record { label = Depth; words = one (EndByTrap ByDepth) ∷ [] } ∷ []) (functions_good 0 (length flow.functions) (omega arith)) ((one_good M carries.machine l (EndByTrap ByDepth) first refl refl refl, tt), tt)))

  pub words_fit : WordsFit M w
  words_fit p word at = good_at M w.words p word all_good at

pub fit_law : FitsByRoom → FitLaw
fit_law by_room T flow ls w sound carries = words_fit T flow ls w ((told flow (is_sound_flow flow) refl).0 sound) carries by_room
