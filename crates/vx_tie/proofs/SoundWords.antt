-- The words that carry a flow are sound: short pauses, operations of their form, and places, functions and texts that are there.
use Rattle.std.proofs.Common.{◌≡◌, ◌<◌, ◌≤◌, ◌⊎◌, inl, inr, ⊎_elim, ◌+◌, ◌-◌, ◌*◌, ◌%◌, ◌==◌, ◌&&◌, ◌||◌, ℕ, zero, suc, ℤ, pos, neg_ℤ, Bool, true, false, Option, Some, None, List, [], ◌∷◌, ◌++◌, length, length-append, map, refl, sym, ap, ◌∙◌, subst, arith}
use Rattle.std.specs.Prelude.{if◌then◌else◌, slice_get}
use Rattle.std.specs.List.{list_all}
use Rattle.std.specs.Cmp.Derive.{both_true}
use Rattle.std.proofs.lemmas.Bool.{and_parts, eqb-true, le-leb, ltb-true}
use Rattle.vx_base.specs.declared.arithmetic.Code.{Code}
use Rattle.vx_base.specs.declared.arithmetic.Code.TheVariants.{Add, ToBranch}
use Rattle.vx_base.specs.declared.arithmetic.Compare.TheVariants.{Ltu, Ne}
use Rattle.vx_base.specs.declared.outcome.Trap.TheVariants.{Depth as ByDepth}
use Rattle.vx_flow.specs.declared.graph.Array.{Array}
use Rattle.vx_flow.specs.declared.graph.Flow.{Flow}
use Rattle.vx_flow.specs.declared.graph.Operand.{Operand}
use Rattle.vx_flow.specs.declared.graph.Operand.TheVariants.{Held as HeldValue, Number as AsNumber, Stack}
use Rattle.vx_flow.specs.declared.graph.Op.{Op}
use Rattle.vx_flow.specs.declared.graph.Op.TheVariants.{Compute as Computes, Place, Text, Base, PlaceIn}
use Rattle.vx_flow.specs.Effects.{IsIn, is_unary}
use Rattle.vx_flow.specs.Sound.{Sound, SoundFlow, HasOperation, is_sound_flow}
use Rattle.vx_flow.specs.Walk.{numbers}
use Rattle.vx_flow.proofs.SoundFlowLaw.{told}
use Rattle.vx_flow.proofs.SoundLists.{all_in}
use Rattle.vx_isa.specs.declared.operation.GeneralRegister.{GeneralRegister}
use Rattle.vx_isa.specs.declared.operation.Register.TheVariants.{General as InGeneral, Branch as InBranch}
use Rattle.vx_isa.specs.declared.operation.Source.TheVariants.{Held, Number}
use Rattle.vx_isa.specs.declared.operation.Operation.{Operation}
use Rattle.vx_isa.specs.declared.operation.Operation.TheVariants.{Compute, Move, Select, Load, Store, Goto, BranchOn, Call, Return, FromLink, ToLink, EndByTrap, Halt}
use Rattle.vx_isa.specs.declared.program.Word.{Word}
use Rattle.vx_isa.specs.declared.program.WordProgram.{WordProgram}
use Rattle.vx_isa.specs.Fits.{fits}
use Rattle.vx_isa.specs.Operations.{latency_of}
use Rattle.vx_isa.specs.Sound.{is_start, is_version, is_sound, is_sound_word}
use Rattle.vx_isa.proofs.FitsLaw.{six_parts}
use Rattle.vx_isa.proofs.Ranges.{ranges}
use Rattle.vx_room.specs.Needs.{FitsByRoom}
use Rattle.vx_room.specs.Room.{stands_well}
use Rattle.vx_mixed.specs.declared.layout.Laid.{Laid}
use Rattle.vx_mixed.specs.declared.layout.Laid.TheVariants.{Plain, Split}
use Rattle.vx_mixed.specs.declared.layout.VirtualWord.{VirtualWord}
use Rattle.vx_mixed.specs.declared.layout.VirtualWord.TheVariants.{Planned, Drain, Transfer, Choice, Call as Calls, Return as Returns, Ends}
use Rattle.vx_mixed.specs.declared.layout.VWords.{VWords}
use Rattle.vx_mixed.specs.LaidSettled.{laid_reads, laid_writes, LeadsTo, Plans}
use Rattle.vx_layout.specs.Origins.{ComesFrom, graph_op}
use Rattle.vx_target.specs.Target.{Target, answer, general, general_of, branch_of, register_of, is_own, stack_on, holds_branch, is_slotted, kept, slotted, once, parameters_of, one, together, pause, in_flight, settled, set_stack, slots_in_flight, load_slot, store_slot, load_slots, store_slots, if_some, before, behind, past, leads, carried, carried_items, plan_ops, plan_word, plan_words, landing_words, on_clusters, stack_steps, move_stack, leave_or_lower, save_words, reload_words, fetch_words, fetched, passes, calls_beside, store_or_call, argument_words, result_words, call_words, back_words, is_caller, answer_words, last_beside, leave_words, return_words, follows, way, link_words, begin_words, wanted, entry_words, turns, idle_words, word_words, start_words, waits, bytes, first_frame, memory_words}
use Rattle.vx_target.specs.Placed.{Depth, Labelled, laid_pieces, landing_of, item_landings, word_landings, landing_pieces, function_pieces, functions_pieces, all_pieces, words_of}
use Rattle.vx_target.specs.Carried.{Carries, IsFunctionOf, IsMapped, item_of_laid}
use Rattle.vx_tie.specs.Fitted.{SoundLaw}
use Rattle.vx_target.proofs.Beside.{Beside, alone, going, beside}
use Rattle.vx_target.proofs.FromPlace.{StandFrom, stand_here, stand_on, stand_from_start}
use Rattle.vx_target.proofs.Enough.{in_map}
use Rattle.vx_tie.proofs.Fit.{words_fit}
use Rattle.vx_tie.proofs.Forming.{HasForm, Formed, AllFormed, computes_formed, all_sound}
use Rattle.vx_target.proofs.Forms.{to_branch}
use Rattle.vx_target.proofs.Frames.{get_below, get_some, get_in, past_below}
use Rattle.vx_target.proofs.FromGraph.{undismissed, op_proper}
use Rattle.vx_target.proofs.Limits.{Limits, limits}
use Rattle.vx_target.proofs.Pauses.{flight_few, slots_few, wanted_few}
use Rattle.vx_target.proofs.Proper.{ProperOp}
use Rattle.vx_target.proofs.Stands.{word_stands, word_next, landing_stands, entry_stands, entry_next, depth_stands}
use Rattle.vx_target.proofs.Steps.{Stands}

-- words of which some stand at a place of a program
stands_below : (words : List Word) (q : ℕ) (ws : List Word) → 1 ≤ length ws → Stands words q ws → q < length words
stands_below words q [] le s = absurd (omega arith)
stands_below words q (w ∷ ws) le s = get_below words q w s.0

some_behind : (xs ys : List Word) (y : Word) → 1 ≤ length (xs ++ y ∷ ys)
some_behind xs ys y = let a = length-append xs (y ∷ ys) in omega arith

some_before : (xs ys : List Word) → 1 ≤ length xs → 1 ≤ length (xs ++ ys)
some_before xs ys le = let a = length-append xs ys in omega arith

some_after : (xs ys : List Word) → 1 ≤ length ys → 1 ≤ length (xs ++ ys)
some_after xs ys le = let a = length-append xs ys in omega arith

-- a place of a layout has words, or it leads to the next one, past transfers perhaps
abbrev HasWords : (T : Target) (f p : ℕ) → VirtualWord → Type 0
HasWords T f p word = (1 ≤ length (word_words T f p word)) ⊎ ((length (word_words T f p word) ≡ 0) × (q : ℕ) × LeadsTo p word q × ((q ≡ p + 1) ⊎ (past T f q ≡ p + 1)))

beside_some : (T : Target) (a b : Operation) → 1 ≤ length (last_beside T a b)
beside_some T a b = by ((latency_of T.machine a == 1) && fits T.machine (a ∷ b ∷ []))
  where
    by : (c : Bool) → 1 ≤ length (if c then record { ops = a ∷ b ∷ []; idle = 0 } ∷ [] else settled T (one a ∷ []) ++ one b ∷ [])
    by true = omega arith
    by false = some_behind (settled T (one a ∷ [])) [] (one b)

leave_some : (T : Target) (f : ℕ) (x : Operand) → 1 ≤ length (leave_words T f x)
leave_some T f x = by (is_caller T f)
  where
    by : (b : Bool) → 1 ≤ length (if b then answer_words T f x ++ one Return ∷ [] else last_beside T (Move 0 answer (fetched T f x)) Return)
    by true = some_behind (answer_words T f x) [] (one Return)
    by false = beside_some T (Move 0 answer (fetched T f x)) Return

words_some : (T : Target) (f p : ℕ) (word : VirtualWord) → HasWords T f p word
words_some T f p (Planned rg wd items) = inl (some_behind (before T f (laid_reads items)) (behind T f items) (plan_word T f p items))
words_some T f p (Drain n) = by (turns T f (p + 1)) (n - 1)
  where
    next : p + 1 ≡ suc p
    next = omega arith

    by : (b : Bool) (k : ℕ) → (1 ≤ length (if b then pause k else waits n ∷ [])) ⊎ ((length (if b then pause k else waits n ∷ []) ≡ 0) × (q : ℕ) × LeadsTo p (Drain n) q × ((q ≡ p + 1) ⊎ (past T f q ≡ p + 1)))
    by true zero = inr (refl, p + 1, next, inl refl)
    by true (suc k) = inl (omega arith)
    by false k = inl (omega arith)
words_some T f p (Transfer q) = by (follows T f (p + 1) (past T f q)) refl
  where
    by : (b : Bool) → follows T f (p + 1) (past T f q) ≡ b → (1 ≤ length (if b then [] else one (Goto (T.starts f (past T f q))) ∷ [])) ⊎ ((length (if b then [] else one (Goto (T.starts f (past T f q))) ∷ []) ≡ 0) × (d : ℕ) × LeadsTo p (Transfer q) d × ((d ≡ p + 1) ⊎ (past T f d ≡ p + 1)))
    by true e = inr (refl, q, refl, inr (sym (eqb-true (p + 1) (past T f q) (and_parts _ _ e).0)))
    by false e = inl (omega arith)
words_some T f p (Choice test q) = inl (some_behind (before T f (test ∷ [])) [] (one (BranchOn (branch_of T f (test ∷ []) test) true (T.starts f (past T f q)))))
words_some T f p (Calls g arguments result) =
    inl (some_before (call_words T f p g arguments) (back_words T f p result) (omega arith))
words_some T f p (Returns x) = inl (some_after (fetch_words T f 0 x) (leave_words T f x) (leave_some T f x))
words_some T f p (Ends k) = inl (omega arith)

landing_some : (T : Target) (f q : ℕ) (items : List Laid) → 1 ≤ length (landing_words T f items q)
landing_some T f q items = some_behind (behind T f items) [] (one (Goto (T.starts f (past T f q))))

-- words that pause briefly and have operations of their form
module _ (W N : ℕ) where
  abbrev pub Right : Word → Type 0
  Right w = (w.idle ≤ 255) × ((w.idle ≡ 0) ⊎ (length w.ops ≡ 0)) × AllFormed W N w.ops

  abbrev pub AllRight : List Word → Type 0
  AllRight [] = Unit {0}
  AllRight (w ∷ ws) = Right w × AllRight ws

  abbrev pub RightPieces : List Labelled → Type 0
  RightPieces [] = Unit {0}
  RightPieces (x ∷ xs) = AllRight x.words × RightPieces xs

  pub right_append : (xs ys : List Word) → AllRight xs → AllRight ys → AllRight (xs ++ ys)
  right_append [] ys a b = b
  right_append (x ∷ xs) ys a b = (a.0, right_append xs ys a.1 b)

  pub pieces_append : (xs ys : List Labelled) → RightPieces xs → RightPieces ys → RightPieces (xs ++ ys)
  pieces_append [] ys a b = b
  pieces_append (x ∷ xs) ys a b = (a.0, pieces_append xs ys a.1 b)

  pub pieces_right : (xs : List Labelled) → RightPieces xs → AllRight (words_of xs)
  pieces_right [] a = tt
  pieces_right (x ∷ xs) a = right_append x.words (words_of xs) a.0 (pieces_right xs a.1)

  pub some_right : (vs : List ℕ) (ws : List Word) → AllRight ws → AllRight (if_some vs ws)
  some_right [] ws g = tt
  some_right (v ∷ vs) ws g = g

  pub has_ops : (ops : List Operation) → AllFormed W N ops → Right (record { ops = ops; idle = 0 })
  has_ops ops h = (omega arith, inl refl, h)

  pub has_one : (op : Operation) → Formed W N op → Right (one op)
  has_one op h = has_ops (op ∷ []) (h, tt)

  pub spread_formed : (g : ℕ → Operation) (j n : ℕ) → ((k : ℕ) → Formed W N (g k)) → AllFormed W N (map g (numbers j n))
  spread_formed g j zero h = tt
  spread_formed g j (suc n) h = (h j, spread_formed g (j + 1) n h)

module _ (T : Target) (flow : Flow) (ls : List VWords) (w : WordProgram) (sound : SoundFlow flow) (carries : Carries T flow ls w) where
  abbrev W : ℕ
  W = length w.words

  abbrev N : ℕ
  N = length w.texts

  abbrev Words : List Word → Type 0
  Words ws = AllRight W N ws

  abbrev Is : Operation → Type 0
  Is op = Formed W N op

  abbrev Count : ℕ
  Count = length flow.functions

  pause_right : (n : ℕ) → n ≤ 16 → AllRight W N (pause n)
  pause_right zero le = tt
  pause_right (suc n) le = ((omega arith, inr refl, tt), tt)

  settled_right : (ws : List Word) → Words ws → Words (settled T ws)
  settled_right ws h = let n = in_flight T.machine 0 ws in right_append W N ws (pause n) h (pause_right n (flight_few T.machine carries.machine 0 ws (omega arith)))

  -- a word of one operation, a pause, and what follows
  one_settled : (op : Operation) (ws : List Word) → Is op → Words ws → Words (settled T (one op ∷ []) ++ ws)
  one_settled op ws g h = right_append W N (settled T (one op ∷ [])) ws (settled_right (one op ∷ []) (has_one W N op g, tt)) h

  -- places that are there

  start_within : (f q k : ℕ) → f < Count → q < length (T.layout f).words → length (T.layout f).words ≤ q + k → T.starts f q < W
  start_within f q zero lt below most = absurd (omega arith)
  start_within f q (suc k) lt below most =
      let x = get_some (T.layout f).words q below in
      ⊎_elim
      (λ some. stands_below w.words (T.starts f q) (word_words T f q x.0) some (word_stands T flow.main Count w.words carries.placed f q x.0 lt x.1))
      (λ none. (let within = (carries.functions f lt).mapped.settled.inside in
      let led : none.1 < length (T.layout f).words = within q none.1 x.0 x.1 none.2 in
      let inside : q + 1 < length (T.layout f).words = ⊎_elim (λ e. subst (λ n. n < length (T.layout f).words) e led) (λ e. subst (λ n. n < length (T.layout f).words) e (past_below T f within none.1 led)) none.3 in
      let next : T.starts f (suc q) < W = start_within f (suc q) k lt (omega arith) (omega arith) in
      let place = word_next T flow.main Count w.words carries.placed f q x.0 lt x.1 in
      let length_is = none.0 in omega arith))
      (words_some T f q x.0)

  start_below : (f q : ℕ) → f < Count → q < length (T.layout f).words → T.starts f q < W
  start_below f q lt below = start_within f q (length (T.layout f).words) lt below (omega arith)

  entry_below : (f : ℕ) → f < Count → T.entry f < W
  entry_below f lt = by (entry_words T f) refl (entry_stands T flow.main Count w.words carries.placed f lt)
    where
      by : (ws : List Word) → entry_words T f ≡ ws → Stands w.words (T.entry f) ws → T.entry f < W
      by [] e st =
          let a = entry_next T flow.main Count w.words carries.placed f lt in
          let none : length (entry_words T f) ≡ 0 = ap length e in
          let entry = (carries.functions f lt).mapped.settled.entry in
          let b = start_below f 0 lt (omega arith) in omega arith
      by (x ∷ xs) e st = stands_below w.words (T.entry f) (x ∷ xs) (omega arith) st

  trap_below : T.depth_trap < W
  trap_below = stands_below w.words T.depth_trap (one (EndByTrap ByDepth) ∷ []) (omega arith) (depth_stands T flow.main Count w.words carries.placed)

  -- slots

  load_slot_right : (f up v : ℕ) (to : GeneralRegister) (b : ℕ) → Words (load_slot T f up v to b)
  load_slot_right f up v to b = by (holds_branch T f v)
    where
      by : (c : Bool) → Words (if c
          then settled T (one (Load 0 answer (bytes (up + T.slot f v)) (stack_on 0) false) ∷ []) ++ one (Compute 0 (ToBranch Ne) (InBranch (record { cluster = 0; number = b })) (Held answer) (Number (pos 0))) ∷ []
          else one (Load to.cluster to (bytes (up + T.slot f v)) (stack_on to.cluster) false) ∷ [])
      by true = one_settled (Load 0 answer (bytes (up + T.slot f v)) (stack_on 0) false) (one (Compute 0 (ToBranch Ne) (InBranch (record { cluster = 0; number = b })) (Held answer) (Number (pos 0))) ∷ []) tt
          (has_one W N (Compute 0 (ToBranch Ne) (InBranch (record { cluster = 0; number = b })) (Held answer) (Number (pos 0))) refl, tt)
      by false = (has_one W N (Load to.cluster to (bytes (up + T.slot f v)) (stack_on to.cluster) false) tt, tt)

  store_slot_right : (f v : ℕ) (from : GeneralRegister) (b : ℕ) → Words (store_slot T f v from b)
  store_slot_right f v from b = by (holds_branch T f v)
    where
      by : (c : Bool) → Words (if c
          then settled T (one (Select 0 answer (record { cluster = 0; number = b }) (Number (pos 1)) (Number (pos 0))) ∷ []) ++ one (Store 0 (bytes (T.slot f v)) (stack_on 0) (Held answer)) ∷ []
          else one (Store from.cluster (bytes (T.slot f v)) (stack_on from.cluster) (Held from)) ∷ [])
      by true = one_settled (Select 0 answer (record { cluster = 0; number = b }) (Number (pos 1)) (Number (pos 0))) (one (Store 0 (bytes (T.slot f v)) (stack_on 0) (Held answer)) ∷ []) tt
          (has_one W N (Store 0 (bytes (T.slot f v)) (stack_on 0) (Held answer)) tt, tt)
      by false = (has_one W N (Store from.cluster (bytes (T.slot f v)) (stack_on from.cluster) (Held from)) tt, tt)

  load_slots_right : (f : ℕ) (names vs : List ℕ) → Words (load_slots T f names vs)
  load_slots_right f names [] = tt
  load_slots_right f names (v ∷ vs) = right_append W N (load_slot T f 0 v (general_of T f names v) (branch_of T f names v)) (load_slots T f names vs) (load_slot_right f 0 v (general_of T f names v) (branch_of T f names v)) (load_slots_right f names vs)

  store_slots_right : (f : ℕ) (names vs : List ℕ) → Words (store_slots T f names vs)
  store_slots_right f names [] = tt
  store_slots_right f names (v ∷ vs) = right_append W N (store_slot T f v (general_of T f names v) (branch_of T f names v)) (store_slots T f names vs) (store_slot_right f v (general_of T f names v) (branch_of T f names v)) (store_slots_right f names vs)

  loads_right : (f : ℕ) (names vs : List ℕ) → Words (settled T (load_slots T f names vs))
  loads_right f names vs = settled_right (load_slots T f names vs) (load_slots_right f names vs)

  before_right : (f : ℕ) (names : List ℕ) → Words (before T f names)
  before_right f names = some_right W N (slotted T f names) (settled T (load_slots T f names (once (slotted T f names)))) (loads_right f names (once (slotted T f names)))

  behind_right : (f : ℕ) (items : List Laid) → Words (behind T f items)
  behind_right f items =
      let ws = laid_writes items in
      some_right W N (slotted T f ws) (pause (slots_in_flight T f items) ++ store_slots T f ws (slotted T f ws))
      (right_append W N (pause (slots_in_flight T f items)) (store_slots T f ws (slotted T f ws)) (pause_right (slots_in_flight T f items) (slots_few T carries.machine f items)) (store_slots_right f ws (slotted T f ws)))

  -- some words, and a pause that they are waited for
  wanted_right : (f : ℕ) (next : Option ℕ) (q : ℕ) (vs : List ℕ) (ws : List Word) → Words ws → Words (ws ++ pause (wanted T f next q vs ws))
  wanted_right f next q vs ws h = let n = wanted T f next q vs ws in right_append W N ws (pause n) h (pause_right n (wanted_few T carries.machine f next q vs ws))

  reload_right : (f q : ℕ) (vs : List ℕ) → Words (reload_words T f q vs)
  reload_right f q vs = wanted_right f None q vs (load_slots T f vs vs) (load_slots_right f vs vs)

  -- an operation on each cluster

  move_stack_right : (z : ℤ) → Words (move_stack T z)
  move_stack_right z =
      let op : ℕ → Operation = λ k. Compute k Add (InGeneral (stack_on k)) (Held (stack_on k)) (Number z) in
      settled_right (record { ops = on_clusters T.machine.clusters op; idle = 0 } ∷ []) (has_ops W N (on_clusters T.machine.clusters op) (spread_formed W N op 0 T.machine.clusters (λ k. (refl, refl))), tt)

  lower_right : Words (leave_or_lower T)
  lower_right = by ((T.machine.latency_alu == 1) && fits T.machine (BranchOn 0 true T.depth_trap ∷ stack_steps T (neg_ℤ (bytes T.frame))))
    where
      by : (b : Bool) → Words (if b then record { ops = BranchOn 0 true T.depth_trap ∷ stack_steps T (neg_ℤ (bytes T.frame)); idle = 0 } ∷ [] else one (BranchOn 0 true T.depth_trap) ∷ move_stack T (neg_ℤ (bytes T.frame)))
      by true =
          let op : ℕ → Operation = λ k. Compute k Add (InGeneral (stack_on k)) (Held (stack_on k)) (Number (neg_ℤ (bytes T.frame))) in
          (has_ops W N (BranchOn 0 true T.depth_trap ∷ on_clusters T.machine.clusters op) (trap_below, spread_formed W N op 0 T.machine.clusters (λ k. (refl, refl))), tt)
      by false = (has_one W N (BranchOn 0 true T.depth_trap) trap_below, move_stack_right (neg_ℤ (bytes T.frame)))

  start_right : Words (start_words T flow.main)
  start_right =
      let op : ℕ → Operation = λ k. Move k (stack_on k) (Number (bytes (first_frame T))) in
      right_append W N (set_stack T) (one (Call (T.entry flow.main)) ∷ one (Halt (Held answer)) ∷ [])
      (settled_right (record { ops = on_clusters T.machine.clusters op; idle = 0 } ∷ []) (has_ops W N (on_clusters T.machine.clusters op) (spread_formed W N op 0 T.machine.clusters (λ k. tt)), tt))
      (has_one W N (Call (T.entry flow.main)) (entry_below flow.main (get_below flow.functions flow.main sound.main.graph sound.main.is)), (has_one W N (Halt (Held answer)) tt, tt))

  -- calls, returns and entries

  fetch_right : (f up : ℕ) (x : Operand) → Words (fetch_words T f up x)
  fetch_right f up (HeldValue v) = by (is_slotted (kept T f v))
    where
      by : (b : Bool) → Words (if b then settled T (load_slot T f up v (general_of T f (v ∷ []) v) (branch_of T f (v ∷ []) v)) else [])
      by true = settled_right (load_slot T f up v (general_of T f (v ∷ []) v) (branch_of T f (v ∷ []) v)) (load_slot_right f up v (general_of T f (v ∷ []) v) (branch_of T f (v ∷ []) v))
      by false = tt
  fetch_right f up (AsNumber n) = tt
  fetch_right f up Stack = tt

  arguments_right : (f g : ℕ) (vs : List ℕ) (xs : List Operand) → g < Count → Words (argument_words T f g vs xs)
  arguments_right f g [] xs there = (has_one W N (Call (T.entry g)) (entry_below g there), tt)
  arguments_right f g (v ∷ vs) [] there = (has_one W N (Call (T.entry g)) (entry_below g there), tt)
  arguments_right f g (v ∷ vs) (x ∷ xs) there =
      right_append W N (fetch_words T f T.frame x) (store_or_call T g vs (passes T f g v x) (argument_words T f g vs xs)) (fetch_right f T.frame x) (by (calls_beside T g vs (passes T f g v x)) (arguments_right f g vs xs there))
    where
      by : (b : Bool) → Words (argument_words T f g vs xs) → Words (if b then record { ops = passes T f g v x ∷ Call (T.entry g) ∷ []; idle = 0 } ∷ [] else one (passes T f g v x) ∷ argument_words T f g vs xs)
      by true h = (has_ops W N (passes T f g v x ∷ Call (T.entry g) ∷ []) (tt, (entry_below g there, tt)), tt)
      by false h = (has_one W N (passes T f g v x) tt, h)

  result_right : (f : ℕ) (result : Option ℕ) → Words (result_words T f result)
  result_right f None = tt
  result_right f (Some v) = by (is_slotted (kept T f v))
    where
      by : (b : Bool) → Words (if b then one (Store 0 (bytes (T.slot f v)) (stack_on 0) (Held answer)) ∷ [] else settled T (one (Move (general_of T f (v ∷ []) v).cluster (general_of T f (v ∷ []) v) (Held answer)) ∷ []))
      by true = (has_one W N (Store 0 (bytes (T.slot f v)) (stack_on 0) (Held answer)) tt, tt)
      by false = settled_right (one (Move (general_of T f (v ∷ []) v).cluster (general_of T f (v ∷ []) v) (Held answer)) ∷ []) (has_one W N (Move (general_of T f (v ∷ []) v).cluster (general_of T f (v ∷ []) v) (Held answer)) tt, tt)

  call_right : (f p g : ℕ) (xs : List Operand) → g < Count → Words (call_words T f p g xs)
  call_right f p g xs there =
      let test : Operation = Compute 0 (ToBranch Ltu) (InBranch (record { cluster = 0; number = 0 })) (Held (stack_on 0)) (Number (bytes (T.globals + T.frame))) in
      let passed : List Word = argument_words T f g (parameters_of T g) xs in
      let lowered : Words (leave_or_lower T ++ passed) = right_append W N (leave_or_lower T) passed lower_right (arguments_right f g (parameters_of T g) xs there) in
      let saves : List Word = save_words T f (T.saved f p) in
      right_append W N (settled T (one test ∷ saves)) (leave_or_lower T ++ passed) (settled_right (one test ∷ saves) (has_one W N test refl, store_slots_right f (T.saved f p) (T.saved f p))) lowered

  back_right : (f p : ℕ) (result : Option ℕ) → Words (back_words T f p result)
  back_right f p result =
      right_append W N (move_stack T (bytes T.frame)) (result_words T f result ++ reload_words T f (p + 1) (T.saved f p)) (move_stack_right (bytes T.frame))
      (right_append W N (result_words T f result) (reload_words T f (p + 1) (T.saved f p)) (result_right f result) (reload_right f (p + 1) (T.saved f p)))

  together_right : (a b : Operation) → Is a → Is b → Words (together T.machine a b)
  together_right a b ga gb = by (fits T.machine (a ∷ b ∷ []))
    where
      by : (c : Bool) → Words (if c then record { ops = a ∷ b ∷ []; idle = 0 } ∷ [] else one a ∷ one b ∷ [])
      by true = (has_ops W N (a ∷ b ∷ []) (ga, (gb, tt)), tt)
      by false = (has_one W N a ga, (has_one W N b gb, tt))

  answer_right : (f : ℕ) (x : Operand) → Words (answer_words T f x)
  answer_right f x =
      let move : Operation = Move 0 answer (fetched T f x) in
      let load : Operation = Load 0 (general 0 3) (pos 0) (stack_on 0) false in
      let link : Operation = ToLink (Held (general 0 3)) in
      let loads : List Word = together T.machine move load in
      right_append W N (settled T loads) (settled T (one link ∷ [])) (settled_right loads (together_right move load tt tt)) (settled_right (one link ∷ []) (has_one W N link tt, tt))

  beside_right : (a b : Operation) → Is a → Is b → Words (last_beside T a b)
  beside_right a b ga gb = by ((latency_of T.machine a == 1) && fits T.machine (a ∷ b ∷ []))
    where
      by : (c : Bool) → Words (if c then record { ops = a ∷ b ∷ []; idle = 0 } ∷ [] else settled T (one a ∷ []) ++ one b ∷ [])
      by true = (has_ops W N (a ∷ b ∷ []) (ga, (gb, tt)), tt)
      by false = one_settled a (one b ∷ []) ga (has_one W N b gb, tt)

  leave_right : (f : ℕ) (x : Operand) → Words (leave_words T f x)
  leave_right f x = by (is_caller T f)
    where
      by : (b : Bool) → Words (if b then answer_words T f x ++ one Return ∷ [] else last_beside T (Move 0 answer (fetched T f x)) Return)
      by true = right_append W N (answer_words T f x) (one Return ∷ []) (answer_right f x) (has_one W N Return tt, tt)
      by false = beside_right (Move 0 answer (fetched T f x)) Return tt tt

  return_right : (f : ℕ) (x : Operand) → Words (return_words T f x)
  return_right f x = right_append W N (fetch_words T f 0 x) (leave_words T f x) (fetch_right f 0 x) (leave_right f x)

  link_right : (f : ℕ) → Words (link_words T f)
  link_right f = by (is_caller T f)
    where
      by : (b : Bool) → Words (if b then settled T (one (FromLink (general 0 3)) ∷ []) ++ one (Store 0 (pos 0) (stack_on 0) (Held (general 0 3))) ∷ [] else [])
      by true =
          let keep : List Word = one (Store 0 (pos 0) (stack_on 0) (Held (general 0 3))) ∷ [] in
          one_settled (FromLink (general 0 3)) keep tt (has_one W N (Store 0 (pos 0) (stack_on 0) (Held (general 0 3))) tt, tt)
      by false = tt

  -- functions

  module _ (f : ℕ) (lt : f < Count) where
    of : IsFunctionOf T flow ls f
    of = carries.functions f lt

    mapped : IsMapped T f
    mapped = of.mapped

    graph_in : IsIn (T.graph f) flow.functions
    graph_in = get_in flow.functions f (T.graph f) of.is.graph

    graph_sound : Sound (T.graph f)
    graph_sound = sound.graphs (T.graph f) graph_in

    abbrev HasWordAt : ℕ → VirtualWord → Type 0
    HasWordAt p word = slice_get (T.layout f).words p ≡ Some word

    past_start : (q : ℕ) → q < length (T.layout f).words → T.starts f (past T f q) < W
    past_start q inside = start_below f (past T f q) lt (past_below T f mapped.settled.inside q inside)

    way_right : (next q : ℕ) → q < length (T.layout f).words → Words (way T f next q)
    way_right next q inside = by (follows T f next q)
      where
        by : (b : Bool) → Words (if b then [] else one (Goto (T.starts f q)) ∷ [])
        by true = tt
        by false = (has_one W N (Goto (T.starts f q)) (start_below f q lt inside), tt)

    entry_right : Words (entry_words T f)
    entry_right =
        let goes : List Word = way T f 0 (past T f (T.layout f).entry) in
        let loads : List Word = load_slots T f (T.brought f) (T.brought f) in
        let begins : List Word = begin_words T f in
        right_append W N (begins ++ pause (wanted T f (Some 0) (past T f (T.layout f).entry) (T.brought f) begins)) goes (wanted_right f (Some 0) (past T f (T.layout f).entry) (T.brought f) begins (right_append W N loads (link_words T f) (load_slots_right f (T.brought f) (T.brought f)) (link_right f))) (way_right 0 (past T f (T.layout f).entry) (past_below T f mapped.settled.inside (T.layout f).entry mapped.settled.entry))

    module _ (p rg wd : ℕ) (items : List Laid) (plan : HasWordAt p (Planned rg wd items)) where
      plans : Plans (T.layout f) p items
      plans = (rg, wd, plan)

      abbrev Rs : List ℕ
      Rs = laid_reads items

      abbrev Ws : List ℕ
      Ws = laid_writes items

      abbrev IsArray : ℕ → Type 0
      IsArray a = (array : Array) × (slice_get (T.graph f).arrays a ≡ Some array)

      cluster_below : (op : Op) (k : ℕ) → IsIn (Plain op k) items → k < T.machine.clusters
      cluster_below op k i =
          let room = six_parts _ _ _ _ _ _ (mapped.settled.fits p items plans) in
          let well = all_in (stands_well T.machine) (map item_of_laid items) (item_of_laid (Plain op k)) (and_parts _ _ room.two).0 (in_map item_of_laid (Plain op k) items i) in
          ltb-true k T.machine.clusters (and_parts _ _ well).0

      comes : (op : Op) (k : ℕ) → IsIn (Plain op k) items → ComesFrom (T.graph f) op
      comes op k i = mapped.code.ops p k op items plans i

      proper : (op : Op) (k : ℕ) → IsIn (Plain op k) items → ProperOp T f IsArray op k
      proper op k i = op_proper T f IsArray graph_sound mapped.code (λ a below. get_some (T.graph f).arrays a below) op k (cluster_below op k i) (comes op k i)

      written : (code : Code) (v : ℕ) → holds_branch T f v ≡ to_branch code → is_unary code ≡ false → HasForm code (register_of T f Ws v)
      written code v e u = by (holds_branch T f v) e
        where
          by : (b : Bool) → b ≡ to_branch code → HasForm code (if b then InBranch (record { cluster = 0; number = branch_of T f Ws v }) else InGeneral (general_of T f Ws v))
          by true q = sym q
          by false q = (sym q, u)

      text_there : (n : ℕ) → ComesFrom (T.graph f) (Text n) → n < N
      text_there n (graph_op origin has same writes_same below) =
          let h : HasOperation (T.graph f) (Text n) = subst (HasOperation (T.graph f)) (undismissed (Text n) origin refl same) has in
          subst (λ xs. n < length xs) (sym carries.texts) (sound.texts (T.graph f) n graph_in h)

      operation_formed : (op : Op) (k : ℕ) → IsIn (Plain op k) items → Is (carried T f Rs Ws k op)
      operation_formed (Computes code v a b) k i = let h = proper (Computes code v a b) k i in computes_formed W N k code (register_of T f Ws v) (general_of T f Ws v) _ _ (written code v h.1)
      operation_formed (Place v a x) k i = (refl, refl)
      operation_formed (Text n) k i = text_there n (comes (Text n) k i)
      operation_formed (Base v a x) k i = by (is_own T f a)
        where
          by : (own : Bool) → Is (if own then Compute k Add (InGeneral (general_of T f Ws v)) (Held (stack_on k)) (Number (bytes (T.array_at f a))) else Move k (general_of T f Ws v) (Number (bytes (T.array_at f a))))
          by true = (refl, refl)
          by false = tt
      operation_formed (PlaceIn v a u x) k i = (refl, refl)
      operation_formed op k i = tt

      leads_below : (test q : ℕ) (y : Bool) → IsIn (Split test y q) items → leads T f p (slotted T f Ws) q < W
      leads_below test q y i = by (slotted T f Ws) refl
        where
          by : (vs : List ℕ) → slotted T f Ws ≡ vs → leads T f p vs q < W
          by [] e = past_start q (mapped.settled.inside p q (Planned rg wd items) plan (inr (test, y, i)))
          by (v ∷ vs) e = stands_below w.words (T.landing f p q) (landing_words T f items q) (landing_some T f q items) (landing_stands T flow.main Count w.words carries.placed f p q test rg wd y items v vs lt plan e i)

      items_formed : (xs : List Laid) → ((x : Laid) → IsIn x xs → IsIn x items) → AllFormed W N (carried_items T f p Rs Ws xs)
      items_formed [] h = tt
      items_formed (Plain op k ∷ xs) h = (operation_formed op k (h (Plain op k) (inl refl)), items_formed xs (λ x i. h x (inr i)))
      items_formed (Split test y q ∷ xs) h = (leads_below test q y (h (Split test y q) (inl refl)), items_formed xs (λ x i. h x (inr i)))

      formed_then : (ops : List Operation) (op : Operation) → AllFormed W N ops → Is op → AllFormed W N (ops ++ op ∷ [])
      formed_then [] op h g = (g, tt)
      formed_then (x ∷ ops) op h g = (h.0, formed_then ops op h.1 g)

      plan_formed : (code : List Operation) → Beside T f p items code → AllFormed W N code
      plan_formed code alone = items_formed items (λ x i. i)
      plan_formed code (going q g) = formed_then (carried_items T f p Rs Ws items) (Goto (T.starts f q)) (items_formed items (λ x i. i))
          (subst (λ d. T.starts f d < W) (sym g.is) (past_start g.to (mapped.settled.inside (p + 1) g.to (Transfer g.to) g.transfer refl)))

      planned_right : Words (plan_words T f p items)
      planned_right = right_append W N (before T f Rs) (plan_word T f p items ∷ behind T f items) (before_right f Rs) (has_ops W N (plan_ops T f p items) (plan_formed (plan_ops T f p items) (beside T f p items)), behind_right f items)

      landing_right : (test q : ℕ) (y : Bool) → IsIn (Split test y q) items → Words (landing_words T f items q)
      landing_right test q y i = right_append W N (behind T f items) (one (Goto (T.starts f (past T f q))) ∷ []) (behind_right f items) (has_one W N (Goto (T.starts f (past T f q))) (past_start q (mapped.settled.inside p q (Planned rg wd items) plan (inr (test, y, i)))), tt)

      landing_of_right : (vs : List ℕ) (test q : ℕ) (y : Bool) → IsIn (Split test y q) items → RightPieces W N (landing_of T f p items vs q)
      landing_of_right [] test q y i = tt
      landing_of_right (v ∷ vs) test q y i = (landing_right test q y i, tt)

      landings_right : (xs : List Laid) → ((x : Laid) → IsIn x xs → IsIn x items) → RightPieces W N (item_landings T f p items xs)
      landings_right [] h = tt
      landings_right (Plain op k ∷ xs) h = landings_right xs (λ x i. h x (inr i))
      landings_right (Split test y q ∷ xs) h = pieces_append W N (landing_of T f p items (slotted T f Ws) q) (item_landings T f p items xs) (landing_of_right (slotted T f Ws) test q y (h (Split test y q) (inl refl))) (landings_right xs (λ x i. h x (inr i)))

    called_below : (p g : ℕ) (arguments : List Operand) (result : Option ℕ) → HasWordAt p (Calls g arguments result) → g < Count
    called_below p g arguments result e =
        let c = mapped.code.calls p g arguments result e in
        let there = sound.calls (T.graph f) g c.next arguments result graph_in c.has in
        get_below flow.functions g there.graph there.is

    idle_right : (p n : ℕ) → HasWordAt p (Drain n) → Words (idle_words T f p n)
    idle_right p n e = by (turns T f (p + 1))
      where
        by : (b : Bool) → Words (if b then pause (n - 1) else waits n ∷ [])
        by true = pause_right (n - 1) (let a = mapped.brief p n e in omega arith)
        by false = ((let a = mapped.brief p n e in omega arith, inr refl, tt), tt)

    word_right : (p : ℕ) (word : VirtualWord) → HasWordAt p word → Words (word_words T f p word)
    word_right p (Planned rg wd items) e = planned_right p rg wd items e
    word_right p (Drain n) e = idle_right p n e
    word_right p (Transfer q) e = way_right (p + 1) (past T f q) (past_below T f mapped.settled.inside q (mapped.settled.inside p q (Transfer q) e refl))
    word_right p (Choice test q) e = right_append W N (before T f (test ∷ [])) (one (BranchOn (branch_of T f (test ∷ []) test) true (T.starts f (past T f q))) ∷ []) (before_right f (test ∷ [])) (has_one W N (BranchOn (branch_of T f (test ∷ []) test) true (T.starts f (past T f q))) (past_start q (mapped.settled.inside p q (Choice test q) e (inl refl))), tt)
    word_right p (Calls g arguments result) e = right_append W N (call_words T f p g arguments) (back_words T f p result) (call_right f p g arguments (called_below p g arguments result e)) (back_right f p result)
    word_right p (Returns x) e = return_right f x
    word_right p (Ends k) e = (has_one W N (EndByTrap k) tt, tt)

    landing_word_right : (p : ℕ) (word : VirtualWord) → HasWordAt p word → RightPieces W N (word_landings T f p word)
    landing_word_right p (Planned rg wd items) e = landings_right p rg wd items e items (λ x i. i)
    landing_word_right p (Drain n) e = tt
    landing_word_right p (Transfer q) e = tt
    landing_word_right p (Choice test q) e = tt
    landing_word_right p (Calls g arguments result) e = tt
    landing_word_right p (Returns x) e = tt
    landing_word_right p (Ends k) e = tt

    laid_right : (p : ℕ) (words : List VirtualWord) → StandFrom HasWordAt p words → RightPieces W N (laid_pieces T f p words)
    laid_right p [] h = (tt, tt)
    laid_right p (word ∷ words) h = (word_right p word (stand_here HasWordAt p word words h), laid_right (suc p) words (stand_on HasWordAt p word words h))

    laid_landings : (p : ℕ) (words : List VirtualWord) → StandFrom HasWordAt p words → RightPieces W N (landing_pieces T f p words)
    laid_landings p [] h = tt
    laid_landings p (word ∷ words) h = pieces_append W N (word_landings T f p word) (landing_pieces T f (suc p) words) (landing_word_right p word (stand_here HasWordAt p word words h)) (laid_landings (suc p) words (stand_on HasWordAt p word words h))

    all_stand : StandFrom HasWordAt 0 (T.layout f).words
    all_stand = stand_from_start HasWordAt (T.layout f).words (λ i word e. e)

    function_right : RightPieces W N (function_pieces T f)
    function_right = (entry_right, pieces_append W N (laid_pieces T f 0 (T.layout f).words) (landing_pieces T f 0 (T.layout f).words) (laid_right 0 (T.layout f).words all_stand) (laid_landings 0 (T.layout f).words all_stand))

  functions_right : (f n : ℕ) → f + n ≤ Count → RightPieces W N (functions_pieces T f n)
  functions_right f zero h = tt
  functions_right f (suc n) h = pieces_append W N (function_pieces T f) (functions_pieces T (suc f) n) (function_right f (omega arith)) (functions_right (suc f) n (omega arith))

  all_right : Words w.words
  all_right = subst Words (sym carries.placed.is) (pieces_right W N (all_pieces T flow.main Count)
      (start_right, pieces_append W N (functions_pieces T 0 Count) (record { label = Depth; words = one (EndByTrap ByDepth) ∷ [] } ∷ []) (functions_right 0 Count (omega arith)) ((has_one W N (EndByTrap ByDepth) tt, tt), tt)))

  module _ (by_room : FitsByRoom) where
    l : Limits T.machine
    l = limits T.machine carries.machine

    idle_fits : (idle count : ℕ) → (idle ≡ 0) ⊎ (count ≡ 0) → ((idle == 0) || (count == 0)) ≡ true
    idle_fits idle count h = ⊎_elim (λ e. ap (λ n. (n == 0) || (count == 0)) e) (λ e. by (idle == 0) (ap (λ n. n == 0) e)) h
      where
        by : (b : Bool) → (count == 0) ≡ true → (b || (count == 0)) ≡ true
        by true e = refl
        by false e = e

    words_sound : (ws : List Word) → Words ws → ((p : ℕ) (word : Word) → slice_get ws p ≡ Some word → fits T.machine word.ops ≡ true) → list_all (is_sound_word W N) ws ≡ true
    words_sound [] a fit = refl
    words_sound (x ∷ ws) a fit = both_true (both_true (both_true (le-leb x.idle 255 a.0.0) (idle_fits x.idle (length x.ops) a.0.1)) (all_sound T.machine l W N x.ops (fit 0 x refl) a.0.2)) (words_sound ws a.1 (λ p word e. fit (suc p) word e))

    aligned : (n k : ℕ) → n ≡ 4 * k → (n % 4 == 0) ≡ true
    aligned n k e = let z : n % 4 ≡ 0 = omega arith in ap (λ x. x == 0) z

    -- a machine has one branch a word, or two
    version_by : (n : ℕ) → 1 ≤ n → n ≤ 2 → is_version n ≡ true
    version_by zero least most = absurd (omega arith)
    version_by (suc zero) least most = refl
    version_by (suc (suc zero)) least most = refl
    version_by (suc (suc (suc n))) least most = absurd (omega arith)

    version_is : is_version w.version ≡ true
    version_is = let branches = (ranges T.machine carries.machine).branches in ap is_version carries.version ∙ version_by T.machine.branches branches.least branches.most

    pub program_sound : is_start w.memory 0 w.start ≡ true → is_sound w ≡ true
    program_sound start = both_true (both_true (both_true (both_true version_is (aligned w.memory (memory_words T) carries.memory)) (le-leb w.memory 134217728 (let a = carries.memory in let b = carries.small in omega arith))) start)
        (words_sound w.words all_right (λ p word e. (words_fit T flow ls w sound carries by_room p word e).1))

pub sound_law : FitsByRoom → SoundLaw
sound_law by_room T flow ls w sound carries start = program_sound T flow ls w ((told flow (is_sound_flow flow) refl).0 sound) carries by_room start
