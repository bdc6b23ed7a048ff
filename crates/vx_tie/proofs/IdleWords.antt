-- Of two words of a program one behind the other, one is a word of the plan or has an operation, where layouts are spaced: pauses
-- stand behind operations, empty cycles of a layout behind no pause, and neither behind the other.
use Rattle.std.proofs.Common.{◌≡◌, ◌<◌, ◌≤◌, ◌⊎◌, inl, inr, ⊎_elim, ◌+◌, ◌-◌, ◌==◌, ◌&&◌, not, ℕ, zero, suc, ℤ, pos, neg_ℤ, Bool, true, false, Option, Some, None, List, [], ◌∷◌, ◌++◌, length, refl, sym, ap, ◌∙◌, subst, arith}
use Rattle.std.specs.Prelude.{if◌then◌else◌, slice_get}
use Rattle.std.specs.List.{filter}
use Rattle.std.proofs.lemmas.Bool.{and_parts, eqb-true}
use Rattle.vx_base.specs.declared.arithmetic.Code.TheVariants.{Add, ToBranch}
use Rattle.vx_base.specs.declared.arithmetic.Compare.TheVariants.{Ltu, Ne}
use Rattle.vx_base.specs.declared.outcome.Trap.TheVariants.{Depth as ByDepth}
use Rattle.vx_flow.specs.declared.graph.Flow.{Flow}
use Rattle.vx_flow.specs.declared.graph.Operand.{Operand}
use Rattle.vx_flow.specs.declared.graph.Operand.TheVariants.{Held as HeldValue, Number as AsNumber, Stack}
use Rattle.vx_isa.specs.declared.operation.GeneralRegister.{GeneralRegister}
use Rattle.vx_isa.specs.declared.operation.Register.TheVariants.{General as InGeneral, Branch as InBranch}
use Rattle.vx_isa.specs.declared.operation.Source.TheVariants.{Held, Number}
use Rattle.vx_isa.specs.declared.operation.Operation.{Operation}
use Rattle.vx_isa.specs.declared.operation.Operation.TheVariants.{Compute, Move, Select, Load, Store, Goto, BranchOn, Call, Return, FromLink, ToLink, EndByTrap, Halt}
use Rattle.vx_isa.specs.declared.program.Word.{Word}
use Rattle.vx_isa.specs.declared.program.WordProgram.{WordProgram}
use Rattle.vx_isa.specs.Fits.{fits}
use Rattle.vx_isa.specs.Operations.{latency_of}
use Rattle.vx_mixed.specs.declared.layout.Laid.{Laid}
use Rattle.vx_mixed.specs.declared.layout.Laid.TheVariants.{Plain, Split}
use Rattle.vx_mixed.specs.declared.layout.VirtualWord.{VirtualWord}
use Rattle.vx_mixed.specs.declared.layout.VirtualWord.TheVariants.{Planned, Drain, Transfer, Choice, Call as Calls, Return as Returns, Ends}
use Rattle.vx_mixed.specs.declared.layout.VWords.{VWords}
use Rattle.vx_mixed.specs.LaidSettled.{laid_reads, laid_writes}
use Rattle.vx_target.specs.Target.{Target, answer, general, general_of, branch_of, home, stack_on, holds_branch, is_slotted, kept, slotted, once, parameters_of, one, together, pause, in_flight, settled, set_stack, slots_in_flight, load_slot, store_slot, load_slots, store_slots, if_some, before, behind, plan_word, plan_words, past, landing_words, on_clusters, stack_steps, move_stack, leave_or_lower, save_words, reload_words, fetch_words, fetched, passes, calls_beside, store_or_call, argument_words, result_words, call_words, back_words, is_caller, is_drain, is_drain_there, answer_words, last_beside, leave_words, return_words, follows, way, link_words, begin_words, wanted, entry_words, turns, idle_words, word_words, start_words, waits, bytes, first_frame}
use Rattle.vx_target.specs.Placed.{Depth, Labelled, PlacedAt, place_of, laid_pieces, landing_of, item_landings, word_landings, landing_pieces, function_pieces, functions_pieces, all_pieces, words_of}
use Rattle.vx_target.specs.Carried.{Carries, IsMapped}
use Rattle.vx_tie.specs.Plans.{AreSpaced, GoesOn, IsSpaced}
use Rattle.vx_tie.proofs.EachWord.{IsPlannedAt}
use Rattle.vx_target.proofs.Enough.{some_cluster}
use Rattle.vx_target.proofs.Frames.{get_some, past_below}
use Rattle.vx_tie.proofs.Spaced.{Firm}

abbrev pub Operates : List Operation → Type 0
Operates [] = ⊥
Operates (op ∷ ops) = Unit {0}

never : {A : Type 0} → false ≡ true → A
never e = absurd (cc)

not_true : (b : Bool) → not b ≡ true → b ≡ false
not_true true e = never e
not_true false e = refl

-- words that are none of the plan, of which no two without an operation stand one behind the other: `a` where the word before them may
-- have none, `b` where their last may have none
abbrev Idles : Bool → List Word → Bool → Type 0
Idles a [] b = a ≡ true → b ≡ true
Idles a (w ∷ ws) b = (Operates w.ops × Idles false ws b) ⊎ ((a ≡ false) × Idles true ws b)

weak : (a b : Bool) (ws : List Word) → Idles true ws b → Idles a ws b
weak true b ws h = h
weak false b [] h = λ e. never e
weak false b (w ∷ ws) h = ⊎_elim (λ x. inl x) (λ x. never (sym x.0)) h

strong : (a b : Bool) (ws : List Word) → Idles a ws false → Idles a ws b
strong a b [] h = λ e. never (h e)
strong a b (w ∷ ws) h = ⊎_elim (λ x. inl (x.0, strong false b ws x.1)) (λ x. inr (x.0, strong true b ws x.1)) h

after : (a c b : Bool) (ws : List Word) → (a ≡ true → c ≡ true) → Idles c ws b → Idles a ws b
after true c b ws h k = subst (λ z. Idles z ws b) (h refl) k
after false true b ws h k = weak false b ws k
after false false b ws h k = k

then_idles : (a c b : Bool) (xs ys : List Word) → Idles a xs c → Idles c ys b → Idles a (xs ++ ys) b
then_idles a c b [] ys h k = after a c b ys h k
then_idles a c b (x ∷ xs) ys h k = ⊎_elim (λ z. inl (z.0, then_idles false c b xs ys z.1 k)) (λ z. inr (z.0, then_idles true c b xs ys z.1 k)) h

pause_idles : (n : ℕ) → Idles false (pause n) true
pause_idles zero = λ e. refl
pause_idles (suc n) = inr (refl, λ e. refl)

-- an operation, and what follows
op_idles : (a b : Bool) (op : Operation) (ws : List Word) → Idles false ws b → Idles a (one op ∷ ws) b
op_idles a b op ws h = inl (tt, h)

last_idles : (a : Bool) (op : Operation) → Idles a (one op ∷ []) false
last_idles a op = inl (tt, λ e. e)

spread_operates : (n : ℕ) (op : ℕ → Operation) → 0 < n → Operates (on_clusters n op)
spread_operates zero op lt = absurd (omega arith)
spread_operates (suc n) op lt = tt

module _ (T : Target) where
  settled_idles : (a : Bool) (ws : List Word) → Idles a ws false → Idles a (settled T ws) true
  settled_idles a ws h = then_idles a false true ws (pause (in_flight T.machine 0 ws)) h (pause_idles (in_flight T.machine 0 ws))

  one_idles : (op : Operation) → Idles true (settled T (one op ∷ [])) true
  one_idles op = settled_idles true (one op ∷ []) (last_idles true op)

  -- an operation, a pause, and another operation
  two_idles : (op next : Operation) → Idles true (settled T (one op ∷ []) ++ one next ∷ []) false
  two_idles op next = then_idles true true false (settled T (one op ∷ [])) (one next ∷ []) (one_idles op) (last_idles true next)

  module _ (f : ℕ) where
    load_slot_idles : (up v : ℕ) (to : GeneralRegister) (b : ℕ) → Idles true (load_slot T f up v to b) false
    load_slot_idles up v to b = by (holds_branch T f v)
      where
        by : (c : Bool) → Idles true (if c
            then settled T (one (Load 0 answer (bytes (up + T.slot f v)) (stack_on 0) false) ∷ []) ++ one (Compute 0 (ToBranch Ne) (InBranch (record { cluster = 0; number = b })) (Held answer) (Number (pos 0))) ∷ []
            else one (Load to.cluster to (bytes (up + T.slot f v)) (stack_on to.cluster) false) ∷ []) false
        by true = two_idles (Load 0 answer (bytes (up + T.slot f v)) (stack_on 0) false) (Compute 0 (ToBranch Ne) (InBranch (record { cluster = 0; number = b })) (Held answer) (Number (pos 0)))
        by false = last_idles true (Load to.cluster to (bytes (up + T.slot f v)) (stack_on to.cluster) false)

    store_slot_idles : (v : ℕ) (from : GeneralRegister) (b : ℕ) → Idles true (store_slot T f v from b) false
    store_slot_idles v from b = by (holds_branch T f v)
      where
        by : (c : Bool) → Idles true (if c
            then settled T (one (Select 0 answer (record { cluster = 0; number = b }) (Number (pos 1)) (Number (pos 0))) ∷ []) ++ one (Store 0 (bytes (T.slot f v)) (stack_on 0) (Held answer)) ∷ []
            else one (Store from.cluster (bytes (T.slot f v)) (stack_on from.cluster) (Held from)) ∷ []) false
        by true = two_idles (Select 0 answer (record { cluster = 0; number = b }) (Number (pos 1)) (Number (pos 0))) (Store 0 (bytes (T.slot f v)) (stack_on 0) (Held answer))
        by false = last_idles true (Store from.cluster (bytes (T.slot f v)) (stack_on from.cluster) (Held from))

    loads_on : (names vs : List ℕ) → Idles false (load_slots T f names vs) false
    loads_on names [] = λ e. e
    loads_on names (v ∷ vs) =
        let here : List Word = load_slot T f 0 v (general_of T f names v) (branch_of T f names v) in
        then_idles false false false here (load_slots T f names vs) (weak false false here (load_slot_idles 0 v (general_of T f names v) (branch_of T f names v))) (loads_on names vs)

    loads_idles : (names : List ℕ) (v : ℕ) (vs : List ℕ) → Idles true (load_slots T f names (v ∷ vs)) false
    loads_idles names v vs = then_idles true false false (load_slot T f 0 v (general_of T f names v) (branch_of T f names v)) (load_slots T f names vs) (load_slot_idles 0 v (general_of T f names v) (branch_of T f names v)) (loads_on names vs)

    stores_on : (names vs : List ℕ) → Idles false (store_slots T f names vs) false
    stores_on names [] = λ e. e
    stores_on names (v ∷ vs) =
        let here : List Word = store_slot T f v (general_of T f names v) (branch_of T f names v) in
        then_idles false false false here (store_slots T f names vs) (weak false false here (store_slot_idles v (general_of T f names v) (branch_of T f names v))) (stores_on names vs)

    stores_idles : (names : List ℕ) (v : ℕ) (vs : List ℕ) → Idles true (store_slots T f names (v ∷ vs)) false
    stores_idles names v vs = then_idles true false false (store_slot T f v (general_of T f names v) (branch_of T f names v)) (store_slots T f names vs) (store_slot_idles v (general_of T f names v) (branch_of T f names v)) (stores_on names vs)

    before_idles : (names : List ℕ) → Idles true (before T f names) true
    before_idles names = by (slotted T f names)
      where
        by : (vs : List ℕ) → Idles true (if_some vs (settled T (load_slots T f names (once vs)))) true
        by [] = λ e. e
        by (v ∷ vs) = settled_idles true (load_slots T f names (once (v ∷ vs))) (loads_idles names v (filter (λ u. not (u == v)) (once vs)))

    behind_idles : (items : List Laid) → Idles false (behind T f items) false
    behind_idles items = by (slotted T f (laid_writes items))
      where
        by : (vs : List ℕ) → Idles false (if_some vs (pause (slots_in_flight T f items) ++ store_slots T f (laid_writes items) vs)) false
        by [] = λ e. e
        by (v ∷ vs) = then_idles false true false (pause (slots_in_flight T f items)) (store_slots T f (laid_writes items) (v ∷ vs)) (pause_idles (slots_in_flight T f items)) (stores_idles (laid_writes items) v vs)

    -- some words, and a pause
    paused_idles : (n : ℕ) (ws : List Word) → Idles true ws false → Idles true (ws ++ pause n) true
    paused_idles n ws h = then_idles true false true ws (pause n) h (pause_idles n)

    reload_idles : (q : ℕ) (vs : List ℕ) → Idles true (reload_words T f q vs) true
    reload_idles q [] = λ e. e
    reload_idles q (v ∷ vs) = let loads : List Word = load_slots T f (v ∷ vs) (v ∷ vs) in paused_idles (wanted T f None q (v ∷ vs) loads) loads (loads_idles (v ∷ vs) v vs)

    -- calls, returns and entries

    fetch_idles : (up : ℕ) (x : Operand) → Idles true (fetch_words T f up x) true
    fetch_idles up (HeldValue v) = by (is_slotted (kept T f v))
      where
        by : (b : Bool) → Idles true (if b then settled T (load_slot T f up v (general_of T f (v ∷ []) v) (branch_of T f (v ∷ []) v)) else []) true
        by true = settled_idles true (load_slot T f up v (general_of T f (v ∷ []) v) (branch_of T f (v ∷ []) v)) (load_slot_idles up v (general_of T f (v ∷ []) v) (branch_of T f (v ∷ []) v))
        by false = λ e. e
    fetch_idles up (AsNumber n) = λ e. e
    fetch_idles up Stack = λ e. e

    arguments_idles : (g : ℕ) (vs : List ℕ) (xs : List Operand) → Idles true (argument_words T f g vs xs) false
    arguments_idles g [] xs = last_idles true (Call (T.entry g))
    arguments_idles g (v ∷ vs) [] = last_idles true (Call (T.entry g))
    arguments_idles g (v ∷ vs) (x ∷ xs) =
        let rest : List Word = argument_words T f g vs xs in
        then_idles true true false (fetch_words T f T.frame x) (store_or_call T g vs (passes T f g v x) rest) (fetch_idles T.frame x) (by (calls_beside T g vs (passes T f g v x)) (weak false false rest (arguments_idles g vs xs)))
      where
        by : (b : Bool) → Idles false (argument_words T f g vs xs) false → Idles true (if b then record { ops = passes T f g v x ∷ Call (T.entry g) ∷ []; idle = 0 } ∷ [] else one (passes T f g v x) ∷ argument_words T f g vs xs) false
        by true h = inl (tt, λ e. e)
        by false h = op_idles true false (passes T f g v x) (argument_words T f g vs xs) h

    result_idles : (result : Option ℕ) → Idles true (result_words T f result) true
    result_idles None = λ e. e
    result_idles (Some v) = by (is_slotted (kept T f v))
      where
        by : (b : Bool) → Idles true (if b then one (Store 0 (bytes (T.slot f v)) (stack_on 0) (Held answer)) ∷ [] else settled T (one (Move (home T f v) (general_of T f (v ∷ []) v) (Held answer)) ∷ [])) true
        by true = strong true true (one (Store 0 (bytes (T.slot f v)) (stack_on 0) (Held answer)) ∷ []) (last_idles true (Store 0 (bytes (T.slot f v)) (stack_on 0) (Held answer)))
        by false = one_idles (Move (home T f v) (general_of T f (v ∷ []) v) (Held answer))

    answer_idles : (x : Operand) → Idles true (answer_words T f x) true
    answer_idles x =
        let loads : List Word = together T.machine (Move 0 answer (fetched T f x)) (Load 0 (general 0 3) (pos 0) (stack_on 0) false) in
        then_idles true true true (settled T loads) (settled T (one (ToLink (Held (general 0 3))) ∷ []))
        (settled_idles true loads (both (fits T.machine (Move 0 answer (fetched T f x) ∷ Load 0 (general 0 3) (pos 0) (stack_on 0) false ∷ [])))) (one_idles (ToLink (Held (general 0 3))))
      where
        both : (c : Bool) → Idles true (if c then record { ops = Move 0 answer (fetched T f x) ∷ Load 0 (general 0 3) (pos 0) (stack_on 0) false ∷ []; idle = 0 } ∷ [] else one (Move 0 answer (fetched T f x)) ∷ one (Load 0 (general 0 3) (pos 0) (stack_on 0) false) ∷ []) false
        both true = inl (tt, λ e. e)
        both false = inl (tt, inl (tt, λ e. e))

    beside_idles : (a b : Operation) → Idles true (last_beside T a b) false
    beside_idles a b = by ((latency_of T.machine a == 1) && fits T.machine (a ∷ b ∷ []))
      where
        by : (c : Bool) → Idles true (if c then record { ops = a ∷ b ∷ []; idle = 0 } ∷ [] else settled T (one a ∷ []) ++ one b ∷ []) false
        by true = inl (tt, λ e. e)
        by false = two_idles a b

    leave_idles : (x : Operand) → Idles true (leave_words T f x) false
    leave_idles x = by (is_caller T f)
      where
        by : (b : Bool) → Idles true (if b then answer_words T f x ++ one Return ∷ [] else last_beside T (Move 0 answer (fetched T f x)) Return) false
        by true = then_idles true true false (answer_words T f x) (one Return ∷ []) (answer_idles x) (last_idles true Return)
        by false = beside_idles (Move 0 answer (fetched T f x)) Return

    return_idles : (x : Operand) → Idles true (return_words T f x) false
    return_idles x = then_idles true true false (fetch_words T f 0 x) (leave_words T f x) (fetch_idles 0 x) (leave_idles x)

    -- parameters are brought, and the link is stored; without either there is no pause
    begin_idles : (next : Option ℕ) (q : ℕ) (vs : List ℕ) → Idles true ((load_slots T f vs vs ++ link_words T f) ++ pause (wanted T f next q vs (load_slots T f vs vs ++ link_words T f))) true
    begin_idles next q vs = by (is_caller T f) vs
      where
        keeps : List Word
        keeps = settled T (one (FromLink (general 0 3)) ∷ []) ++ one (Store 0 (pos 0) (stack_on 0) (Held (general 0 3))) ∷ []

        kept_idles : Idles true keeps false
        kept_idles = two_idles (FromLink (general 0 3)) (Store 0 (pos 0) (stack_on 0) (Held (general 0 3)))

        by : (b : Bool) (us : List ℕ) → Idles true ((load_slots T f us us ++ (if b then keeps else [])) ++ pause (wanted T f next q us (load_slots T f us us ++ (if b then keeps else [])))) true
        by true [] = paused_idles 0 keeps kept_idles
        by true (v ∷ us) = paused_idles (wanted T f next q (v ∷ us) (load_slots T f (v ∷ us) (v ∷ us) ++ keeps)) (load_slots T f (v ∷ us) (v ∷ us) ++ keeps) (then_idles true false false (load_slots T f (v ∷ us) (v ∷ us)) keeps (loads_idles (v ∷ us) v us) (weak false false keeps kept_idles))
        by false [] = λ e. e
        by false (v ∷ us) = paused_idles (wanted T f next q (v ∷ us) (load_slots T f (v ∷ us) (v ∷ us) ++ [])) (load_slots T f (v ∷ us) (v ∷ us) ++ []) (then_idles true false false (load_slots T f (v ∷ us) (v ∷ us)) [] (loads_idles (v ∷ us) v us) (λ e. e))

    way_idles : (next q : ℕ) → Idles true (way T f next q) (follows T f next q)
    way_idles next q = by (follows T f next q)
      where
        by : (b : Bool) → Idles true (if b then [] else one (Goto (T.starts f q)) ∷ []) b
        by true = λ e. e
        by false = last_idles true (Goto (T.starts f q))

    entry_idles : Idles true (entry_words T f) (follows T f 0 (past T f (T.layout f).entry))
    entry_idles =
        let ahead : Bool = follows T f 0 (past T f (T.layout f).entry) in
        let next : List Word = way T f 0 (past T f (T.layout f).entry) in
        let q : ℕ = past T f (T.layout f).entry in
        then_idles true true ahead (begin_words T f ++ pause (wanted T f (Some 0) q (T.brought f) (begin_words T f))) next (begin_idles (Some 0) q (T.brought f)) (way_idles 0 (past T f (T.layout f).entry))

    module _ (some : 0 < T.machine.clusters) where
      move_stack_idles : (z : ℤ) → Idles true (move_stack T z) true
      move_stack_idles z =
          let op : ℕ → Operation = λ k. Compute k Add (InGeneral (stack_on k)) (Held (stack_on k)) (Number z) in
          settled_idles true (record { ops = on_clusters T.machine.clusters op; idle = 0 } ∷ []) (inl (spread_operates T.machine.clusters op some, λ e. e))

      lower_idles : Idles true (leave_or_lower T) true
      lower_idles = by ((T.machine.latency_alu == 1) && fits T.machine (BranchOn 0 true T.depth_trap ∷ stack_steps T (neg_ℤ (bytes T.frame))))
        where
          by : (b : Bool) → Idles true (if b then record { ops = BranchOn 0 true T.depth_trap ∷ stack_steps T (neg_ℤ (bytes T.frame)); idle = 0 } ∷ [] else one (BranchOn 0 true T.depth_trap) ∷ move_stack T (neg_ℤ (bytes T.frame))) true
          by true = inl (tt, λ e. refl)
          by false = let down : List Word = move_stack T (neg_ℤ (bytes T.frame)) in op_idles true true (BranchOn 0 true T.depth_trap) down (weak false true down (move_stack_idles (neg_ℤ (bytes T.frame))))

      call_idles : (p g : ℕ) (xs : List Operand) → Idles true (call_words T f p g xs) false
      call_idles p g xs =
          let test : Operation = Compute 0 (ToBranch Ltu) (InBranch (record { cluster = 0; number = 0 })) (Held (stack_on 0)) (Number (bytes (T.globals + T.frame))) in
          let passed : List Word = argument_words T f g (parameters_of T g) xs in
          let lowered : Idles true (leave_or_lower T ++ passed) false = then_idles true true false (leave_or_lower T) passed lower_idles (arguments_idles g (parameters_of T g) xs) in
          let saves : List Word = save_words T f (T.saved f p) in
          then_idles true true false (settled T (one test ∷ saves)) (leave_or_lower T ++ passed) (settled_idles true (one test ∷ saves) (op_idles true false test saves (stores_on (T.saved f p) (T.saved f p)))) lowered

      back_idles : (p : ℕ) (result : Option ℕ) → Idles true (back_words T f p result) true
      back_idles p result =
          then_idles true true true (move_stack T (bytes T.frame)) (result_words T f result ++ reload_words T f (p + 1) (T.saved f p)) (move_stack_idles (bytes T.frame))
          (then_idles true true true (result_words T f result) (reload_words T f (p + 1) (T.saved f p)) (result_idles result) (reload_idles (p + 1) (T.saved f p)))

      called_idles : (p g : ℕ) (xs : List Operand) (result : Option ℕ) → Idles true (call_words T f p g xs ++ back_words T f p result) true
      called_idles p g xs result = then_idles true true true (call_words T f p g xs) (back_words T f p result) (strong true true (call_words T f p g xs) (call_idles p g xs)) (back_idles p result)

      start_idles : (main : ℕ) → Idles true (start_words T main) false
      start_idles main =
          let op : ℕ → Operation = λ k. Move k (stack_on k) (Number (bytes (first_frame T))) in
          then_idles true true false (set_stack T) (one (Call (T.entry main)) ∷ one (Halt (Held answer)) ∷ [])
          (settled_idles true (record { ops = on_clusters T.machine.clusters op; idle = 0 } ∷ []) (inl (spread_operates T.machine.clusters op some, λ e. e)))
          (inl (tt, inl (tt, λ e. e)))

-- with the words of the plan, from a place on

module _ (T : Target) (count : ℕ) where
  abbrev pub Busy : ℕ → Word → Type 0
  Busy q w = IsPlannedAt T count q ⊎ Operates w.ops

  abbrev Runs : Bool → ℕ → List Word → Bool → Type 0
  Runs a q [] b = a ≡ true → b ≡ true
  Runs a q (w ∷ ws) b = (Busy q w × Runs false (suc q) ws b) ⊎ ((a ≡ false) × Runs true (suc q) ws b)

  runs_of : (a b : Bool) (q : ℕ) (ws : List Word) → Idles a ws b → Runs a q ws b
  runs_of a b q [] h = h
  runs_of a b q (w ∷ ws) h = ⊎_elim (λ x. inl (inr x.0, runs_of false b (suc q) ws x.1)) (λ x. inr (x.0, runs_of true b (suc q) ws x.1)) h

  weak_runs : (a b : Bool) (q : ℕ) (ws : List Word) → Runs true q ws b → Runs a q ws b
  weak_runs true b q ws h = h
  weak_runs false b q [] h = λ e. never e
  weak_runs false b q (w ∷ ws) h = ⊎_elim (λ x. inl x) (λ x. never (sym x.0)) h

  runs_after : (a c b : Bool) (q : ℕ) (ws : List Word) → (a ≡ true → c ≡ true) → Runs c q ws b → Runs a q ws b
  runs_after true c b q ws h k = subst (λ z. Runs z q ws b) (h refl) k
  runs_after false true b q ws h k = weak_runs false b q ws k
  runs_after false false b q ws h k = k

  then_runs : (a c b : Bool) (q : ℕ) (xs ys : List Word) → Runs a q xs c → Runs c (q + length xs) ys b → Runs a q (xs ++ ys) b
  then_runs a c b q [] ys h k = let z : q + 0 ≡ q = omega arith in runs_after a c b q ys h (subst (λ n. Runs c n ys b) z k)
  then_runs a c b q (x ∷ xs) ys h k =
      let z : q + suc (length xs) ≡ suc q + length xs = omega arith in
      let on : Runs c (suc q + length xs) ys b = subst (λ n. Runs c n ys b) z k in
      ⊎_elim (λ y. inl (y.0, then_runs false c b (suc q) xs ys y.1 on)) (λ y. inr (y.0, then_runs true c b (suc q) xs ys y.1 on)) h

  -- of two words one behind the other one is busy
  one_busy : (a b : Bool) (q : ℕ) (ws : List Word) (p : ℕ) (x y : Word) → Runs a q ws b → slice_get ws p ≡ Some x → slice_get ws (suc p) ≡ Some y → Busy (q + p) x ⊎ Busy (q + suc p) y
  one_busy a b q [] p x y h d e = absurd (let z : None ≡ Some x = d in cc)
  one_busy a b q (w ∷ []) zero x y h d e = absurd (let z : None ≡ Some y = e in cc)
  one_busy a b q (w ∷ (v ∷ ws)) zero x y h d e =
      let s : w ≡ x = cc in
      let t : v ≡ y = cc in
      let n : q ≡ q + 0 = omega arith in
      let m : suc q ≡ q + suc 0 = omega arith in
      ⊎_elim
      (λ i. inl (subst (λ z. Busy (q + 0) z) s (subst (λ z. Busy z w) n i.0)))
      (λ i. ⊎_elim (λ j. inr (subst (λ z. Busy (q + suc 0) z) t (subst (λ z. Busy z v) m j.0))) (λ j. never (sym j.0)) i.1)
      h
  one_busy a b q (w ∷ ws) (suc p) x y h d e =
      let n : suc q + p ≡ q + suc p = omega arith in
      let m : suc q + suc p ≡ q + suc (suc p) = omega arith in
      let later : Busy (suc q + p) x ⊎ Busy (suc q + suc p) y = ⊎_elim (λ i. one_busy false b (suc q) ws p x y i.1 d e) (λ i. one_busy true b (suc q) ws p x y i.1 d e) h in
      ⊎_elim (λ i. inl (subst (λ z. Busy z x) n i)) (λ i. inr (subst (λ z. Busy z y) m i)) later

  -- pieces one behind the other

  abbrev RunPieces : Bool → List Labelled → Bool → Type 0
  RunPieces a [] b = a ≡ true → b ≡ true
  RunPieces a (x ∷ xs) b = (c : Bool) × Runs a (place_of T x.label) x.words c × RunPieces c xs b

  weak_pieces : (a c b : Bool) (xs : List Labelled) → (a ≡ true → c ≡ true) → RunPieces c xs b → RunPieces a xs b
  weak_pieces a c b [] h k = λ e. k (h e)
  weak_pieces a c b (x ∷ xs) h k = (k.0, runs_after a c k.0 (place_of T x.label) x.words h k.1, k.2)

  then_pieces : (a c b : Bool) (xs ys : List Labelled) → RunPieces a xs c → RunPieces c ys b → RunPieces a (xs ++ ys) b
  then_pieces a c b [] ys h k = weak_pieces a c b ys h k
  then_pieces a c b (x ∷ xs) ys h k = (h.0, h.1, then_pieces h.0 c b xs ys h.2 k)

  runs_pieces : (a b : Bool) (q : ℕ) (xs : List Labelled) → PlacedAt T q xs → RunPieces a xs b → Runs a q (words_of xs) b
  runs_pieces a b q [] p h = h
  runs_pieces a b q (x ∷ xs) p h = then_runs a h.0 b q x.words (words_of xs) (subst (λ n. Runs a n x.words h.0) p.0 h.1) (runs_pieces h.0 b (q + length x.words) xs p.1 h.2)

module _ (T : Target) (flow : Flow) (ls : List VWords) (w : WordProgram) (carries : Carries T flow ls w) (spaced : AreSpaced ls) where
  abbrev Count : ℕ
  Count = length flow.functions

  some : 0 < T.machine.clusters
  some = some_cluster T.machine carries.machine

  abbrev Pieces : Bool → List Labelled → Bool → Type 0
  Pieces a xs b = RunPieces T Count a xs b

  module _ (f : ℕ) (lt : f < Count) where
    mapped : IsMapped T f
    mapped = (carries.functions f lt).mapped

    abbrev Words : List VirtualWord
    Words = (T.layout f).words

    abbrev HasWordAt : ℕ → VirtualWord → Type 0
    HasWordAt p word = slice_get Words p ≡ Some word

    its_spaced : IsSpaced (T.layout f)
    its_spaced = spaced f (T.layout f) (carries.functions f lt).is.layout

    planned_runs : (p rg wd : ℕ) (items : List Laid) → HasWordAt p (Planned rg wd items) → Runs T Count true (T.starts f p) (plan_words T f p items) false
    planned_runs p rg wd items plan =
        let loads : List Word = before T f (laid_reads items) in
        let there : IsPlannedAt T Count (T.starts f p + length loads) = record { function = f; place = p; region = rg; number = wd; items = items; low = lt; planned = plan; at = refl } in
        then_runs T Count true true false (T.starts f p) loads (plan_word T f p items ∷ behind T f items) (runs_of T Count true true (T.starts f p) loads (before_idles T f (laid_reads items)))
        (inl (inl there, runs_of T Count false false (suc (T.starts f p + length loads)) (behind T f items) (behind_idles T f items)))

    choice_idles : (p test q : ℕ) → Idles true (word_words T f p (Choice test q)) false
    choice_idles p test q = then_idles true true false (before T f (test ∷ [])) (one (BranchOn (branch_of T f (test ∷ []) test) true (T.starts f (past T f q))) ∷ []) (before_idles T f (test ∷ [])) (last_idles true (BranchOn (branch_of T f (test ∷ []) test) true (T.starts f (past T f q))))

    drain_idles : (p n : ℕ) → Idles false (idle_words T f p n) true
    drain_idles p n = by (turns T f (p + 1))
      where
        by : (b : Bool) → Idles false (if b then pause (n - 1) else waits n ∷ []) true
        by true = pause_idles (n - 1)
        by false = inr (refl, λ e. refl)

    -- the last word of a word of the layout may have no operation, or that is so before it and it has no word
    abbrev ends : ℕ → VirtualWord → Bool
    ends p (Planned rg wd items) = false
    ends p (Drain n) = true
    ends p (Transfer q) = follows T f (p + 1) (past T f q)
    ends p (Choice test q) = false
    ends p (Calls g arguments result) = true
    ends p (Returns x) = false
    ends p (Ends k) = false

    -- from behind an idle word, but for empty cycles
    word_runs : (p : ℕ) (word : VirtualWord) → HasWordAt p word → is_drain word ≡ false → Runs T Count true (T.starts f p) (word_words T f p word) (ends p word)
    word_runs p (Planned rg wd items) e s = planned_runs p rg wd items e
    word_runs p (Drain n) e s = never (sym s)
    word_runs p (Transfer q) e s = runs_of T Count true (follows T f (p + 1) (past T f q)) (T.starts f p) (way T f (p + 1) (past T f q)) (way_idles T f (p + 1) (past T f q))
    word_runs p (Choice test q) e s = runs_of T Count true false (T.starts f p) (word_words T f p (Choice test q)) (choice_idles p test q)
    word_runs p (Calls g arguments result) e s = runs_of T Count true true (T.starts f p) (word_words T f p (Calls g arguments result)) (called_idles T f some p g arguments result)
    word_runs p (Returns x) e s = runs_of T Count true false (T.starts f p) (return_words T f x) (return_idles T f x)
    word_runs p (Ends k) e s = runs_of T Count true false (T.starts f p) (one (EndByTrap k) ∷ []) (last_idles true (EndByTrap k))

    any_word_runs : (a : Bool) (p : ℕ) (word : VirtualWord) → HasWordAt p word → (a ≡ true → is_drain word ≡ false) → Runs T Count a (T.starts f p) (word_words T f p word) (ends p word)
    any_word_runs true p word e h = word_runs p word e (h refl)
    any_word_runs false p (Drain n) e h = runs_of T Count false true (T.starts f p) (idle_words T f p n) (drain_idles p n)
    any_word_runs false p (Planned rg wd items) e h = weak_runs T Count false false (T.starts f p) (plan_words T f p items) (word_runs p (Planned rg wd items) e refl)
    any_word_runs false p (Transfer q) e h = weak_runs T Count false (follows T f (p + 1) (past T f q)) (T.starts f p) (word_words T f p (Transfer q)) (word_runs p (Transfer q) e refl)
    any_word_runs false p (Choice test q) e h = weak_runs T Count false false (T.starts f p) (word_words T f p (Choice test q)) (word_runs p (Choice test q) e refl)
    any_word_runs false p (Calls g arguments result) e h = weak_runs T Count false true (T.starts f p) (word_words T f p (Calls g arguments result)) (word_runs p (Calls g arguments result) e refl)
    any_word_runs false p (Returns x) e h = weak_runs T Count false false (T.starts f p) (return_words T f x) (word_runs p (Returns x) e refl)
    any_word_runs false p (Ends k) e h = weak_runs T Count false false (T.starts f p) (word_words T f p (Ends k)) (word_runs p (Ends k) e refl)

    -- a transfer without a word goes on to the next one, which is none of empty cycles
    goes_ahead : (p q : ℕ) → HasWordAt p (Transfer q) → follows T f (p + 1) (past T f q) ≡ true → GoesOn (T.layout f) p
    goes_ahead p q e s =
        let d : ℕ = past T f q in
        let parts : ((p + 1 == d) ≡ true) × (not (is_drain_there (slice_get Words d)) ≡ true) = and_parts (p + 1 == d) (not (is_drain_there (slice_get Words d))) s in
        let next : p + 1 ≡ d = eqb-true (p + 1) d parts.0 in
        let inside : d < length Words = past_below T f mapped.settled.inside q (mapped.settled.inside p q (Transfer q) e refl) in
        by d (slice_get Words d) refl (let z : suc p ≡ d = omega arith in z) inside parts.1
      where
        by : (q : ℕ) (o : Option VirtualWord) → slice_get Words q ≡ o → suc p ≡ q → q < length Words → not (is_drain_there o) ≡ true → GoesOn (T.layout f) p
        by q None d n lt_ k = absurd (let a = get_some Words q lt_ in let z : None ≡ Some a.0 = sym d ∙ a.1 in cc)
        by q (Some word) d n lt_ k = record { word = word; next = ap (slice_get Words) n ∙ d; other = not_true (is_drain word) k }

    goes_on : (p : ℕ) (word : VirtualWord) → HasWordAt p word → ends p word ≡ true → GoesOn (T.layout f) p
    goes_on p (Drain n) e s = its_spaced.drains p n e
    goes_on p (Calls g arguments result) e s = its_spaced.calls p g arguments result e
    goes_on p (Transfer q) e s = goes_ahead p q e s
    goes_on p (Planned rg wd items) e s = never s
    goes_on p (Choice test q) e s = never s
    goes_on p (Returns x) e s = never s
    goes_on p (Ends k) e s = never s

    -- the words of the layout from a place on
    abbrev Tail : ℕ → List VirtualWord → Type 0
    Tail p words = (i : ℕ) → slice_get words i ≡ slice_get Words (p + i)

    tail_here : (p : ℕ) (word : VirtualWord) (words : List VirtualWord) → Tail p (word ∷ words) → HasWordAt p word
    tail_here p word words h = let z : p + 0 ≡ p = omega arith in sym (h 0 ∙ ap (slice_get Words) z)

    tail_on : (p : ℕ) (word : VirtualWord) (words : List VirtualWord) → Tail p (word ∷ words) → Tail (suc p) words
    tail_on p word words h i = let z : p + suc i ≡ suc p + i = omega arith in h (suc i) ∙ ap (slice_get Words) z

    all_words : Tail 0 Words
    all_words i = let z : i ≡ 0 + i = omega arith in ap (slice_get Words) z

    firm_first : (p : ℕ) (words : List VirtualWord) (word : VirtualWord) → Tail p words → slice_get Words p ≡ Some word → is_drain word ≡ false → Firm words
    firm_first p words word h e s = by words (h 0 ∙ ap (slice_get Words) (let z : p + 0 ≡ p = omega arith in z) ∙ e)
      where
        by : (xs : List VirtualWord) → slice_get xs 0 ≡ Some word → Firm xs
        by [] d = absurd (let z : None ≡ Some word = d in cc)
        by (x ∷ xs) d = let same : x ≡ word = cc in ap is_drain same ∙ s

    laid_runs : (a : Bool) (p : ℕ) (words : List VirtualWord) → Tail p words → (a ≡ true → Firm words) → Pieces a (laid_pieces T f p words) false
    laid_runs a p [] h ok = (false, (λ e. absurd (ok e)), λ e. e)
    laid_runs a p (word ∷ words) h ok =
        let here : HasWordAt p word = tail_here p word words h in
        let on : Tail (suc p) words = tail_on p word words h in
        let firm : ends p word ≡ true → Firm words = λ s. (let n = goes_on p word here s in firm_first (suc p) words n.word on n.next n.other) in
        (ends p word, any_word_runs a p word here ok, laid_runs (ends p word) (suc p) words on firm)

    -- landings

    landing_idles : (items : List Laid) (q : ℕ) → Idles false (landing_words T f items q) false
    landing_idles items q = then_idles false false false (behind T f items) (one (Goto (T.starts f (past T f q))) ∷ []) (behind_idles T f items) (last_idles false (Goto (T.starts f (past T f q))))

    landing_of_runs : (p : ℕ) (items : List Laid) (vs : List ℕ) (q : ℕ) → Pieces false (landing_of T f p items vs q) false
    landing_of_runs p items [] q = λ e. e
    landing_of_runs p items (v ∷ vs) q = (false, runs_of T Count false false (T.landing f p q) (landing_words T f items q) (landing_idles items q), λ e. e)

    landings_runs : (p : ℕ) (items xs : List Laid) → Pieces false (item_landings T f p items xs) false
    landings_runs p items [] = λ e. e
    landings_runs p items (Plain op k ∷ xs) = landings_runs p items xs
    landings_runs p items (Split test y q ∷ xs) = then_pieces T Count false false false (landing_of T f p items (slotted T f (laid_writes items)) q) (item_landings T f p items xs) (landing_of_runs p items (slotted T f (laid_writes items)) q) (landings_runs p items xs)

    landing_word_runs : (p : ℕ) (word : VirtualWord) → Pieces false (word_landings T f p word) false
    landing_word_runs p (Planned rg wd items) = landings_runs p items items
    landing_word_runs p (Drain n) = λ e. e
    landing_word_runs p (Transfer q) = λ e. e
    landing_word_runs p (Choice test q) = λ e. e
    landing_word_runs p (Calls g arguments result) = λ e. e
    landing_word_runs p (Returns x) = λ e. e
    landing_word_runs p (Ends k) = λ e. e

    all_landings : (p : ℕ) (words : List VirtualWord) → Pieces false (landing_pieces T f p words) false
    all_landings p [] = λ e. e
    all_landings p (word ∷ words) = then_pieces T Count false false false (word_landings T f p word) (landing_pieces T f (suc p) words) (landing_word_runs p word) (all_landings (suc p) words)

    -- a function

    -- where the words of the entry lead
    abbrev First : ℕ
    First = past T f (T.layout f).entry

    abbrev Ahead : Bool
    Ahead = follows T f 0 First

    begins_firm : Ahead ≡ true → Firm Words
    begins_firm h = by Words (let a = mapped.settled.entry in omega arith) (ap not (ap (λ n. is_drain_there (slice_get Words n)) zero_first) ∙ parts.1)
      where
        parts : ((0 == First) ≡ true) × (not (is_drain_there (slice_get Words First)) ≡ true)
        parts = and_parts (0 == First) (not (is_drain_there (slice_get Words First))) h

        zero_first : 0 ≡ First
        zero_first = eqb-true 0 First parts.0

        by : (xs : List VirtualWord) → 0 < length xs → not (is_drain_there (slice_get xs 0)) ≡ true → Firm xs
        by [] some_ e = absurd (omega arith)
        by (x ∷ xs) some_ e = not_true (is_drain x) e

    function_runs : Pieces false (function_pieces T f) false
    function_runs = (
      Ahead,
      weak_runs T Count false Ahead (T.entry f) (entry_words T f) (runs_of T Count true Ahead (T.entry f) (entry_words T f) (entry_idles T f)),
      then_pieces T Count Ahead false false (laid_pieces T f 0 Words) (landing_pieces T f 0 Words) (laid_runs Ahead 0 Words all_words begins_firm) (all_landings 0 Words),
    )

  functions_runs : (f n : ℕ) → f + n ≤ Count → Pieces false (functions_pieces T f n) false
  functions_runs f zero h = λ e. e
  functions_runs f (suc n) h = then_pieces T Count false false false (function_pieces T f) (functions_pieces T (suc f) n) (function_runs f (omega arith)) (functions_runs (suc f) n (omega arith))

  all_runs : Runs T Count false 0 w.words false
  all_runs = subst (λ ws. Runs T Count false 0 ws false) (sym carries.placed.is) (runs_pieces T Count false false 0 (all_pieces T flow.main Count) carries.placed.places (
    false,
    weak_runs T Count false false 0 (start_words T flow.main) (runs_of T Count true false 0 (start_words T flow.main) (start_idles T 0 some flow.main)),
    then_pieces T Count false false false (functions_pieces T 0 Count) (record { label = Depth; words = one (EndByTrap ByDepth) ∷ [] } ∷ []) (functions_runs 0 Count (omega arith))
        (false, inl (inr tt, λ e. e), λ e. e),
  ))

  pub busy_beside : (q : ℕ) (x y : Word) → slice_get w.words q ≡ Some x → slice_get w.words (suc q) ≡ Some y → Busy T Count q x ⊎ Busy T Count (suc q) y
  busy_beside q x y d e =
      let n : 0 + q ≡ q = omega arith in
      let m : 0 + suc q ≡ suc q = omega arith in
      ⊎_elim (λ i. inl (subst (λ z. Busy T Count z x) n i)) (λ i. inr (subst (λ z. Busy T Count z y) m i)) (one_busy T Count false false 0 w.words q x y all_runs d e)
