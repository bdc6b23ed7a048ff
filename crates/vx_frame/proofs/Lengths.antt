-- How many words carry a word does not depend on places.
use Rattle.std.proofs.Common.{◌≡◌, ℕ, zero, suc, ◌+◌, true, Option, Some, None, List, [], ◌∷◌, ◌++◌, length, refl, sym, ap, ◌∙◌, arith, length-append}
use Rattle.vx_flow.specs.declared.graph.Operand.{Operand}
use Rattle.vx_flow.specs.declared.graph.Operand.TheVariants.{Held as HeldValue, Number as AsNumber, Stack}
use Rattle.std.specs.Prelude.{neg_ℤ, max, ◌-◌, ◌==◌, ◌&&◌, Bool, false, if◌then◌else◌, slice_get}
use Rattle.std.specs.List.{list_any}
use Rattle.vx_base.specs.declared.arithmetic.Code.TheVariants.{ToBranch}
use Rattle.vx_base.specs.declared.arithmetic.Compare.TheVariants.{Ltu}
use Rattle.vx_isa.specs.Fits.{fits}
use Rattle.vx_isa.specs.declared.operation.Operation.{Operation}
use Rattle.vx_isa.specs.declared.operation.Operation.TheVariants.{BranchOn, Call, Compute, Goto, Halt}
use Rattle.vx_isa.specs.declared.operation.Register.{Register}
use Rattle.vx_isa.specs.declared.operation.Register.TheVariants.{Branch as InBranch}
use Rattle.vx_isa.specs.declared.operation.Source.TheVariants.{Held, Number}
use Rattle.vx_isa.specs.declared.program.Word.{Word}
use Rattle.vx_flow.specs.Effects.{writes}
use Rattle.vx_room.specs.Items.{latency_of_op}
use Rattle.vx_mixed.specs.declared.layout.Laid.{Laid}
use Rattle.vx_mixed.specs.declared.layout.Laid.TheVariants.{Plain, Split}
use Rattle.vx_mixed.specs.declared.layout.VirtualWord.{VirtualWord}
use Rattle.vx_mixed.specs.declared.layout.VirtualWord.TheVariants.{Planned, Drain, Transfer, Choice, Call as Calls, Return as Returns, Ends}
use Rattle.vx_mixed.specs.LaidSettled.{laid_reads, laid_writes}
use Rattle.vx_target.specs.Target.{Target, answer, bytes, one, set_stack, start_words, stack_on, stack_steps, move_stack, leave_or_lower, parameters_of, slotted, general_of, branch_of, register_of, is_split, spares, turns, beside_turn, by_way, spared_at, spared, most_spared, flight, time_to, wanted, begin_words, load_slot, store_slot, load_slots, store_slots, if_some, once, pause, settled, if_any, slots_in_flight, before, behind, plan_word, plan_words, past, landing_words, fetch_words, passes, calls_beside, store_or_call, argument_words, result_words, save_words, reload_words, call_words, back_words, return_words, follows, way, link_words, entry_words, word_words}
use Rattle.vx_target.specs.Placed.{landing_of, item_landings, word_landings, words_of}
use Rattle.vx_frame.specs.Placing.{Spots, at_spots}
use Rattle.vx_frame.proofs.Emitting.{words_of_append}

-- lists

len_behind : {A : Type 0} (xs ys zs : List A) → length ys ≡ length zs → length (xs ++ ys) ≡ length (xs ++ zs)
len_behind [] ys zs h = h
len_behind (x ∷ xs) ys zs h = ap suc (len_behind xs ys zs h)

len_both : {A : Type 0} (xs ys us vs : List A) → length xs ≡ length us → length ys ≡ length vs → length (xs ++ ys) ≡ length (us ++ vs)
len_both xs ys us vs h k = let a = length-append xs ys in let b = length-append us vs in omega arith

-- words that do not depend on places

load_slots_same : (T : Target) (s : Spots) (f : ℕ) (names vs : List ℕ) → load_slots (at_spots T s) f names vs ≡ load_slots T f names vs
load_slots_same T s f names [] = refl
load_slots_same T s f names (v ∷ vs) = ap (λ z. load_slot T f 0 v (general_of T f names v) (branch_of T f names v) ++ z) (load_slots_same T s f names vs)

store_slots_same : (T : Target) (s : Spots) (f : ℕ) (names vs : List ℕ) → store_slots (at_spots T s) f names vs ≡ store_slots T f names vs
store_slots_same T s f names [] = refl
store_slots_same T s f names (v ∷ vs) = ap (λ z. store_slot T f v (general_of T f names v) (branch_of T f names v) ++ z) (store_slots_same T s f names vs)

pub before_same : (T : Target) (s : Spots) (f : ℕ) (rs : List ℕ) → before (at_spots T s) f rs ≡ before T f rs
before_same T s f rs = ap (λ z. if_some (slotted T f rs) (settled T z)) (load_slots_same T s f rs (once (slotted T f rs)))

slots_in_flight_same : (T : Target) (s : Spots) (f : ℕ) (items : List Laid) → slots_in_flight (at_spots T s) f items ≡ slots_in_flight T f items
slots_in_flight_same T s f [] = refl
slots_in_flight_same T s f (Plain op k ∷ items) = ap (λ n. max (if_any (slotted T f (writes op)) (latency_of_op T.machine op - 1)) n) (slots_in_flight_same T s f items)
slots_in_flight_same T s f (Split test y q ∷ items) = slots_in_flight_same T s f items

behind_same : (T : Target) (s : Spots) (f : ℕ) (items : List Laid) → behind (at_spots T s) f items ≡ behind T f items
behind_same T s f items =
    let ws = laid_writes items in
    ap (λ n. if_some (slotted T f ws) (pause n ++ store_slots (at_spots T s) f ws (slotted T f ws))) (slots_in_flight_same T s f items)
    ∙ ap (λ z. if_some (slotted T f ws) (pause (slots_in_flight T f items) ++ z)) (store_slots_same T s f ws (slotted T f ws))

-- the room for a store beside a call does not depend on where the call leads
stored_length : (T : Target) (s : Spots) (g : ℕ) (more : List ℕ) (store : Operation) (us ws : List Word) → length us ≡ length ws → length (store_or_call (at_spots T s) g more store us) ≡ length (store_or_call T g more store ws)
stored_length T s g more store us ws h = by (calls_beside T g more store)
  where
    Stored : ℕ → List Word → Bool → List Word
    Stored q rest b = if b then record { ops = store ∷ Call q ∷ []; idle = 0 } ∷ [] else one store ∷ rest

    by : (b : Bool) → length (Stored (s.entry g) us b) ≡ length (Stored (T.entry g) ws b)
    by true = refl
    by false = ap suc h

passed_length : (T : Target) (s : Spots) (f g v : ℕ) (more : List ℕ) (x : Operand) (us ws : List Word) → length us ≡ length ws → length (fetch_words (at_spots T s) f T.frame x ++ store_or_call (at_spots T s) g more (passes (at_spots T s) f g v x) us) ≡ length (fetch_words T f T.frame x ++ store_or_call T g more (passes T f g v x) ws)
passed_length T s f g v more (HeldValue u) us ws h = len_behind (fetch_words T f T.frame (HeldValue u)) (store_or_call (at_spots T s) g more (passes T f g v (HeldValue u)) us) (store_or_call T g more (passes T f g v (HeldValue u)) ws) (stored_length T s g more (passes T f g v (HeldValue u)) us ws h)
passed_length T s f g v more (AsNumber n) us ws h = stored_length T s g more (passes T f g v (AsNumber n)) us ws h
passed_length T s f g v more Stack us ws h = stored_length T s g more (passes T f g v Stack) us ws h

argument_length : (T : Target) (s : Spots) (f g : ℕ) (vs : List ℕ) (arguments : List Operand) → length (argument_words (at_spots T s) f g vs arguments) ≡ length (argument_words T f g vs arguments)
argument_length T s f g [] arguments = refl
argument_length T s f g (v ∷ vs) [] = refl
argument_length T s f g (v ∷ vs) (x ∷ arguments) = passed_length T s f g v vs x (argument_words (at_spots T s) f g vs arguments) (argument_words T f g vs arguments) (argument_length T s f g vs arguments)

result_same : (T : Target) (s : Spots) (f : ℕ) (result : Option ℕ) → result_words (at_spots T s) f result ≡ result_words T f result
result_same T s f None = refl
result_same T s f (Some v) = refl

return_same : (T : Target) (s : Spots) (f : ℕ) (x : Operand) → return_words (at_spots T s) f x ≡ return_words T f x
return_same T s f (HeldValue v) = refl
return_same T s f (AsNumber n) = refl
return_same T s f Stack = refl

-- nor does how long they are waited for

spared_at_same : (T : Target) (s : Spots) (f : ℕ) (r : Register) (p : ℕ) (on more : ℕ → ℕ) (o : Option VirtualWord) → ((q : ℕ) → on q ≡ more q) → spared_at (at_spots T s) f r p on o ≡ spared_at T f r p more o
spared_at_same T s f r p on more None h = refl
spared_at_same T s f r p on more (Some (Planned rg w items)) h = ap (λ n. if spares T f r items then (if list_any is_split items then 1 else suc (beside_turn (turns T f (p + 1)) n)) else 0) (h (p + 1))
spared_at_same T s f r p on more (Some (Drain n)) h = refl
spared_at_same T s f r p on more (Some (Transfer q)) h = ap (by_way T f (p + 1) (past T f q)) (h (past T f q))
spared_at_same T s f r p on more (Some (Choice test q)) h = refl
spared_at_same T s f r p on more (Some (Calls g arguments result)) h = refl
spared_at_same T s f r p on more (Some (Returns x)) h = refl
spared_at_same T s f r p on more (Some (Ends k)) h = refl

spared_same : (T : Target) (s : Spots) (f : ℕ) (r : Register) (n p : ℕ) → spared (at_spots T s) f r n p ≡ spared T f r n p
spared_same T s f r zero p = refl
spared_same T s f r (suc n) p = spared_at_same T s f r p (spared (at_spots T s) f r n) (spared T f r n) (slice_get (T.layout f).words p) (spared_same T s f r n)

time_same : (T : Target) (s : Spots) (f : ℕ) (next : Option ℕ) (q : ℕ) (r : Register) → time_to (at_spots T s) f next q r ≡ time_to T f next q r
time_same T s f None q r = spared_same T s f r most_spared q
time_same T s f (Some next) q r = ap (by_way T f next q) (spared_same T s f r most_spared q)

wanted_same : (T : Target) (s : Spots) (f : ℕ) (next : Option ℕ) (q : ℕ) (vs : List ℕ) (ws : List Word) → wanted (at_spots T s) f next q vs ws ≡ wanted T f next q vs ws
wanted_same T s f next q [] ws = refl
wanted_same T s f next q (v ∷ vs) ws =
    let r : Register = register_of T f (v ∷ []) v in
    ap (λ n. max (flight T.machine r 0 ws - n) (wanted (at_spots T s) f next q vs ws)) (time_same T s f next q r)
    ∙ ap (max (flight T.machine r 0 ws - time_to T f next q r)) (wanted_same T s f next q vs ws)

reload_same : (T : Target) (s : Spots) (f q : ℕ) (vs : List ℕ) → reload_words (at_spots T s) f q vs ≡ reload_words T f q vs
reload_same T s f q vs =
    ap (λ z. z ++ pause (wanted (at_spots T s) f None q vs z)) (load_slots_same T s f vs vs)
    ∙ ap (λ n. load_slots T f vs vs ++ pause n) (wanted_same T s f None q vs (load_slots T f vs vs))

back_same : (T : Target) (s : Spots) (f p : ℕ) (result : Option ℕ) → length (back_words (at_spots T s) f p result) ≡ length (back_words T f p result)
back_same T s f p result =
    ap length (ap (λ z. move_stack T (bytes T.frame) ++ (z ++ reload_words (at_spots T s) f (p + 1) (T.saved f p))) (result_same T s f result) ∙ ap (λ z. move_stack T (bytes T.frame) ++ (result_words T f result ++ z)) (reload_same T s f (p + 1) (T.saved f p)))

-- words that do

other_word : (xs ys : List Word) (w v : Word) → length (xs ++ w ∷ ys) ≡ length (xs ++ v ∷ ys)
other_word xs ys w v = len_behind xs (w ∷ ys) (v ∷ ys) refl

pub plan_length : (T : Target) (s : Spots) (f p : ℕ) (items : List Laid) → length (plan_words (at_spots T s) f p items) ≡ length (plan_words T f p items)
plan_length T s f p items =
    let w = plan_word (at_spots T s) f p items in
    ap length (ap (λ z. z ++ w ∷ behind (at_spots T s) f items) (before_same T s f (laid_reads items)) ∙ ap (λ z. before T f (laid_reads items) ++ w ∷ z) (behind_same T s f items))
    ∙ other_word (before T f (laid_reads items)) (behind T f items) w (plan_word T f p items)

-- the room for a branch does not depend on where it leads
lower_length : (T : Target) (s : Spots) → length (leave_or_lower (at_spots T s)) ≡ length (leave_or_lower T)
lower_length T s = by ((T.machine.latency_alu == 1) && fits T.machine (BranchOn 0 true T.depth_trap ∷ Steps))
  where
    Steps : List Operation
    Steps = stack_steps T (neg_ℤ (bytes T.frame))

    Lowers : ℕ → Bool → List Word
    Lowers q b = if b then record { ops = BranchOn 0 true q ∷ Steps; idle = 0 } ∷ [] else one (BranchOn 0 true q) ∷ move_stack T (neg_ℤ (bytes T.frame))

    by : (b : Bool) → length (Lowers s.depth_trap b) ≡ length (Lowers T.depth_trap b)
    by true = refl
    by false = refl

pub call_length : (T : Target) (s : Spots) (f p g : ℕ) (arguments : List Operand) → length (call_words (at_spots T s) f p g arguments) ≡ length (call_words T f p g arguments)
call_length T s f p g arguments =
    let U = at_spots T s in
    let passed : Target → List Word = λ V. argument_words V f g (parameters_of T g) arguments in
    let lowers : length (leave_or_lower U ++ passed U) ≡ length (leave_or_lower T ++ passed T) = len_both (leave_or_lower U) (passed U) (leave_or_lower T) (passed T) (lower_length T s) (argument_length T s f g (parameters_of T g) arguments) in
    len_both (settled T (depth_word T ∷ save_words U f (T.saved f p))) (leave_or_lower U ++ passed U) (settled T (depth_word T ∷ save_words T f (T.saved f p))) (leave_or_lower T ++ passed T) (ap (λ z. length (settled T (depth_word T ∷ z))) (store_slots_same T s f (T.saved f p) (T.saved f p))) lowers
  where
    depth_word : Target → Word
    depth_word V = one (Compute 0 (ToBranch Ltu) (InBranch (record { cluster = 0; number = 0 })) (Held (stack_on 0)) (Number (bytes (V.globals + V.frame))))

way_length : (T : Target) (s : Spots) (f next q : ℕ) → length (way (at_spots T s) f next q) ≡ length (way T f next q)
way_length T s f next q = by (follows T f next q)
  where
    by : (b : Bool) → length (if b then [] else one (Goto (s.starts f q)) ∷ []) ≡ length (if b then [] else one (Goto (T.starts f q)) ∷ [])
    by true = refl
    by false = refl

pub entry_length : (T : Target) (s : Spots) (g : ℕ) → length (entry_words (at_spots T s) g) ≡ length (entry_words T g)
entry_length T s g =
    let q : ℕ = past T g (T.layout g).entry in
    let begins : Target → List Word = λ U. begin_words U g ++ pause (wanted U g (Some 0) q (T.brought g) (begin_words U g)) in
    let same : begins (at_spots T s) ≡ begins T =
    ap (λ z. (z ++ link_words T g) ++ pause (wanted (at_spots T s) g (Some 0) q (T.brought g) (z ++ link_words T g))) (load_slots_same T s g (T.brought g) (T.brought g))
    ∙ ap (λ n. begin_words T g ++ pause n) (wanted_same T s g (Some 0) q (T.brought g) (begin_words T g)) in
    len_both (begins (at_spots T s)) (way (at_spots T s) g 0 q) (begins T) (way T g 0 q) (ap length same) (way_length T s g 0 q)

pub start_length : (T : Target) (s : Spots) (main : ℕ) → length (start_words (at_spots T s) main) ≡ length (start_words T main)
start_length T s main = len_behind (set_stack T) (one (Call (s.entry main)) ∷ one (Halt (Held answer)) ∷ []) (one (Call (T.entry main)) ∷ one (Halt (Held answer)) ∷ []) refl

pub word_length : (T : Target) (s : Spots) (f p : ℕ) (word : VirtualWord) → length (word_words (at_spots T s) f p word) ≡ length (word_words T f p word)
word_length T s f p (Planned r w items) = plan_length T s f p items
word_length T s f p (Drain n) = refl
word_length T s f p (Transfer q) = way_length T s f (p + 1) (past T f q)
word_length T s f p (Choice test q) = len_both (before (at_spots T s) f (test ∷ [])) (one (BranchOn (branch_of T f (test ∷ []) test) true (s.starts f (past T f q))) ∷ []) (before T f (test ∷ [])) (one (BranchOn (branch_of T f (test ∷ []) test) true (T.starts f (past T f q))) ∷ []) (ap length (before_same T s f (test ∷ []))) refl
word_length T s f p (Calls g arguments result) = len_both (call_words (at_spots T s) f p g arguments) (back_words (at_spots T s) f p result) (call_words T f p g arguments) (back_words T f p result) (call_length T s f p g arguments) (back_same T s f p result)
word_length T s f p (Returns x) = ap length (return_same T s f x)
word_length T s f p (Ends k) = refl

landing_length : (T : Target) (s : Spots) (f : ℕ) (items : List Laid) (q : ℕ) → length (landing_words (at_spots T s) f items q) ≡ length (landing_words T f items q)
landing_length T s f items q = len_both (behind (at_spots T s) f items) (one (Goto (s.starts f (past T f q))) ∷ []) (behind T f items) (one (Goto (T.starts f (past T f q))) ∷ []) (ap length (behind_same T s f items)) refl

pub landing_of_length : (T : Target) (s : Spots) (f p : ℕ) (items : List Laid) (scratch : List ℕ) (q : ℕ) → length (words_of (landing_of (at_spots T s) f p items scratch q)) ≡ length (words_of (landing_of T f p items scratch q))
landing_of_length T s f p items [] q = refl
landing_of_length T s f p items (v ∷ vs) q = len_both (landing_words (at_spots T s) f items q) [] (landing_words T f items q) [] (landing_length T s f items q) refl

item_landings_length : (T : Target) (s : Spots) (f p : ℕ) (items rest : List Laid) → length (words_of (item_landings (at_spots T s) f p items rest)) ≡ length (words_of (item_landings T f p items rest))
item_landings_length T s f p items [] = refl
item_landings_length T s f p items (Plain op cluster ∷ rest) = item_landings_length T s f p items rest
item_landings_length T s f p items (Split test y q ∷ rest) =
    let U = at_spots T s in
    let vs = slotted T f (laid_writes items) in
    ap length (words_of_append (landing_of U f p items vs q) (item_landings U f p items rest))
    ∙ len_both (words_of (landing_of U f p items vs q)) (words_of (item_landings U f p items rest)) (words_of (landing_of T f p items vs q)) (words_of (item_landings T f p items rest)) (landing_of_length T s f p items vs q) (item_landings_length T s f p items rest)
    ∙ sym (ap length (words_of_append (landing_of T f p items vs q) (item_landings T f p items rest)))

pub word_landings_length : (T : Target) (s : Spots) (f p : ℕ) (word : VirtualWord) → length (words_of (word_landings (at_spots T s) f p word)) ≡ length (words_of (word_landings T f p word))
word_landings_length T s f p (Planned r w items) = item_landings_length T s f p items items
word_landings_length T s f p (Drain n) = refl
word_landings_length T s f p (Transfer q) = refl
word_landings_length T s f p (Choice test q) = refl
word_landings_length T s f p (Calls g arguments result) = refl
word_landings_length T s f p (Returns x) = refl
word_landings_length T s f p (Ends k) = refl
