-- Where the values, frames and words of a program are, and the words that carry a laid-out word.
use Rattle.std.specs.Prelude.{not, ℕ, zero, suc, ◌+◌, ◌-◌, ◌*◌, ◌==◌, ◌&&◌, max, ℤ, pos, neg_ℤ, Bool, true, false, nat_lt, if◌then◌else◌, Option, Some, None, List, [], ◌∷◌, ◌++◌, length, map, slice_get}
use Rattle.std.specs.List.{filter, list_all, list_any}
use Rattle.vx_base.specs.Arithmetic.{sum_of}
use Rattle.vx_base.specs.declared.arithmetic.Code.{Code}
use Rattle.vx_base.specs.declared.arithmetic.Code.TheVariants.{Add, Sh2add, Mov, ToBranch}
use Rattle.vx_base.specs.declared.arithmetic.Compare.TheVariants.{Ltu, Ne}
use Rattle.vx_flow.specs.declared.graph.Bank.{Bank}
use Rattle.vx_flow.specs.declared.graph.Bank.TheVariants.{General, Branch}
use Rattle.vx_flow.specs.declared.graph.Operand.{Operand}
use Rattle.vx_flow.specs.declared.graph.Operand.TheVariants.{Held as HeldValue, Number as AsNumber, Stack}
use Rattle.vx_flow.specs.declared.graph.Op.{Op}
use Rattle.vx_flow.specs.declared.graph.Op.TheVariants.{Compute as Computes, Select as Selects, Place, Load as Loads, Store as Stores, More as Asks, Input as Takes, Text, Decimal, Across, Base, PlaceIn}
use Rattle.vx_flow.specs.declared.graph.Graph.{Graph}
use Rattle.vx_flow.specs.Effects.{writes}
use Rattle.vx_flow.specs.Meaning.{deepest}
use Rattle.vx_flow.specs.declared.operands.Reads.{Reads}
use Rattle.vx_flow.specs.Operands.{read_by, written_by}
use Rattle.vx_flow.specs.Sound.{is_local, is_handed as is_handed_array}
use Rattle.vx_flow.specs.Walk.{numbers}
use Rattle.vx_isa.specs.Machine.{cycles_of}
use Rattle.vx_isa.specs.Fits.{fits}
use Rattle.vx_isa.specs.Numbers.{Numbers}
use Rattle.vx_isa.specs.Operations.{destination_of, latency_of, same}
use Rattle.vx_isa.specs.declared.operation.GeneralRegister.{GeneralRegister}
use Rattle.vx_isa.specs.declared.operation.Register.{Register}
use Rattle.vx_isa.specs.declared.operation.Register.TheVariants.{General as InGeneral, Branch as InBranch, Link}
use Rattle.vx_isa.specs.declared.operation.Source.{Source}
use Rattle.vx_isa.specs.declared.operation.Source.TheVariants.{Held, Number}
use Rattle.vx_isa.specs.declared.operation.Operation.{Operation}
use Rattle.vx_isa.specs.declared.operation.Operation.TheVariants.{Compute, Move, Select, Load, Store, Input, More, OutText, OutDecimal, Goto, BranchOn, Call, Return, FromLink, ToLink, EndByTrap, Halt}
use Rattle.vx_isa.specs.declared.program.Word.{Word}
use Rattle.vx_room.specs.Items.{latency_of_op}
use Rattle.vx_mixed.specs.declared.layout.Laid.{Laid}
use Rattle.vx_mixed.specs.declared.layout.Laid.TheVariants.{Plain, Split}
use Rattle.vx_mixed.specs.declared.layout.VirtualWord.{VirtualWord}
use Rattle.vx_mixed.specs.declared.layout.VirtualWord.TheVariants.{Planned, Drain, Transfer, Choice, Call as Calls, Return as Returns, Ends}
use Rattle.vx_mixed.specs.declared.layout.VWords.{VWords}
use Rattle.vx_mixed.specs.LaidSettled.{laid_reads, laid_writes, home_in, bank_in}
use Rattle.vx_regs.specs.declared.map.Kept.{Kept}
use Rattle.vx_regs.specs.declared.map.Kept.TheVariants.{InRegister, InSlot, Nowhere}
use Rattle.vx_regs.specs.declared.map.RegMap.{RegMap}
use Rattle.vx_regs.specs.Mapped.{kept_of}

-- what a target fixes for each function, by its number: its graph, the layout, where its values are kept; in its frame the
-- offsets of the slots of its values and of its own arrays; what is saved round the call at a place, and which parameters
-- are brought to their registers at the entry; and the places of the words. Memory is counted in words of 4 bytes
pub record Target : Type 0 where
  pub machine : Numbers
  pub graph : ℕ → Graph
  pub layout : ℕ → VWords
  pub maps : ℕ → RegMap
  -- words of all globals, and of a frame
  pub globals : ℕ
  pub frame : ℕ
  pub slot : (function value : ℕ) → ℕ
  -- the offset of a local array in the frame, the address of a global one
  pub array_at : (function array : ℕ) → ℕ
  pub saved : (function place : ℕ) → List ℕ
  pub brought : ℕ → List ℕ
  pub entry : ℕ → ℕ
  pub starts : (function place : ℕ) → ℕ
  pub landing : (function place to : ℕ) → ℕ
  pub back : (function place : ℕ) → ℕ
  pub depth_trap : ℕ

abbrev pub parameters_of : Target → ℕ → List ℕ
parameters_of T f = (T.graph f).parameters

-- the array is one of the function's own, and stands in its frame
abbrev pub is_own : Target → (function array : ℕ) → Bool
is_own T f a = is_local (T.graph f).arrays a

-- the array was handed to the function, and stands where its base says
abbrev pub is_handed : Target → (function array : ℕ) → Bool
is_handed T f a = is_handed_array (T.graph f).arrays a

-- the bytes of so many words
abbrev pub bytes : ℕ → ℤ
bytes n = pos (4 * n)

-- registers with a use of their own

abbrev pub general : (cluster number : ℕ) → GeneralRegister
general k n = record { cluster = k; number = n }

abbrev pub zero_on : ℕ → GeneralRegister
zero_on k = general k 0

abbrev pub stack_on : ℕ → GeneralRegister
stack_on k = general k 1

abbrev pub answer : GeneralRegister
answer = general 0 2

-- where values are kept

abbrev pub kept : Target → (function value : ℕ) → Kept
kept T f v = kept_of (T.maps f) v

abbrev pub is_slotted : Kept → Bool
is_slotted (InRegister n) = false
is_slotted (InSlot k) = true
is_slotted Nowhere = true

abbrev pub is_branch : Option Bank → Bool
is_branch None = false
is_branch (Some General) = false
is_branch (Some Branch) = true

abbrev pub holds_branch : Target → (function value : ℕ) → Bool
holds_branch T f v = is_branch (bank_in (T.layout f) v)

abbrev pub home : Target → (function value : ℕ) → ℕ
home T f v = home_in (T.layout f) v

abbrev pub same_bool : Bool → Bool → Bool
same_bool true b = b
same_bool false true = false
same_bool false false = true

-- both have their registers in one file
abbrev pub same_file : Target → ℕ → (u v : ℕ) → Bool
same_file T f u v = same_bool (holds_branch T f u) (holds_branch T f v) && (if holds_branch T f u then true else home T f u == home T f v)

-- those of some values that are not in registers
abbrev pub slotted : Target → ℕ → List ℕ → List ℕ
slotted T f vs = filter (λ v. is_slotted (kept T f v)) vs

abbrev pub index_of : ℕ → List ℕ → ℕ
index_of v [] = 0
index_of v (u ∷ us) = if u == v then 0 else suc (index_of v us)

-- the number of the scratch register of v among these values
abbrev pub scratch : Target → ℕ → List ℕ → ℕ → ℕ
scratch T f vs v = index_of v (filter (λ u. same_file T f u v) (slotted T f vs))

-- the number of the register by which a word names a general value, or a branch value
abbrev pub number_by : Kept → ℕ → ℕ
number_by (InRegister n) other = n
number_by (InSlot k) other = other
number_by Nowhere other = other

-- the general and the branch register by which a word that names these values names v
abbrev pub general_of : Target → ℕ → List ℕ → ℕ → GeneralRegister
general_of T f vs v = general (home T f v) (number_by (kept T f v) (3 + scratch T f vs v))

abbrev pub branch_of : Target → ℕ → List ℕ → ℕ → ℕ
branch_of T f vs v = number_by (kept T f v) (scratch T f vs v)

abbrev pub register_of : Target → ℕ → List ℕ → ℕ → Register
register_of T f vs v = if holds_branch T f v then InBranch (record { cluster = 0; number = branch_of T f vs v }) else InGeneral (general_of T f vs v)

-- planned words

abbrev pub source_of : (ℕ → GeneralRegister) → Operand → Source
source_of names (HeldValue v) = Held (names v)
source_of names (AsNumber n) = Number n
source_of names Stack = Number (pos 0)

-- a place of a local array has the stack pointer added
abbrev pub base_of : Target → ℕ → (cluster array : ℕ) → GeneralRegister
base_of T f k a = if is_own T f a then stack_on k else zero_on k

-- a place of an array that was handed over is an address, those of other arrays are counted from where the array begins
abbrev pub offset_of : Target → (function array : ℕ) → ℕ
offset_of T f a = if is_handed T f a then 0 else T.array_at f a

-- an access is at this offset from a place, or at a number from the array's base
abbrev pub access_base : Target → ℕ → (ℕ → GeneralRegister) → (cluster array : ℕ) → Operand → GeneralRegister
access_base T f names k a (HeldValue v) = names v
access_base T f names k a (AsNumber n) = base_of T f k a
access_base T f names k a Stack = base_of T f k a

abbrev pub access_offset : Target → ℕ → (array : ℕ) → Operand → ℤ
access_offset T f a (HeldValue v) = bytes (offset_of T f a)
access_offset T f a (AsNumber n) = sum_of (bytes (offset_of T f a)) n
access_offset T f a Stack = bytes (offset_of T f a)

-- a code that moves has its own form
abbrev pub computes : (cluster : ℕ) → Code → Register → GeneralRegister → Source → Source → Operation
computes k Mov to general a b = Move k general a
computes k code to general a b = Compute k code to a b

-- the operation that carries one on a cluster, where a word reads these values and writes those
abbrev pub carried : Target → ℕ → (reads writes : List ℕ) → (cluster : ℕ) → Op → Operation
carried T f rs ws k (Computes code v a b) = computes k code (register_of T f ws v) (general_of T f ws v) (source_of (general_of T f rs) a) (source_of (general_of T f rs) b)
carried T f rs ws k (Selects v p a b) = Select k (general_of T f ws v) (record { cluster = 0; number = branch_of T f rs p }) (source_of (general_of T f rs) a) (source_of (general_of T f rs) b)
carried T f rs ws k (Place v a i) = Compute k Sh2add (InGeneral (general_of T f ws v)) (source_of (general_of T f rs) i) (if is_own T f a then Held (stack_on k) else Number (pos 0))
carried T f rs ws k (Loads v a p dismissible) = Load k (general_of T f ws v) (access_offset T f a p) (access_base T f (general_of T f rs) k a p) dismissible
carried T f rs ws k (Stores a p x) = Store k (access_offset T f a p) (access_base T f (general_of T f rs) k a p) (source_of (general_of T f rs) x)
carried T f rs ws k (Asks v) = More (general_of T f ws v)
carried T f rs ws k (Takes v) = Input (general_of T f ws v)
carried T f rs ws k (Text n) = OutText n
carried T f rs ws k (Decimal x) = OutDecimal (source_of (general_of T f rs) x)
carried T f rs ws k (Across v u) = Move k (general_of T f ws v) (Held (general_of T f rs u))
carried T f rs ws k (Base v a x) =
    if is_own T f a then Compute k Add (InGeneral (general_of T f ws v)) (Held (stack_on k)) (Number (bytes (T.array_at f a))) else Move k (general_of T f ws v) (Number (bytes (T.array_at f a)))
carried T f rs ws k (PlaceIn v a u i) = Compute k Sh2add (InGeneral (general_of T f ws v)) (source_of (general_of T f rs) i) (Held (general_of T f rs u))

-- where a word leads that is only a transfer; else it is its own place
abbrev pub past_word : (place : ℕ) → VirtualWord → ℕ
past_word q (Planned r w items) = q
past_word q (Drain n) = q
past_word q (Transfer to) = to
past_word q (Choice test to) = q
past_word q (Calls g arguments result) = q
past_word q (Returns x) = q
past_word q (Ends k) = q

abbrev pub past_there : (place : ℕ) → Option VirtualWord → ℕ
past_there q None = q
past_there q (Some word) = past_word q word

-- past so many transfers of a layout at most, one after the other
abbrev pub past_from : List VirtualWord → (transfers place : ℕ) → ℕ
past_from words zero q = q
past_from words (suc n) q = past_from words n (past_there q (slice_get words q))

-- the most transfers that a jump goes past
unfoldable pub most_transfers : ℕ
most_transfers = 64

-- where a jump to a place arrives, past the transfers that stand there: jumps are threaded
abbrev pub past : Target → (function place : ℕ) → ℕ
past T f q = past_from (T.layout f).words most_transfers q

-- a split of a word that leaves results in scratch registers goes to a landing, where they are stored
abbrev pub leads : Target → (function place : ℕ) → (writes : List ℕ) → ℕ → ℕ
leads T f p [] q = T.starts f (past T f q)
leads T f p (v ∷ vs) q = T.landing f p q

abbrev pub carried_items : Target → (function place : ℕ) → (reads writes : List ℕ) → List Laid → List Operation
carried_items T f p rs ws [] = []
carried_items T f p rs ws (Plain op k ∷ items) = carried T f rs ws k op ∷ carried_items T f p rs ws items
carried_items T f p rs ws (Split test y q ∷ items) = BranchOn (branch_of T f rs test) y (leads T f p (slotted T f ws) q) ∷ carried_items T f p rs ws items

abbrev pub is_none : List ℕ → Bool
is_none [] = true
is_none (v ∷ vs) = false

-- a word of empty cycles
abbrev pub is_drain : VirtualWord → Bool
is_drain (Planned r w items) = false
is_drain (Drain n) = true
is_drain (Transfer q) = false
is_drain (Choice test q) = false
is_drain (Calls g arguments result) = false
is_drain (Returns x) = false
is_drain (Ends k) = false

abbrev pub is_drain_there : Option VirtualWord → Bool
is_drain_there None = false
is_drain_there (Some word) = is_drain word

-- a place of a layout can follow at once: it is the next one, and no empty cycles stand there, so that they never stand behind a
-- pause
abbrev pub follows : Target → (function following to : ℕ) → Bool
follows T f next q = (next == q) && not (is_drain_there (slice_get (T.layout f).words q))

abbrev pub is_split : Laid → Bool
is_split (Plain op k) = false
is_split (Split test y q) = true

-- where a word of a layout goes by a word of its own: a transfer to a place that cannot follow at once
abbrev pub turn_of : Target → (function place : ℕ) → VirtualWord → Option ℕ
turn_of T f p (Planned r w items) = None
turn_of T f p (Drain n) = None
turn_of T f p (Transfer q) = if follows T f (p + 1) (past T f q) then None else Some (past T f q)
turn_of T f p (Choice test q) = None
turn_of T f p (Calls g arguments result) = None
turn_of T f p (Returns x) = None
turn_of T f p (Ends k) = None

abbrev pub turn_there : Target → (function place : ℕ) → Option VirtualWord → Option ℕ
turn_there T f p None = None
turn_there T f p (Some word) = turn_of T f p word

abbrev pub turn : Target → (function place : ℕ) → Option ℕ
turn T f p = turn_there T f p (slice_get (T.layout f).words p)

-- the word at a place goes to another one by a word of its own
abbrev pub is_turn : Option ℕ → Bool
is_turn None = false
is_turn (Some q) = true

abbrev pub turns : Target → (function place : ℕ) → Bool
turns T f p = is_turn (turn T f p)

-- a planned word can go on by itself: it has no split, leaves nothing for slots, and the machine has room for the goto beside its operations
abbrev pub goes_beside : Target → (function : ℕ) → List Laid → List Operation → Bool
goes_beside T f items ops = not (list_any is_split items) && (is_none (slotted T f (laid_writes items)) && fits T.machine ops)

-- the goto that would be the next word stands in the planned word itself, where it can
abbrev pub with_goto : Target → (function : ℕ) → List Laid → List Operation → (turn : Option ℕ) → List Operation
with_goto T f items ops None = ops
with_goto T f items ops (Some q) = if goes_beside T f items (ops ++ Goto (T.starts f q) ∷ []) then ops ++ Goto (T.starts f q) ∷ [] else ops

abbrev pub plan_ops : Target → (function place : ℕ) → List Laid → List Operation
plan_ops T f p items = with_goto T f items (carried_items T f p (laid_reads items) (laid_writes items) items) (turn T f (p + 1))

abbrev pub plan_word : Target → (function place : ℕ) → List Laid → Word
plan_word T f p items = record { ops = plan_ops T f p items; idle = 0 }

-- slots

abbrev pub one : Operation → Word
one op = record { ops = op ∷ []; idle = 0 }

-- two operations in one word where the machine has room for both, else one after the other
abbrev pub together : Numbers → Operation → Operation → List Word
together m a b = if fits m (a ∷ b ∷ []) then record { ops = a ∷ b ∷ []; idle = 0 } ∷ [] else one a ∷ one b ∷ []

abbrev pub waits : ℕ → Word
waits n = record { ops = []; idle = n }

-- the cycles until the last result of some operations has landed
abbrev pub latest : Numbers → List Operation → ℕ
latest m [] = 0
latest m (op ∷ ops) = max (latency_of m op) (latest m ops)

-- how many cycles longer than some words last their writes are in flight, where at their start others are so for n cycles
abbrev pub in_flight : Numbers → (n : ℕ) → List Word → ℕ
in_flight m n [] = n
in_flight m n (word ∷ words) = in_flight m (max n (latest m word.ops) - cycles_of word) words

-- a pause of so many cycles; one of none is no word
abbrev pub pause : ℕ → List Word
pause zero = []
pause (suc n) = waits (suc n) ∷ []

-- some words, and a pause as long as what they write is in flight, and no longer
abbrev pub settled : Target → List Word → List Word
settled T words = words ++ pause (in_flight T.machine 0 words)

-- the slot of a value, so many words above the frame, to a general register, or to a branch register by way of the answer's
abbrev pub load_slot : Target → ℕ → (up : ℕ) → (value : ℕ) → (to : GeneralRegister) → (branch : ℕ) → List Word
load_slot T f up v to branch =
    if holds_branch T f v
    then settled T (one (Load 0 answer (bytes (up + T.slot f v)) (stack_on 0) false) ∷ []) ++ one (Compute 0 (ToBranch Ne) (InBranch (record { cluster = 0; number = branch })) (Held answer) (Number (pos 0))) ∷ []
    else one (Load to.cluster to (bytes (up + T.slot f v)) (stack_on to.cluster) false) ∷ []

abbrev pub store_slot : Target → ℕ → (value : ℕ) → (from : GeneralRegister) → (branch : ℕ) → List Word
store_slot T f v from branch =
    if holds_branch T f v
    then settled T (one (Select 0 answer (record { cluster = 0; number = branch }) (Number (pos 1)) (Number (pos 0))) ∷ []) ++ one (Store 0 (bytes (T.slot f v)) (stack_on 0) (Held answer)) ∷ []
    else one (Store from.cluster (bytes (T.slot f v)) (stack_on from.cluster) (Held from)) ∷ []

-- some of the values that a word names, each to or from the register by which the word names it
abbrev pub load_slots : Target → ℕ → (names : List ℕ) → List ℕ → List Word
load_slots T f names [] = []
load_slots T f names (v ∷ vs) = load_slot T f 0 v (general_of T f names v) (branch_of T f names v) ++ load_slots T f names vs

abbrev pub store_slots : Target → ℕ → (names : List ℕ) → List ℕ → List Word
store_slots T f names [] = []
store_slots T f names (v ∷ vs) = store_slot T f v (general_of T f names v) (branch_of T f names v) ++ store_slots T f names vs

abbrev pub if_some : List ℕ → List Word → List Word
if_some [] words = []
if_some (v ∷ vs) words = words

-- each of some values once, where it stands first
abbrev pub once : List ℕ → List ℕ
once [] = []
once (v ∷ vs) = v ∷ filter (λ u. not (u == v)) (once vs)

-- each value in a slot that a word reads is loaded once
abbrev pub before : Target → ℕ → (reads : List ℕ) → List Word
before T f rs = if_some (slotted T f rs) (settled T (load_slots T f rs (once (slotted T f rs))))

-- a number where there are some, else 0
abbrev pub if_any : List ℕ → ℕ → ℕ
if_any [] n = 0
if_any (v ∷ vs) n = n

-- how many cycles behind a word the last of its results that go to slots is in flight
abbrev pub slots_in_flight : Target → ℕ → List Laid → ℕ
slots_in_flight T f [] = 0
slots_in_flight T f (Plain op k ∷ items) = max (if_any (slotted T f (writes op)) (latency_of_op T.machine op - 1)) (slots_in_flight T f items)
slots_in_flight T f (Split test y q ∷ items) = slots_in_flight T f items

abbrev pub behind : Target → ℕ → List Laid → List Word
behind T f items = if_some (slotted T f (laid_writes items)) (pause (slots_in_flight T f items) ++ store_slots T f (laid_writes items) (slotted T f (laid_writes items)))

abbrev pub plan_words : Target → (function place : ℕ) → List Laid → List Word
plan_words T f p items = before T f (laid_reads items) ++ plan_word T f p items ∷ behind T f items

-- where a taken split of a word arrives: what the word left in scratch registers is stored there
abbrev pub landing_words : Target → ℕ → List Laid → (to : ℕ) → List Word
landing_words T f items q = behind T f items ++ one (Goto (T.starts f (past T f q))) ∷ []

-- the other words

-- an operation on each cluster
abbrev pub clusters : ℕ → List ℕ
clusters n = numbers 0 n

abbrev pub on_clusters : ℕ → (ℕ → Operation) → List Operation
on_clusters n op = map op (clusters n)

-- the stack pointer of every cluster so many bytes up or down
abbrev pub stack_steps : Target → ℤ → List Operation
stack_steps T z = on_clusters T.machine.clusters (λ k. Compute k Add (InGeneral (stack_on k)) (Held (stack_on k)) (Number z))

abbrev pub move_stack : Target → ℤ → List Word
move_stack T z = settled T (record { ops = stack_steps T z; idle = 0 } ∷ [])

-- saved by their own registers
abbrev pub save_words : Target → ℕ → List ℕ → List Word
save_words T f vs = store_slots T f vs vs

-- an operand of a call or return as a source: a value in a slot is brought to the first scratch register of its cluster, from a
-- frame so many words above the stack pointer
abbrev pub fetch_words : Target → ℕ → (up : ℕ) → Operand → List Word
fetch_words T f up (HeldValue v) = if is_slotted (kept T f v) then settled T (load_slot T f up v (general_of T f (v ∷ []) v) (branch_of T f (v ∷ []) v)) else []
fetch_words T f up (AsNumber n) = []
fetch_words T f up Stack = []

abbrev pub fetched : Target → ℕ → Operand → Source
fetched T f (HeldValue v) = Held (general_of T f (v ∷ []) v)
fetched T f (AsNumber n) = Number n
fetched T f Stack = Number (pos 0)

-- the cluster on which an operand is read
abbrev pub cluster_of_operand : Target → ℕ → Operand → ℕ
cluster_of_operand T f (HeldValue v) = home T f v
cluster_of_operand T f (AsNumber n) = 0
cluster_of_operand T f Stack = 0

-- an argument into the slot of its parameter in the frame of the function that is called, which begins at the stack pointer
abbrev pub passes : Target → (function called parameter : ℕ) → Operand → Operation
passes T f g v a = Store (cluster_of_operand T f a) (bytes (T.slot g v)) (stack_on (cluster_of_operand T f a)) (fetched T f a)

-- the last argument is stored in the word of the call, where the machine has room for both: a store is there by the next word
abbrev pub calls_beside : Target → (called : ℕ) → (more : List ℕ) → Operation → Bool
calls_beside T g more store = is_none more && fits T.machine (store ∷ Call (T.entry g) ∷ [])

abbrev pub store_or_call : Target → (called : ℕ) → (more : List ℕ) → Operation → List Word → List Word
store_or_call T g more store words = if calls_beside T g more store then record { ops = store ∷ Call (T.entry g) ∷ []; idle = 0 } ∷ [] else one store ∷ words

-- each argument to its slot, and the call
abbrev pub argument_words : Target → (function called : ℕ) → (parameters : List ℕ) → List Operand → List Word
argument_words T f g [] arguments = one (Call (T.entry g)) ∷ []
argument_words T f g (v ∷ vs) [] = one (Call (T.entry g)) ∷ []
argument_words T f g (v ∷ vs) (a ∷ arguments) = fetch_words T f T.frame a ++ store_or_call T g vs (passes T f g v a) (argument_words T f g vs arguments)

-- the result to where it is kept; a result on another cluster goes across first
abbrev pub result_words : Target → ℕ → Option ℕ → List Word
result_words T f None = []
result_words T f (Some v) =
    if is_slotted (kept T f v)
    then one (Store 0 (bytes (T.slot f v)) (stack_on 0) (Held answer)) ∷ []
    else settled T (one (Move (home T f v) (general_of T f (v ∷ []) v) (Held answer)) ∷ [])

-- a call leaves for the trap of the depth, or the stack pointers go a frame down: in one word where the machine has room for both and
-- the stack pointers are there by the next word, since nothing reads them at the trap
abbrev pub leave_or_lower : Target → List Word
leave_or_lower T =
    if (T.machine.latency_alu == 1) && fits T.machine (BranchOn 0 true T.depth_trap ∷ stack_steps T (neg_ℤ (bytes T.frame)))
    then record { ops = BranchOn 0 true T.depth_trap ∷ stack_steps T (neg_ℤ (bytes T.frame)); idle = 0 } ∷ []
    else one (BranchOn 0 true T.depth_trap) ∷ move_stack T (neg_ℤ (bytes T.frame))

-- a frame that would begin below the end of the globals is one too many: this is tested while values are saved
abbrev pub call_words : Target → (function place called : ℕ) → List Operand → List Word
call_words T f p g arguments =
    settled T (one (Compute 0 (ToBranch Ltu) (InBranch (record { cluster = 0; number = 0 })) (Held (stack_on 0)) (Number (bytes (T.globals + T.frame)))) ∷ save_words T f (T.saved f p))
    ++ (leave_or_lower T ++ argument_words T f g (parameters_of T g) arguments)

-- the word of a layout is a call
abbrev pub is_call_word : VirtualWord → Bool
is_call_word (Calls g arguments result) = true
is_call_word (Planned r w items) = false
is_call_word (Drain n) = false
is_call_word (Transfer q) = false
is_call_word (Choice test q) = false
is_call_word (Returns x) = false
is_call_word (Ends k) = false

-- the function calls: its link is kept in its frame, since a call writes the register of the link
abbrev pub is_caller : Target → ℕ → Bool
is_caller T f = list_any is_call_word (T.layout f).words

-- the result goes to its register, and the link comes back from the frame
abbrev pub answer_words : Target → ℕ → Operand → List Word
answer_words T f x = settled T (together T.machine (Move 0 answer (fetched T f x)) (Load 0 (general 0 3) (pos 0) (stack_on 0) false)) ++ settled T (one (ToLink (Held (general 0 3))) ∷ [])

-- an operation and the last one behind it: in one word where the machine has room for both and the first is done by the next word
abbrev pub last_beside : Target → (first last : Operation) → List Word
last_beside T a b = if (latency_of T.machine a == 1) && fits T.machine (a ∷ b ∷ []) then record { ops = a ∷ b ∷ []; idle = 0 } ∷ [] else settled T (one a ∷ []) ++ one b ∷ []

-- the link of a function that calls is in its frame, and in its register in others
abbrev pub leave_words : Target → ℕ → Operand → List Word
leave_words T f x = if is_caller T f then answer_words T f x ++ one Return ∷ [] else last_beside T (Move 0 answer (fetched T f x)) Return

abbrev pub return_words : Target → ℕ → Operand → List Word
return_words T f x = fetch_words T f 0 x ++ leave_words T f x

-- the way to a place of a layout, where another one is next: none where it can follow at once
abbrev pub way : Target → (function following to : ℕ) → List Word
way T f next q = if follows T f next q then [] else one (Goto (T.starts f q)) ∷ []

-- a function that calls stores its link at the begin of its frame
abbrev pub link_words : Target → ℕ → List Word
link_words T f =
    if is_caller T f
    then settled T (one (FromLink (general 0 3)) ∷ []) ++ one (Store 0 (pos 0) (stack_on 0) (Held (general 0 3))) ∷ []
    else []

-- pauses that are only as long as the words behind them ask

-- the value is in a register, and not in this one
abbrev pub is_elsewhere : Target → (function : ℕ) → Register → (value : ℕ) → Bool
is_elsewhere T f r v = not (is_slotted (kept T f v)) && not (same r (register_of T f (v ∷ []) v))

abbrev pub all_elsewhere : Target → ℕ → Register → Option ℕ → Bool
all_elsewhere T f r None = true
all_elsewhere T f r (Some v) = is_elsewhere T f r v

abbrev pub reads_elsewhere : Target → ℕ → Register → Reads → Bool
reads_elsewhere T f r x = all_elsewhere T f r x.first && (all_elsewhere T f r x.second && all_elsewhere T f r x.third)

abbrev pub item_elsewhere : Target → ℕ → Register → Laid → Bool
item_elsewhere T f r (Plain op k) = all_elsewhere T f r (written_by op) && reads_elsewhere T f r (read_by op)
item_elsewhere T f r (Split test y q) = is_elsewhere T f r test

-- a register in which values are kept
abbrev pub is_for_values : Register → Bool
is_for_values (InGeneral r) = nat_lt 2 r.number
is_for_values (InBranch r) = true
is_for_values Link = false

-- all values of a word are in registers, and none in this one
abbrev pub spares : Target → ℕ → Register → List Laid → Bool
spares T f r items = is_for_values r && list_all (item_elsewhere T f r) items

-- by a word of its own, if it needs one, to a place from which on there is so much time
abbrev pub by_way : Target → (function following to cycles : ℕ) → ℕ
by_way T f next q n = if follows T f next q then n else suc n

-- the goto of a place may stand in the word in front of it
abbrev pub beside_turn : (turns : Bool) → (cycles : ℕ) → ℕ
beside_turn true n = n - 1
beside_turn false n = n

-- the same at a word of a layout, by what there is from other places on
abbrev pub spared_at : Target → (function : ℕ) → Register → (place : ℕ) → (ℕ → ℕ) → Option VirtualWord → ℕ
spared_at T f r p on None = 0
spared_at T f r p on (Some (Planned region w items)) = if spares T f r items then (if list_any is_split items then 1 else suc (beside_turn (turns T f (p + 1)) (on (p + 1)))) else 0
spared_at T f r p on (Some (Drain n)) = 0
spared_at T f r p on (Some (Transfer q)) = by_way T f (p + 1) (past T f q) (on (past T f q))
spared_at T f r p on (Some (Choice test q)) = 0
spared_at T f r p on (Some (Calls g arguments result)) = 0
spared_at T f r p on (Some (Returns x)) = 0
spared_at T f r p on (Some (Ends k)) = 0

-- for how many cycles a register may be in flight at a place of a layout: the words there name it as late, as far as so many of
-- them are looked at, up to a split
abbrev pub spared : Target → (function : ℕ) → Register → (words place : ℕ) → ℕ
spared T f r zero p = 0
spared T f r (suc n) p = spared_at T f r p (spared T f r n) (slice_get (T.layout f).words p)

-- the most words that are looked at
unfoldable pub most_spared : ℕ
most_spared = 16

-- the cycles until the last of what some operations write to a register has landed
abbrev pub is_to : Register → Option Register → Bool
is_to r None = false
is_to r (Some q) = same r q

abbrev pub landing_of : Numbers → Register → List Operation → ℕ
landing_of m r [] = 0
landing_of m r (op ∷ ops) = max (if is_to r (destination_of op) then latency_of m op else 0) (landing_of m r ops)

-- how many cycles longer than some words last a register is in flight, where at their start it is so for n cycles
abbrev pub flight : Numbers → Register → (n : ℕ) → List Word → ℕ
flight m r n [] = n
flight m r n (word ∷ words) = flight m r (max n (landing_of m r word.ops) - cycles_of word) words

-- the time from some words to the first one that names a register, where a place of a layout follows, or the way to it from
-- another place
abbrev pub time_to : Target → (function : ℕ) → (following : Option ℕ) → (to : ℕ) → Register → ℕ
time_to T f None q r = spared T f r most_spared q
time_to T f (Some next) q r = by_way T f next q (spared T f r most_spared q)

-- the cycles between words that bring some values to their registers and what follows, until it may name these
abbrev pub wanted : Target → (function : ℕ) → (following : Option ℕ) → (to : ℕ) → List ℕ → List Word → ℕ
wanted T f next q [] words = 0
wanted T f next q (v ∷ vs) words = max (flight T.machine (register_of T f (v ∷ []) v) 0 words - time_to T f next q (register_of T f (v ∷ []) v)) (wanted T f next q vs words)

-- values come back to their own registers, in front of a place
abbrev pub reload_words : Target → (function to : ℕ) → List ℕ → List Word
reload_words T f q vs = load_slots T f vs vs ++ pause (wanted T f None q vs (load_slots T f vs vs))

-- the result is taken first, since a branch value comes back by way of the answer's register
abbrev pub back_words : Target → (function place : ℕ) → Option ℕ → List Word
back_words T f p result = move_stack T (bytes T.frame) ++ (result_words T f result ++ reload_words T f (p + 1) (T.saved f p))

-- at the entry parameters are brought to their registers, and the link is stored while they are in flight
abbrev pub begin_words : Target → ℕ → List Word
begin_words T g = load_slots T g (T.brought g) (T.brought g) ++ link_words T g

-- the first word of the layout follows
abbrev pub entry_words : Target → ℕ → List Word
entry_words T g = (begin_words T g ++ pause (wanted T g (Some 0) (past T g (T.layout g).entry) (T.brought g) (begin_words T g))) ++ way T g 0 (past T g (T.layout g).entry)

-- empty cycles, of which a goto behind them is the last one: it reads nothing
abbrev pub idle_words : Target → (function place cycles : ℕ) → List Word
idle_words T f p n = if turns T f (p + 1) then pause (n - 1) else waits n ∷ []

abbrev pub choice_words : Target → ℕ → (test to : ℕ) → List Word
choice_words T f test q = before T f (test ∷ []) ++ one (BranchOn (branch_of T f (test ∷ []) test) true (T.starts f (past T f q))) ∷ []

abbrev pub word_words : Target → (function place : ℕ) → VirtualWord → List Word
word_words T f p (Planned r w items) = plan_words T f p items
word_words T f p (Drain n) = idle_words T f p n
word_words T f p (Transfer q) = way T f (p + 1) (past T f q)
word_words T f p (Choice test q) = choice_words T f test q
word_words T f p (Calls g arguments result) = call_words T f p g arguments ++ back_words T f p result
word_words T f p (Returns x) = return_words T f x
word_words T f p (Ends k) = one (EndByTrap k) ∷ []

-- memory: the globals, and a frame for each function that may be active. The frame of the n-th active function ends n - 1 frames
-- below the end

abbrev pub memory_words : Target → ℕ
memory_words T = T.globals + T.frame * deepest

abbrev pub first_frame : Target → ℕ
first_frame T = T.globals + T.frame * (deepest - 1)

-- the stack pointer of every cluster where the first frame begins
abbrev pub set_stack : Target → List Word
set_stack T = settled T (record { ops = on_clusters T.machine.clusters (λ k. Move k (stack_on k) (Number (bytes (first_frame T)))); idle = 0 } ∷ [])

-- the first words of a program; behind the call stands its end
abbrev pub start_words : Target → (main : ℕ) → List Word
start_words T main = set_stack T ++ one (Call (T.entry main)) ∷ one (Halt (Held answer)) ∷ []

abbrev pub halt_place : Target → ℕ
halt_place T = length (set_stack T) + 1
