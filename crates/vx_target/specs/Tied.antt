-- What ties a state of laid-out words over values to a state of words over registers.
use Rattle.std.specs.Prelude.{not, ◌≡◌, ◌⊎◌, ◌<◌, ◌≤◌, ◌+◌, ◌*◌, ◌-◌, ◌==◌, ◌&&◌, ℕ, zero, suc, ℤ, nat_le, pos, Bool, true, false, if◌then◌else◌, Option, Some, None, List, [], ◌∷◌, length, slice_get, slice_index_or}
use Rattle.std.specs.List.{filter, flat_map, list_any}
use Rattle.vx_base.specs.Arithmetic.{sum_of, wrap}
use Rattle.vx_base.specs.Outcome.{NeverFails}
use Rattle.vx_flow.specs.declared.graph.Op.{Op}
use Rattle.vx_flow.specs.declared.graph.Op.TheVariants.{Place, PlaceIn}
use Rattle.vx_flow.specs.declared.graph.Operand.{Operand}
use Rattle.vx_flow.specs.declared.graph.Array.{Array}
use Rattle.vx_flow.specs.declared.graph.Block.{Block}
use Rattle.vx_flow.specs.declared.graph.Global.{Global}
use Rattle.vx_flow.specs.declared.graph.Graph.{Graph}
use Rattle.vx_flow.specs.declared.graph.Flow.{Flow}
use Rattle.vx_flow.specs.Apart.{Aligned, PassedBelow}
use Rattle.vx_flow.specs.Effects.{Content, IsIn}
use Rattle.vx_flow.specs.Meaning.{Active, Frame, deepest, program_run, spot_in}
use Rattle.vx_flow.specs.Sound.{is_local, base_at, is_base}
use Rattle.vx_flow.specs.Walk.{numbers}
use Rattle.vx_isa.specs.declared.operation.Register.TheVariants.{General, Link}
use Rattle.vx_isa.specs.Machine.{State, register}
use Rattle.vx_mixed.specs.declared.layout.VirtualWord.TheVariants.{Call}
use Rattle.vx_mixed.specs.declared.layout.VWords.{VWords}
use Rattle.vx_layout.specs.Laid.{laid_program}
use Rattle.vx_layout.specs.Origins.{whole}
use Rattle.vx_regs.specs.Intervals.{IsLive}
use Rattle.vx_target.specs.Target.{Target, parameters_of, is_own, is_handed, is_slotted, kept, holds_branch, register_of, stack_on, is_caller, halt_place, memory_words}

-- places: the values that the graph writes as one of a local array, or of one that was handed over, and their copies

abbrev pub places_own : Graph → (value : ℕ) → Op → Bool
places_own g v (Place u a i) = (u == v) && is_local g.arrays a
places_own g v op = false

abbrev pub has_own_place : Graph → (value : ℕ) → Block → Bool
has_own_place g v block = list_any (places_own g v) block.ops

abbrev pub is_own_place : Graph → (value : ℕ) → Bool
is_own_place g v = list_any (has_own_place g v) g.blocks

abbrev pub placed_by_base : (value : ℕ) → Op → List ℕ
placed_by_base v (PlaceIn u a b i) = if u == v then a ∷ [] else []
placed_by_base v op = []

abbrev pub placed_in_block : (value : ℕ) → Block → List ℕ
placed_in_block v block = flat_map (placed_by_base v) block.ops

-- the arrays that were handed over and of which the value is a place: in a sound graph all are one
abbrev pub handed_of : Graph → (value : ℕ) → List ℕ
handed_of g v = flat_map (placed_in_block v) g.blocks

-- what shows the number of a value: the number itself; for a place of a local array that with the frame's address added, for one of an
-- array that was handed over that with the address of the array's row added; for a base the address of the row that it numbers. Copies
-- of a value are of its kind

pub data Kind : Type 0 where
  Itself : Kind
  InFrame : Kind
  InHanded : (array : ℕ) → Kind
  AsBase : (value : ℕ) → Kind

abbrev pub kind_by : (own : Bool) → (handed : List ℕ) → (base : Bool) → (value : ℕ) → Kind
kind_by true handed base v = InFrame
kind_by false (a ∷ more) base v = InHanded a
kind_by false [] true v = AsBase v
kind_by false [] false v = Itself

abbrev pub value_kind : Graph → (value : ℕ) → Kind
value_kind g v = kind_by (is_own_place g v) (handed_of g v) (is_base g v) v

abbrev pub kind_of : Target → (function value : ℕ) → Kind
kind_of T f v = value_kind (T.graph f) (whole (length (T.graph f).banks) v)

-- the kind of a place in an array
abbrev pub kind_in : Target → (function array : ℕ) → Kind
kind_in T f a = if is_own T f a then InFrame else if is_handed T f a then InHanded a else Itself

-- what an activation sees of the rows of storage: where each has its seat, where its arrays stand among them, and how many were there
-- when its own had been made; and the word at which its frame begins
pub record Seating : Type 0 where
  pub seats : (row : ℕ) → ℕ
  pub spot : (array : ℕ) → ℕ
  pub rows : ℕ
  pub frame : ℕ

-- the number is that of a row, and the word is the row's address; each array of which the value is the base is that row
pub record IsBaseShown (arrays : List Array) (here : Seating) (v : ℕ) (n x : ℤ) : Type 0 where
  pub row : ℕ
  pub stands : row < here.rows
  pub number : n ≡ pos row
  pub word : x ≡ pos (4 * here.seats row)
  pub spots : (a : ℕ) → base_at arrays a ≡ Some v → here.spot a ≡ row

abbrev pub IsShown : (arrays : List Array) → Seating → Kind → (n x : ℤ) → Type 0
IsShown arrays here Itself n x = x ≡ n
IsShown arrays here InFrame n x = x ≡ sum_of n (pos (4 * here.frame))
IsShown arrays here (InHanded a) n x = (here.spot a < here.rows) × (x ≡ sum_of n (pos (4 * here.seats (here.spot a))))
IsShown arrays here (AsBase v) n x = IsBaseShown arrays here v n x

-- the word of memory with a number
abbrev pub word_at : (ℕ → ℤ) → ℕ → ℤ
word_at memory x = memory (4 * x)

-- a branch value holds the answer of a compare
abbrev pub IsAnswer : Bool → ℤ → Type 0
IsAnswer branch n = branch ≡ true → (n ≡ pos 0) ⊎ (n ≡ pos 1)

-- what a value's register holds, or its slot in a frame that begins at word sp
abbrev pub holds : Target → State → (frame function value : ℕ) → ℤ
holds T u sp f v = if is_slotted (kept T f v) then word_at u.memory (sp + T.slot f v) else register u (register_of T f (v ∷ []) v)

pub record Shows (T : Target) (here : Seating) (f v : ℕ) (n x : ℤ) : Type 0 where
  pub answer : IsAnswer (holds_branch T f v) n
  pub is : IsShown (T.graph f).arrays here (kind_of T f v) n x

abbrev pub row_in : List (List Content) → ℕ → List Content
row_in rows a = slice_index_or rows a []

-- where an array begins that was not handed over
abbrev pub begins_at : Target → (frame function array : ℕ) → ℕ
begins_at T sp f a = if is_own T f a then sp + T.array_at f a else T.array_at f a

-- the function is one of the program's, with its graph and layout
pub record IsFunction (T : Target) (flow : Flow) (ls : List VWords) (f : ℕ) : Type 0 where
  pub graph : slice_get flow.functions f ≡ Some (T.graph f)
  pub layout : slice_get ls f ≡ Some (T.layout f)

-- the arrays of its own of a function: those behind the globals that were not handed over, in the order in which their rows stand
abbrev pub own_arrays : Target → (globals f : ℕ) → List ℕ
own_arrays T globals f = filter (λ a. not (is_handed T f a)) (numbers globals (length (T.graph f).arrays - globals))

-- the words of all globals before one
abbrev pub words_before : List Global → ℕ → ℕ
words_before [] a = 0
words_before (g ∷ gs) zero = 0
words_before (g ∷ gs) (suc a) = g.words + words_before gs a

-- activations: the function, the word at which its frame begins, what was passed to it, and the row with which its own arrays begin

pub record Stacked : Type 0 where
  pub function : ℕ
  pub frame : ℕ
  pub passed : List (Option ℕ)
  pub base : ℕ

abbrev pub waiting_at : (frame : ℕ) → Frame → Stacked
waiting_at sp fr = record { function = fr.function; frame = sp; passed = fr.passed; base = fr.base }

abbrev pub active_at : (frame : ℕ) → Active → Stacked
active_at sp r = record { function = r.function; frame = sp; passed = r.passed; base = r.base }

-- those that wait, above a frame; with the active one, the latest first
abbrev pub waiting_above : Target → (frame : ℕ) → List Frame → List Stacked
waiting_above T sp [] = []
waiting_above T sp (fr ∷ frs) = waiting_at (sp + T.frame) fr ∷ waiting_above T (sp + T.frame) frs

abbrev pub stack_from : Target → (frame : ℕ) → Active → List Stacked
stack_from T sp r = active_at sp r ∷ waiting_above T sp r.waiting

-- what was passed to an activation: a row in front of its own for each array that was handed over, and for no other
pub record WasPassed (T : Target) (globals : ℕ) (x : Stacked) : Type 0 where
  pub aligned : Aligned globals (T.graph x.function).arrays x.passed
  pub below : PassedBelow x.base x.passed

-- the row behind its own
abbrev pub rows_end : Target → (globals : ℕ) → Stacked → ℕ
rows_end T globals x = x.base + length (own_arrays T globals x.function)

-- activations, the latest first, whose frames begin at word `from` and whose rows end in front of row `behind`: each is of a function
-- of the program, its frame stands directly below that of its caller, its own arrays directly behind those of its caller, and what was
-- passed to it in front of them. The first frame ends with the memory, and the arrays of the first function stand behind the globals
abbrev pub IsStack : Target → Flow → List VWords → (from behind : ℕ) → List Stacked → Type 0
IsStack T flow ls from behind [] = (from ≡ memory_words T) × (behind ≡ length flow.globals)
IsStack T flow ls from behind (x ∷ xs) = IsFunction T flow ls x.function × (x.frame ≡ from) × (rows_end T (length flow.globals) x ≡ behind) × WasPassed T (length flow.globals) x × IsStack T flow ls (from + T.frame) x.base xs

-- seats: where the rows of storage stand in memory

-- row k has a word i
abbrev pub HasCell : List (List Content) → (k i : ℕ) → Type 0
HasCell rows k i = i < length (row_in rows k)

-- the seat of row k: in the frame of the latest activation whose own arrays begin with that row or before it; where there is none,
-- among the globals
abbrev pub seat : Target → List Global → List Stacked → ℕ → ℕ
seat T globals [] k = words_before globals k
seat T globals (x ∷ xs) k = if nat_le x.base k then x.frame + T.array_at x.function (slice_index_or (own_arrays T (length globals) x.function) (k - x.base) 0) else seat T globals xs k

-- what an activation sees, above those that wait for it
abbrev pub seating : Target → List Global → Stacked → List Stacked → Seating
seating T globals x xs = record { seats = λ k. seat T globals (x ∷ xs) k; spot = spot_in (length globals) x.passed x.base; rows = rows_end T (length globals) x; frame = x.frame }

-- the same of the active function, and of one that waits
abbrev pub here_of : Target → List Global → (frame : ℕ) → Active → Seating
here_of T globals sp r = seating T globals (active_at sp r) (waiting_above T sp r.waiting)

abbrev pub there_of : Target → List Global → (frame : ℕ) → Frame → List Frame → Seating
there_of T globals sp fr frs = seating T globals (waiting_at sp fr) (waiting_above T sp frs)

-- the rows have as many words as what stands in them: the globals, and the own arrays of each activation
pub record Sized (T : Target) (globals : List Global) (stack : List Stacked) (rows : List (List Content)) : Type 0 where
  pub global : (k : ℕ) (x : Global) → slice_get globals k ≡ Some x → length (row_in rows k) ≡ x.words
  pub own : (x : Stacked) (j a : ℕ) (array : Array) → IsIn x stack → slice_get (own_arrays T (length globals) x.function) j ≡ Some a → slice_get (T.graph x.function).arrays a ≡ Some array → length (row_in rows (x.base + j)) ≡ array.words

-- each row stands at its seat: what is known of its words is in memory
pub record Seated (T : Target) (globals : List Global) (stack : List Stacked) (rows : List (List Content)) (memory : ℕ → ℤ) : Type 0 where
  pub sized : Sized T globals stack rows
  pub known : (k i : ℕ) (n : ℤ) → HasCell rows k i → slice_index_or (row_in rows k) i None ≡ Some n → word_at memory (seat T globals stack k + i) ≡ n

-- frames that wait

-- where the run goes on when the active function returns
abbrev pub back_place : Target → List Frame → ℕ
back_place T [] = halt_place T
back_place T (fr ∷ frs) = T.back fr.function (fr.from - 1)

abbrev pub IsResult : Option ℕ → ℕ → Type 0
IsResult None v = ⊥
IsResult (Some r) v = v ≡ r

-- a function that waits: its values live behind the call stand in their slots
pub record Waits (T : Target) (flow : Flow) (ls : List VWords) (memory : ℕ → ℤ) (sp : ℕ) (fr : Frame) (frs : List Frame) : Type 0 where
  pub is : IsFunction T flow ls fr.function
  pub caller : ℕ
  pub callee : ℕ
  pub arguments : List Operand
  pub called : slice_get (T.layout fr.function).words caller ≡ Some (Call callee arguments fr.result)
  pub from : fr.from ≡ suc caller
  pub next : fr.next ≡ suc (suc caller)
  pub values : (v : ℕ) (n : ℤ) → IsLive (T.layout fr.function) (suc caller) v → (IsResult fr.result v → ⊥) → fr.values v ≡ Some n → Shows T (there_of T flow.globals sp fr frs) fr.function v n (word_at memory (sp + T.slot fr.function v))
  pub link : word_at memory sp ≡ wrap (pos (back_place T frs))

-- those that wait, the latest first
abbrev pub Below : Target → Flow → List VWords → (ℕ → ℤ) → (frame : ℕ) → List Frame → Type 0
Below T flow ls memory sp [] = Unit {0}
Below T flow ls memory sp (fr ∷ frs) = Waits T flow ls memory (sp + T.frame) fr frs × Below T flow ls memory (sp + T.frame) frs

-- the active function

-- its frame is the one of the active function with this number
pub record Deep (T : Target) (sp active : ℕ) : Type 0 where
  pub is : sp + T.frame * active ≡ memory_words T
  pub most : active ≤ deepest

-- at its start: the slots of its parameters show its arguments, and the link is in its register
pub record AtEntry (T : Target) (globals : List Global) (sp : ℕ) (r : Active) (u : State) : Type 0 where
  pub block : r.block ≡ 0
  pub place : u.place ≡ T.entry r.function
  pub values : (v : ℕ) (n : ℤ) → r.state.values v ≡ Some n → IsIn v (parameters_of T r.function) × Shows T (here_of T globals sp r) r.function v n (word_at u.memory (sp + T.slot r.function v))
  pub link : u.registers Link ≡ wrap (pos (back_place T r.waiting))

-- where the link of an active function is: in the first word of its frame, or in its register where the function calls nothing
abbrev pub link_in : Target → State → (frame function : ℕ) → ℤ
link_in T u sp f = if is_caller T f then word_at u.memory sp else u.registers Link

-- at a word: what is live there is where it is kept, and so is the link
pub record AtWord (T : Target) (globals : List Global) (sp p : ℕ) (r : Active) (u : State) : Type 0 where
  pub block : r.block ≡ suc p
  pub place : u.place ≡ T.starts r.function p
  pub values : (v : ℕ) (n : ℤ) → IsLive (T.layout r.function) p v → r.state.values v ≡ Some n → Shows T (here_of T globals sp r) r.function v n (holds T u sp r.function v)
  pub link : link_in T u sp r.function ≡ wrap (pos (back_place T r.waiting))

pub record Tied (T : Target) (flow : Flow) (ls : List VWords) (r : Active) (u : State) : Type 0 where
  pub sp : ℕ
  pub is : IsFunction T flow ls r.function
  -- nothing is in flight
  pub calm : u.flying ≡ []
  pub deep : Deep T sp (suc (length r.waiting))
  -- the stack pointers of all clusters
  pub stack : (k : ℕ) → k < T.machine.clusters → register u (General (stack_on k)) ≡ pos (4 * sp)
  pub at : AtEntry T flow.globals sp r u ⊎ ((p : ℕ) × AtWord T flow.globals sp p r u)
  -- it and those that wait, and the seats of all rows
  pub stacked : IsStack T flow ls sp (length r.state.arrays) (stack_from T sp r)
  pub seated : Seated T flow.globals (stack_from T sp r) r.state.arrays u.memory
  pub below : Below T flow ls u.memory sp r.waiting
  pub input : u.input ≡ r.state.input
  pub out : u.out ≡ r.state.out
  pub safe : NeverFails (λ n. program_run (laid_program flow ls) n r)
