-- How many words an operation of a trace has to stand behind an earlier one, and how long the way is from an operation to
-- the end of the trace. In mode Free operations pass splits and joins; in mode Barred they do not.
use Rattle.std.specs.Prelude.{◌≡◌, ◌<◌, ◌≤◌, ◌⊎◌, ◌+◌, ◌==◌, ℕ, Bool, true, false, if◌then◌else◌, Option, Some, None, List, [], ◌∷◌, length, slice_get}
use Rattle.vx_flow.specs.declared.graph.Op.TheVariants.{Load, Store}
use Rattle.vx_flow.specs.declared.trace.TraceOp.{TraceOp}
use Rattle.vx_flow.specs.declared.trace.TraceOp.TheVariants.{Plain, Split}
use Rattle.vx_flow.specs.declared.trace.Join.{Join}
use Rattle.vx_flow.specs.declared.trace.Trace.{Trace}
use Rattle.vx_flow.specs.Effects.{IsIn, reads, writes}
use Rattle.vx_isa.specs.Numbers.{Numbers}
use Rattle.vx_room.specs.Items.{item_of, latency_of_item, is_observable_item, is_split}
use Rattle.vx_linear.specs.declared.form.Form.{Form}
use Rattle.vx_linear.specs.Forms.{NeverSame}
use Rattle.vx_linear.specs.Followed.{forms_of}
use Rattle.vx_dep.specs.declared.mode.Mode.{Mode}
use Rattle.vx_dep.specs.declared.mode.Mode.TheVariants.{Barred}

-- what an operation of a trace does

-- the values that it reads, and the value that it writes; a split reads its test
abbrev pub reads_of : TraceOp → List ℕ
reads_of (Plain op) = reads op
reads_of (Split test leaves_when edge live) = test ∷ []

abbrev pub writes_of : TraceOp → List ℕ
writes_of (Plain op) = writes op
writes_of (Split test leaves_when edge live) = []

abbrev pub is_load : TraceOp → Bool
is_load (Plain (Load v a p dismissible)) = true
is_load op = false

abbrev pub is_store : TraceOp → Bool
is_store (Plain (Store a p x)) = true
is_store op = false

abbrev pub is_observable : TraceOp → Bool
is_observable op = is_observable_item (item_of op)

abbrev pub leaves : TraceOp → Bool
leaves op = is_split (item_of op)

abbrev pub latency_of : Numbers → TraceOp → ℕ
latency_of m op = latency_of_item m (item_of op)

-- the values that are live at the end of the edge by which a split leaves the trace
abbrev pub live_off : TraceOp → List ℕ
live_off (Plain op) = []
live_off (Split test leaves_when edge live) = live

-- where operations of a trace stand

-- this operation stands at this place
abbrev pub Stands : Trace → ℕ → TraceOp → Type 0
Stands t i op = slice_get t.ops i ≡ Some op

-- no operation between the two places writes the value
abbrev pub IsLastWriter : Trace → (v i j : ℕ) → Type 0
IsLastWriter t v i j = (k : ℕ) (op : TraceOp) → i < k → k < j → Stands t k op → IsIn v (writes_of op) → ⊥

-- a join stands below the first of the two places and above the second
pub record JoinBetween (t : Trace) (i j : ℕ) : Type 0 where
  pub join : Join
  pub is : IsIn join t.joins
  pub above : i < join.place
  pub below : join.place ≤ j

-- the accesses at the two places never touch one word
pub record NeverMeet (t : Trace) (i j : ℕ) : Type 0 where
  pub one : Form
  pub two : Form
  pub form_one : slice_get (forms_of t) i ≡ Some (Some one)
  pub form_two : slice_get (forms_of t) j ≡ Some (Some two)
  pub never : NeverSame one two

-- two splits may stand in one word, in their order, where the machine issues two branches
abbrev pub between_splits : Numbers → ℕ
between_splits m = if m.branches == 1 then 1 else 0

-- the table: a stands at place i of the trace, b at place j below it, and b has to stand so many words behind a
pub data Row (m : Numbers) (mode : Mode) (t : Trace) (i j : ℕ) (a b : TraceOp) : ℕ → Type 0 where
  -- b reads what a wrote last, or writes what a writes, or writes what a reads
  reads_written : (v : ℕ) → IsIn v (writes_of a) → IsIn v (reads_of b) → IsLastWriter t v i j → Row m mode t i j a b (latency_of m a)
  writes_written : (v : ℕ) → IsIn v (writes_of a) → IsIn v (writes_of b) → Row m mode t i j a b (latency_of m a)
  writes_read : (v : ℕ) → IsIn v (reads_of a) → IsIn v (writes_of b) → Row m mode t i j a b 0
  -- accesses that may touch one word
  access_behind_store : is_store a ≡ true → (is_load b ≡ true) ⊎ (is_store b ≡ true) → (NeverMeet t i j → ⊥) → Row m mode t i j a b 1
  store_behind_load : is_load a ≡ true → is_store b ≡ true → (NeverMeet t i j → ⊥) → Row m mode t i j a b 0
  both_observable : is_observable a ≡ true → is_observable b ≡ true → Row m mode t i j a b 1
  both_splits : leaves a ≡ true → leaves b ≡ true → Row m mode t i j a b (between_splits m)
  -- what would be seen where the split leaves stays below it
  seen_behind_split : leaves a ≡ true → (is_store b ≡ true) ⊎ (is_observable b ≡ true) → Row m mode t i j a b 1
  live_behind_split : (v : ℕ) → leaves a ≡ true → IsIn v (live_off a) → IsIn v (writes_of b) → Row m mode t i j a b 1
  split_behind_observable : is_observable a ≡ true → leaves b ≡ true → Row m mode t i j a b 0
  -- what is not copied onto the edges of a join stays below all that stood above it
  seen_behind_join : JoinBetween t i j → (is_observable b ≡ true) ⊎ (leaves b ≡ true) → Row m mode t i j a b 1
  -- nothing moves past a split or a join
  barred_above_split : mode ≡ Barred → leaves b ≡ true → Row m mode t i j a b 0
  barred_below_split : mode ≡ Barred → leaves a ≡ true → Row m mode t i j a b 1
  barred_below_join : mode ≡ Barred → JoinBetween t i j → Row m mode t i j a b 1

-- a row with this number applies to the operations at the two places
pub record Applies (m : Numbers) (mode : Mode) (t : Trace) (i j delay : ℕ) : Type 0 where
  pub one : TraceOp
  pub two : TraceOp
  pub in_order : i < j
  pub stands_one : Stands t i one
  pub stands_two : Stands t j two
  pub row : Row m mode t i j one two delay

-- the delay of the pair is the greatest number of the rows that apply
pub record IsGreatest (m : Numbers) (mode : Mode) (t : Trace) (i j delay : ℕ) : Type 0 where
  pub applies : Applies m mode t i j delay
  pub greatest : (other : ℕ) → Applies m mode t i j other → other ≤ delay

-- there is none where no row applies
abbrev pub IsDelay : Numbers → Mode → Trace → (i j : ℕ) → Option ℕ → Type 0
IsDelay m mode t i j None = (delay : ℕ) → Applies m mode t i j delay → ⊥
IsDelay m mode t i j (Some delay) = IsGreatest m mode t i j delay

-- the height of the operation at place i, where `height` gives those below it: the greatest sum of a delay and the height
-- of the later operation, 0 where no later operation has a delay
abbrev pub IsHeight : Numbers → Mode → Trace → (height : ℕ → ℕ) → ℕ → Type 0
IsHeight m mode t height i =
    ((j delay : ℕ) → Applies m mode t i j delay → delay + height j ≤ height i)
    × (((height i ≡ 0) × ((j delay : ℕ) → Applies m mode t i j delay → ⊥)) ⊎ ((j : ℕ) × (delay : ℕ) × Applies m mode t i j delay × (height i ≡ delay + height j)))

abbrev pub AreHeights : Numbers → Mode → Trace → (height : ℕ → ℕ) → Type 0
AreHeights m mode t height = (i : ℕ) → i < length t.ops → IsHeight m mode t height i

-- laws, each the clause of a public function

-- a pair has one delay or none
abbrev pub OneDelay : Type 0
OneDelay = (m : Numbers) (mode : Mode) (t : Trace) (i j : ℕ) (d e : Option ℕ) → IsDelay m mode t i j d → IsDelay m mode t i j e → d ≡ e

-- an operation has one height
abbrev pub OneHeight : Type 0
OneHeight = (m : Numbers) (mode : Mode) (t : Trace) (h k : ℕ → ℕ) → AreHeights m mode t h → AreHeights m mode t k → (i : ℕ) → i < length t.ops → h i ≡ k i
