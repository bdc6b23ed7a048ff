-- The rows of the table of delays as tests of what is asked of two operations of a trace, one above the other.
use Rattle.std.specs.Prelude.{◌≡◌, not, ◌&&◌, ◌||◌, ℕ, max, Bool, true, false, if◌then◌else◌, Option, Some, None}
use Rattle.vx_flow.specs.declared.trace.TraceOp.{TraceOp}
use Rattle.vx_flow.specs.declared.trace.Trace.{Trace}
use Rattle.vx_flow.specs.Effects.{IsIn}
use Rattle.vx_flow.specs.Operands.{values_read}
use Rattle.vx_dep.specs.declared.mode.Mode.{Mode}
use Rattle.vx_dep.specs.declared.mode.Mode.TheVariants.{Free, Barred}
use Rattle.vx_dep.specs.declared.rows.Ways.{Ways}
use Rattle.vx_dep.specs.declared.traits.Traits.{Traits}
use Rattle.vx_dep.specs.Delays.{Stands, writes_of, leaves, live_off, IsLastWriter, JoinBetween, NeverMeet}
use Rattle.vx_dep.specs.Traits.{has}
use Rattle.vx_dep.specs.Tables.{write_alike}

abbrev pub is_barred : Mode → Bool
is_barred Free = false
is_barred Barred = true

-- b reads what a wrote last, or writes what a writes
abbrev pub are_tied : Traits → Traits → (last : Bool) → Bool
are_tied a b last = (last && has a.written (values_read b.reads)) || write_alike a b

-- a row with the number 1 applies

abbrev pub stays_behind_split : Mode → Traits → Ways → Bool
stays_behind_split mode b w = (((b.alone || b.is_store) || b.is_observable) || w.live) || is_barred mode

abbrev pub stays_behind_join : Mode → Traits → Bool
stays_behind_join mode b = (b.is_observable || b.leaves) || is_barred mode

abbrev pub stays_behind : Mode → Traits → Traits → Ways → Bool
stays_behind mode a b w =
    (((w.touch && a.is_store) || (a.is_observable && b.is_observable)) || (a.leaves && stays_behind_split mode b w)) || (w.joined && stays_behind_join mode b)

-- a row with the number 0 applies

-- a split below stays below: beside a split in one word, or behind what is observable
abbrev pub keeps_split : Traits → Traits → Bool
keeps_split a b = (a.leaves && not b.alone) || a.is_observable

abbrev pub stays_below : Mode → Traits → Traits → Ways → Bool
stays_below mode a b w = (has b.written (values_read a.reads) || (w.touch && a.is_load)) || (b.leaves && (keeps_split a b || is_barred mode))

abbrev pub row_of : Mode → Traits → Traits → Ways → Option ℕ
row_of mode a b w = if stays_behind mode a b w then Some 1 else (if stays_below mode a b w then Some 0 else None)

abbrev pub at_least : ℕ → Option ℕ → Option ℕ
at_least d None = Some d
at_least d (Some e) = Some (max d e)

abbrev pub delay_of : Mode → Traits → Traits → Ways → Option ℕ
delay_of mode a b w = if are_tied a b w.last then at_least a.latency (row_of mode a b w) else row_of mode a b w

-- the upper one is neither observable nor a split, and not both access an array
abbrev pub are_quiet : Traits → Traits → Bool
are_quiet a b = not a.is_fixed && not (a.is_access && b.is_access)

-- the greatest number of two operations of which only the values count
abbrev pub values_delay_of : Traits → Traits → (last : Bool) → Option ℕ
values_delay_of a b last = if are_tied a b last then Some a.latency else (if has b.written (values_read a.reads) then Some 0 else None)

-- the greatest number of two quiet operations: the lower one stays behind a join, or as a split that nothing passes
abbrev pub quiet_delay_of : Mode → Traits → Traits → (last joined : Bool) → Option ℕ
quiet_delay_of mode a b last joined =
    if joined && stays_behind_join mode b then at_least 1 (values_delay_of a b last) else (if b.leaves && is_barred mode then at_least 0 (values_delay_of a b last) else values_delay_of a b last)

-- a split that shares its word with none, or what is seen where a split above it leaves
abbrev pub is_seen : Traits → Bool
is_seen b = (b.alone || b.is_store) || b.is_observable

-- the greatest number behind a split: it writes nothing and accesses no array; a split that may share its word stays behind a join
abbrev pub split_delay_of : Mode → Traits → Traits → (joined live : Bool) → Option ℕ
split_delay_of mode a b joined live =
    if (is_seen b || live) || is_barred mode then Some 1 else (if b.leaves then (if joined then Some 1 else Some 0) else (if has b.written (values_read a.reads) then Some 0 else None))

-- accesses of which one is a store, and that may touch one word
pub record MayTouch (t : Trace) (i j : ℕ) (a b : Traits) : Type 0 where
  pub upper : a.is_access ≡ true
  pub lower : b.is_access ≡ true
  pub stores : (a.is_store || b.is_store) ≡ true
  pub meet : NeverMeet t i j → ⊥

-- what is told of the operations at places i and j of a trace, of which a and b is what delays ask
pub record AreWays (t : Trace) (i j : ℕ) (a b : Traits) (one two : TraceOp) (w : Ways) : Type 0 where
  pub last : w.last ≡ true → (v : ℕ) → IsIn v (writes_of one) → IsLastWriter t v i j
  pub not_last : w.last ≡ false → (v : ℕ) → IsIn v (writes_of one) → IsLastWriter t v i j → ⊥
  pub touch : w.touch ≡ true → MayTouch t i j a b
  pub not_touch : w.touch ≡ false → MayTouch t i j a b → ⊥
  pub joined : w.joined ≡ true → JoinBetween t i j
  pub not_joined : w.joined ≡ false → JoinBetween t i j → ⊥
  pub live : w.live ≡ true → leaves one ≡ true → (v : ℕ) × IsIn v (live_off one) × IsIn v (writes_of two)
  pub not_live : w.live ≡ false → leaves one ≡ true → (v : ℕ) → IsIn v (live_off one) → IsIn v (writes_of two) → ⊥

-- of whatever operations stand there
abbrev pub Tells : Trace → (i j : ℕ) → Traits → Traits → Ways → Type 0
Tells t i j a b w = (one two : TraceOp) → Stands t i one → Stands t j two → AreWays t i j a b one two w
