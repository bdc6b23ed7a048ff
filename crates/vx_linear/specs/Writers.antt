-- The last operation above a place that writes a value, and what it made.
use Rattle.std.specs.Prelude.{ℕ, zero, suc, Bool, false, ◌&&◌, nat_lt, if◌then◌else◌, Option, Some, None, List, slice_get}
use Rattle.std.specs.List.{list_any}
use Rattle.vx_flow.specs.declared.trace.TraceOp.{TraceOp}
use Rattle.vx_flow.specs.declared.trace.Join.{Join}
use Rattle.vx_flow.specs.declared.trace.Trace.{Trace}
use Rattle.vx_linear.specs.declared.form.Symbol.TheVariants.{Entry, Made, EntryPlace, MadePlace}
use Rattle.vx_linear.specs.declared.linear.Linear.{Linear}
use Rattle.vx_linear.specs.declared.known_values.Known.{Known}
use Rattle.vx_linear.specs.Linear.{symbol}
use Rattle.vx_linear.specs.Followed.{writes_it, plain, made, known, index_made, above_of}

abbrev pub writes_there : ℕ → Option TraceOp → Bool
writes_there v None = false
writes_there v (Some op) = writes_it v op

-- the last of the first operations that writes a value
abbrev pub writer : List TraceOp → ℕ → ℕ → Option ℕ
writer ops zero v = None
writer ops (suc i) v = if writes_there v (slice_get ops i) then Some i else writer ops i v

-- a join stands below place j, and not below place i
abbrev pub is_between : ℕ → ℕ → Join → Bool
is_between j i join = nat_lt j join.place && nat_lt join.place (suc i)

abbrev pub has_join : List Join → ℕ → ℕ → Bool
has_join joins j i = list_any (is_between j i) joins

-- what the operation at a place makes
abbrev pub made_there : Trace → ℕ → Option TraceOp → Known
made_there t j None = plain (symbol (Made j))
made_there t j (Some op) = made j op (known (above_of t j))

abbrev pub made_at : Trace → ℕ → Known
made_at t j = made_there t j (slice_get t.ops j)

abbrev pub index_there : Trace → ℕ → Option TraceOp → Linear
index_there t j None = symbol (MadePlace j)
index_there t j (Some op) = index_made j op (above_of t j)

-- what is known at place i of a value whose last writer this is
abbrev pub known_by : Trace → ℕ → ℕ → Option ℕ → Known
known_by t i v None = plain (symbol (Entry v))
known_by t i v (Some j) = if has_join t.joins j i then plain (symbol (Made j)) else made_at t j

abbrev pub index_by : Trace → ℕ → ℕ → Option ℕ → Linear
index_by t i v None = symbol (EntryPlace v)
index_by t i v (Some j) = if has_join t.joins j i then symbol (MadePlace j) else index_there t j (slice_get t.ops j)
