-- The items of a trace in its order, each with its word, where a number above the words of the splits so far stands for these.
use Rattle.std.specs.Prelude.{◌+◌, ℕ, if◌then◌else◌, nat_lt, List, [], ◌∷◌, drop, slice_index_or}
use Rattle.vx_flow.specs.declared.graph.Op.{Op}
use Rattle.vx_flow.specs.declared.trace.TraceOp.{TraceOp}
use Rattle.vx_flow.specs.declared.trace.TraceOp.TheVariants.{Plain as TracePlain, Split as TraceSplit}
use Rattle.vx_flow.specs.Effects.{dismissed}
use Rattle.vx_mixed.specs.declared.region.Item.{Item}
use Rattle.vx_mixed.specs.declared.region.Item.TheVariants.{Plain, Split}
use Rattle.vx_mixed.specs.Next.{InWord}

-- a load may be dismissed in a word that is not after one of a split above it
abbrev pub freed_below : (word bound : ℕ) → Op → Op
freed_below w b op = if nat_lt w b then dismissed op else op

abbrev pub placed_item : (ℕ → ℕ → ℕ) → TraceOp → (cluster word drain bound : ℕ) → Item
placed_item to (TracePlain op) c w d b = Plain (freed_below w b op) c
placed_item to (TraceSplit p y e live) c w d b = Split p y (record e { to = to e.from e.to }) d

abbrev pub drains_behind : TraceOp → List ℕ → List ℕ
drains_behind (TracePlain op) drains = drains
drains_behind (TraceSplit p y e live) drains = drop 1 drains

abbrev pub bound_behind : TraceOp → (word bound : ℕ) → ℕ
bound_behind (TracePlain op) w b = b
bound_behind (TraceSplit p y e live) w b = if nat_lt w b then b else w + 1

abbrev pub placed_by : (ℕ → ℕ → ℕ) → List TraceOp → (clusters words drains : List ℕ) → (bound : ℕ) → List InWord
placed_by to [] clusters words drains b = []
placed_by to (op ∷ ops) [] words drains b = []
placed_by to (op ∷ ops) (c ∷ clusters) [] drains b = []
placed_by to (op ∷ ops) (c ∷ clusters) (w ∷ words) drains b =
    record { word = w; item = placed_item to op c w (slice_index_or drains 0 0) b } ∷ placed_by to ops clusters words (drains_behind op drains) (bound_behind op w b)
