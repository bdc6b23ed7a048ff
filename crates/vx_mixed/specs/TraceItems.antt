-- The operations of a trace as items: in blocks, and on their clusters; and its splits.
use Rattle.std.specs.Prelude.{ℕ, List, [], ◌∷◌, map}
use Rattle.vx_flow.specs.declared.trace.TraceOp.{TraceOp}
use Rattle.vx_flow.specs.declared.trace.TraceOp.TheVariants.{Plain as TracePlain, Split as TraceSplit}
use Rattle.vx_mixed.specs.declared.region.Item.{Item}
use Rattle.vx_mixed.specs.declared.region.Item.TheVariants.{Plain, Split}

abbrev pub plain_item : TraceOp → Item
plain_item (TracePlain op) = Plain op 0
plain_item (TraceSplit p y e live) = Split p y e 0

abbrev pub plain_items : List TraceOp → List Item
plain_items ops = map plain_item ops

abbrev pub item_of : TraceOp → ℕ → Item
item_of (TracePlain op) cluster = Plain op cluster
item_of (TraceSplit p y e live) cluster = Split p y e 0

abbrev pub items_of : List TraceOp → List ℕ → List Item
items_of [] clusters = []
items_of (op ∷ ops) [] = item_of op 0 ∷ items_of ops []
items_of (op ∷ ops) (c ∷ clusters) = item_of op c ∷ items_of ops clusters

-- the splits of a trace
abbrev pub splits_of : List TraceOp → List TraceOp
splits_of [] = []
splits_of (TracePlain op ∷ ops) = splits_of ops
splits_of (TraceSplit p y e live ∷ ops) = TraceSplit p y e live ∷ splits_of ops
