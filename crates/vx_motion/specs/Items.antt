-- What an item of a trace does where it stands in trace order, and the form in which it is placed in a word.
use Rattle.std.specs.Prelude.{◌≡◌, ◌⊎◌, ℕ, ℤ, Bool, true, Option, Some}
use Rattle.vx_flow.specs.declared.graph.Op.{Op}
use Rattle.vx_flow.specs.declared.graph.Op.TheVariants.{Load}
use Rattle.vx_flow.specs.declared.graph.Operand.{Operand}
use Rattle.vx_flow.specs.declared.graph.Edge.{Edge}
use Rattle.vx_flow.specs.Effects.{State, Setting, effect, calm_effect, Location, Of, Cell, TheInput, TheOutput, Datum, Holds, IsOf, ReadsBesides, WritesBesides}
use Rattle.vx_mixed.specs.declared.region.Item.{Item}
use Rattle.vx_mixed.specs.declared.region.Item.TheVariants.{Plain, Split}
use Rattle.vx_mixed.specs.Live.{item_reads, item_writes}

-- what is known stays; an unknown value may become anything, a cell, the input and the output may not
abbrev pub Fine : Location → Datum → Datum → Type 0
Fine (Of v) d e = (n : ℤ) → d ≡ Holds (Some n) → e ≡ Holds (Some n)
Fine (Cell a i) d e = e ≡ d
Fine TheInput d e = e ≡ d
Fine TheOutput d e = e ≡ d

abbrev pub item_effect : Setting → State → Item → State → Option State
item_effect setting s (Plain op cluster) t = effect setting s op t
item_effect setting s (Split p y edge d) t = Some t

-- one item in trace order, so that it always has a meaning
abbrev pub calm : Setting → State → Item → State
calm setting s (Plain op cluster) = calm_effect setting s op s
calm setting s (Split p y edge d) = s

-- what an item reads and writes besides values
abbrev pub item_takes : Setting → State → Item → Location → Type 0
item_takes setting s (Plain op cluster) l = ReadsBesides setting s op l
item_takes setting s (Split p y edge d) l = ⊥

abbrev pub item_gives : Setting → State → Item → Location → Type 0
item_gives setting s (Plain op cluster) l = WritesBesides setting s op l
item_gives setting s (Split p y edge d) l = ⊥

abbrev pub Reads : Setting → State → Item → Location → Type 0
Reads setting s i l = IsOf (item_reads i) l ⊎ item_takes setting s i l

abbrev pub Writes : Setting → State → Item → Location → Type 0
Writes setting s i l = IsOf (item_writes i) l ⊎ item_gives setting s i l

-- the item as it is placed: a load may be dismissible there, a split may go to another block, the cluster is open
pub data Marked : Item → Item → Type 0 where
  as_it_is : {op : Op} {cluster cluster' : ℕ} → Marked (Plain op cluster) (Plain op cluster')
  dismissible : {v a cluster cluster' : ℕ} {p : Operand} {d : Bool} → Marked (Plain (Load v a p d) cluster) (Plain (Load v a p true) cluster')
  split : {p d d' : ℕ} {edge edge' : Edge} {y : Bool} → Marked (Split p y edge d) (Split p y edge' d')

-- it has a meaning where it stands in trace order
abbrev pub Safe : Setting → State → Item → Type 0
Safe setting s i = (t : State) × (item_effect setting s i s ≡ Some t)
