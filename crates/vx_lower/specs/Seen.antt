-- What the code of a function names: its scalars, and the arrays that it sees, which are the globals, those that are handed
-- over to it and its own.
use Rattle.std.specs.Prelude.{ℕ, suc, ◌^◌, pos, Bool, true, false, nat_lt, Some, None, List, [], ◌∷◌, slice_index_or}
use Rattle.std.specs.List.{list_all}
use Rattle.vx_flow.specs.declared.graph.Operand.{Operand}
use Rattle.vx_flow.specs.declared.graph.Operand.TheVariants.{Held, Number}
use Rattle.vx_flow.specs.declared.graph.Op.{Op}
use Rattle.vx_flow.specs.declared.graph.Op.TheVariants.{Place, PlaceIn}
use Rattle.vx_flow.specs.declared.graph.Array.{Array}
use Rattle.vx_lower.specs.declared.seen.Seen.{Seen}
use Rattle.vx_lower.specs.declared.seen.Seen.TheVariants.{GlobalArray, OwnArray, Handed}

-- how many scalars there are, and the arrays by their numbers
pub record Sees : Type 0 where
  pub scalars : ℕ
  pub arrays : List Seen

-- array a; one that is not there has no words
abbrev pub seen_at : Sees → ℕ → Seen
seen_at sees a = slice_index_or sees.arrays a (OwnArray 0)

-- how many words an array has: a number, or the value that holds it
abbrev pub size_of : Seen → Operand
size_of (GlobalArray n) = Number (pos n)
size_of (OwnArray n) = Number (pos n)
size_of (Handed base size) = Held size

abbrev pub size_at : Sees → ℕ → Operand
size_at sees a = size_of (seen_at sees a)

-- the place of the element of array a at an index comes into t
abbrev pub place_by : Seen → (t a : ℕ) → Operand → Op
place_by (GlobalArray n) t a index = Place t a index
place_by (OwnArray n) t a index = Place t a index
place_by (Handed base size) t a index = PlaceIn t a base index

abbrev pub place_op : Sees → (t a : ℕ) → Operand → Op
place_op sees t a index = place_by (seen_at sees a) t a index

-- the array of a graph: one that is handed over has no words of its own and a base; each is named by its place
abbrev pub array_for : (place : ℕ) → Seen → Array
array_for place (GlobalArray n) = record { words = n; global = true; named = place; base = None }
array_for place (OwnArray n) = record { words = n; global = false; named = place; base = None }
array_for place (Handed base size) = record { words = 0; global = false; named = place; base = Some base }

abbrev pub arrays_from : (place : ℕ) → List Seen → List Array
arrays_from place [] = []
arrays_from place (x ∷ xs) = array_for place x ∷ arrays_from (suc place) xs

-- each number of words is below 2^31
abbrev pub is_small : Seen → Bool
is_small (GlobalArray n) = nat_lt n (2 ^ 31)
is_small (OwnArray n) = nat_lt n (2 ^ 31)
is_small (Handed base size) = true

abbrev pub are_small : List Seen → Bool
are_small arrays = list_all is_small arrays
