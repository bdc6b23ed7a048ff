-- Values of a graph in ascending order, as they are found one after the other.
use Rattle.std.specs.Prelude.{◌≡◌, ◌<◌, ◌≤◌, ◌+◌, ◌||◌, nat_le, if◌then◌else◌, ℕ, Bool, true, false, Option, Some, None, List, ◌++◌, length, take}
use Rattle.std.specs.List.{list_any}
use Rattle.vx_flow.specs.declared.graph.Op.{Op}
use Rattle.vx_flow.specs.Operands.{value_list, written_by, read_by, values_read}
use Rattle.vx_flow.specs.declared.graph.Graph.{Graph}
use Rattle.vx_select.specs.declared.values.Values.{Values}
use Rattle.vx_select.specs.Selected.{Diamond, has, those_from, left_values, right_values, free_values, chosen_values}

-- the operation writes the value; it writes or reads it
abbrev pub writes_it : ℕ → Op → Bool
writes_it v op = has (value_list (written_by op)) v

abbrev pub names_it : ℕ → Op → Bool
names_it v op = writes_it v op || has (values_read (read_by op)) v

-- one of the operations writes the value
abbrev pub are_writing : List Op → ℕ → Bool
are_writing ops v = list_any (writes_it v) ops

abbrev pub either_writing : (left right : List Op) → ℕ → Bool
either_writing left right v = are_writing left v || are_writing right v

-- the least number from k on that passes, or none where none does
abbrev pub IsNext : (ℕ → Bool) → (k : ℕ) → Option ℕ → Type 0
IsNext p k None = (v : ℕ) → k ≤ v → p v ≡ false
IsNext p k (Some v) = (k ≤ v) × (p v ≡ true) × ((u : ℕ) → k ≤ u → u < v → p u ≡ false)

abbrev pub lesser : Option ℕ → Option ℕ → Option ℕ
lesser None q = q
lesser (Some u) None = Some u
lesser (Some u) (Some v) = if nat_le u v then Some u else Some v

-- of the numbers below a count that pass, those below k were found
pub record Listing (p : ℕ → Bool) (count k : ℕ) (found : List ℕ) : Type 0 where
  pub rest : ℕ
  pub ends : k + rest ≡ count
  pub whole : found ++ those_from p k rest ≡ those_from p 0 count

-- the same where no more than so many are asked for
pub record Taking (p : ℕ → Bool) (count most k : ℕ) (found : List ℕ) : Type 0 where
  pub rest : ℕ
  pub more : ℕ
  pub ends : k + rest ≡ count
  pub left : length found + more ≡ most
  pub whole : found ++ take more (those_from p k rest) ≡ take most (those_from p 0 count)

-- by these values the diamond is converted; of the free ones the lowest, as many as both sides write
pub record AreValues (live : ℕ → ℕ → Bool) (g : Graph) (d : Diamond) (values : Values) : Type 0 where
  pub left : values.left.items ≡ left_values g d
  pub right : values.right.items ≡ right_values g d
  pub free : values.free.items ≡ take (length (left_values g d) + length (right_values g d)) (free_values live g d)
  pub chosen : values.chosen.items ≡ chosen_values live g d
