-- What is noted of the loop that is looked at. The loops that are looked at are numbered one after the other. In each row of notes
-- stands, at the number of a block, a value or an array, the number of the loop for which it was noted last.
use Rattle.std.specs.Prelude.{◌≡◌, ◌⊎◌, ◌==◌, ◌+◌, ◌-◌, ◌^◌, ◌<◌, ◌≤◌, ◌&&◌, ◌||◌, ℕ, Bool, true, false, if◌then◌else◌, List, [], ◌∷◌, ◌++◌, Option, Some, None, slice_get, slice_index_or, length, min, nat_lt}
use Rattle.std.specs.List.{flat_map}
use Rattle.vx_flow.specs.declared.graph.Operand.{Operand}
use Rattle.vx_flow.specs.declared.graph.Operand.TheVariants.{Held, Number, Stack}
use Rattle.vx_flow.specs.declared.graph.Op.{Op}
use Rattle.vx_flow.specs.declared.graph.Op.TheVariants.{Store}
use Rattle.vx_flow.specs.declared.graph.Exit.{Exit}
use Rattle.vx_flow.specs.declared.graph.Exit.TheVariants.{Call}
use Rattle.vx_flow.specs.declared.graph.Block.{Block}
use Rattle.vx_flow.specs.declared.graph.Graph.{Graph}
use Rattle.vx_flow.specs.Effects.{IsIn, writes}
use Rattle.vx_flow.specs.Sound.{Leads, results_of_exit}
use Rattle.vx_flow.specs.Rows.{row_at}
use Rattle.vx_loops.specs.declared.notes.Loops.{Loops}
use Rattle.vx_loops.specs.Order.{times_in}
use Rattle.vx_loops.specs.Path.{all_targets}

-- what the notes say

-- whether what stands in a row is the number; `behind` where the row is too short
abbrev pub is_number : (behind : Bool) → Option ℕ → ℕ → Bool
is_number behind None number = behind
is_number behind (Some last) number = last == number

-- the loop writes a value; one that the graph has not counts as written
abbrev pub is_written : Loops → ℕ → Bool
is_written l v = is_number true (slice_get l.writers.items v) l.number

abbrev pub is_written_once : Loops → ℕ → Bool
is_written_once l v = is_number false (slice_get l.times.items v) 1 && is_written l v

abbrev pub keeps : Loops → Operand → Bool
keeps l (Held v) = if is_written l v then false else true
keeps l (Number n) = true
keeps l Stack = true

abbrev pub is_stored : Loops → ℕ → Bool
is_stored l a = is_number true (slice_get l.stores.items a) l.number

abbrev pub has_call : Loops → Bool
has_call l = l.calls == l.number

abbrev pub is_inside : Loops → ℕ → Bool
is_inside l b = is_number false (slice_get l.members.items b) l.number

-- what blocks do

abbrev pub stores_of : Op → List ℕ
stores_of (Store a p x) = a ∷ []
stores_of op = []

abbrev pub is_call : Exit → Bool
is_call (Call g arguments result next) = true
is_call exit = false

abbrev pub writes_at : Option Block → List ℕ
writes_at None = []
writes_at (Some block) = flat_map writes block.ops ++ results_of_exit block.exit

abbrev pub stores_at : Option Block → List ℕ
stores_at None = []
stores_at (Some block) = flat_map stores_of block.ops

abbrev pub calls_at : Option Block → Bool
calls_at None = false
calls_at (Some block) = is_call block.exit

-- what the blocks with these numbers write, each as often as they do; the arrays they store to; whether one ends by a call

abbrev pub writes_in : List Block → List ℕ → List ℕ
writes_in blocks numbers = flat_map (λ b. writes_at (slice_get blocks b)) numbers

abbrev pub stores_in : List Block → List ℕ → List ℕ
stores_in blocks numbers = flat_map (λ b. stores_at (slice_get blocks b)) numbers

abbrev pub calls_in : List Block → List ℕ → Bool
calls_in blocks [] = false
calls_in blocks (b ∷ numbers) = calls_at (slice_get blocks b) || calls_in blocks numbers

-- the notes are of these blocks, these values as often as they are written, these arrays, and a call or none

abbrev pub stands : List ℕ → ℕ → ℕ → Bool
stands row number place = slice_index_or row place 0 == number

pub record NotesIn (members written stored : List ℕ) (called : Bool) (number : ℕ) (member_row writer_row times_row store_row : List ℕ) (call : ℕ) : Type 0 where
  pub inside : (b : ℕ) → b < length member_row → times_in b members ≡ (if stands member_row number b then 1 else 0)
  pub outside : (b : ℕ) → length member_row ≤ b → times_in b members ≡ 0
  pub writes : (v : ℕ) → v < length writer_row → stands writer_row number v ≡ nat_lt 0 (times_in v written)
  pub counts : (v : ℕ) → v < length writer_row → stands writer_row number v ≡ true → slice_index_or times_row v 0 ≡ min (times_in v written) (2 ^ 32 - 1)
  pub stores : (a : ℕ) → a < length store_row → stands store_row number a ≡ nat_lt 0 (times_in a stored)
  pub calls : (call == number) ≡ called

abbrev pub Notes : (members written stored : List ℕ) (called : Bool) → Loops → Type 0
Notes members written stored called l = NotesIn members written stored called l.number l.members.items l.writers.items l.times.items l.stores.items l.calls

-- the notes are of what these blocks do
abbrev pub NotesOf : List Block → List ℕ → Loops → Type 0
NotesOf blocks numbers l = Notes numbers (writes_in blocks numbers) (stores_in blocks numbers) (calls_in blocks numbers) l

-- the notes tell some blocks, each once, and what these do
pub record LooksAt (blocks : List Block) (l : Loops) : Type 0 where
  pub members : List ℕ
  pub inside : (b : ℕ) → times_in b members ≡ (if is_inside l b then 1 else 0)
  pub writes : (v : ℕ) → v < length l.writers.items → is_written l v ≡ nat_lt 0 (times_in v (writes_in blocks members))
  pub writes_once : (v : ℕ) → v < length l.writers.items → is_written_once l v ≡ (times_in v (writes_in blocks members) == 1)
  pub stores : (a : ℕ) → a < length l.stores.items → is_stored l a ≡ nat_lt 0 (times_in a (stores_in blocks members))
  pub calls : has_call l ≡ calls_in blocks members

-- for each block the blocks from which edges lead to it: no others stand in its row, and there are as many as the first blocks have
-- such edges
pub record SourcesOf (blocks first : List Block) (sources : List (List ℕ)) : Type 0 where
  pub rows : length sources ≡ length blocks
  pub count : (b : ℕ) → b < length blocks → length (row_at sources b) ≡ times_in b (all_targets first)
  pub leads : (from b : ℕ) → IsIn from (row_at sources b) → Leads blocks from b

-- the tables have a place for each block, value and array of a graph, and for each block as many blocks as edges lead to it, none of
-- them without such an edge
pub record TablesIn (g : Graph) (member_row writer_row store_row : List ℕ) (sources : List (List ℕ)) : Type 0 where
  pub members : length member_row ≡ length g.blocks
  pub values : length writer_row ≡ length g.banks
  pub arrays : length store_row ≡ length g.arrays
  pub edges : (b : ℕ) → b < length g.blocks → length (row_at sources b) ≡ times_in b (all_targets g.blocks)
  pub leads : (from b : ℕ) → IsIn from (row_at sources b) → Leads g.blocks from b

abbrev pub TablesOf : Graph → Loops → Type 0
TablesOf g l = TablesIn g l.members.items l.writers.items l.stores.items l.sources.items

-- as many more edges are noted as lead from a block to these, and no others
pub record Gains (from : ℕ) (targets : List ℕ) (before after : List (List ℕ)) : Type 0 where
  pub rows : length after ≡ length before
  pub more : (b : ℕ) → b < length before → length (row_at after b) ≡ length (row_at before b) + times_in b targets
  pub leads : (other b : ℕ) → IsIn other (row_at after b) → IsIn other (row_at before b) ⊎ ((other ≡ from) × IsIn b targets)
