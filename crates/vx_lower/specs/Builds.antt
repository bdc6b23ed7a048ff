-- What a graph that is being made says of each graph that finishes it.
use Rattle.std.specs.Prelude.{◌≡◌, ◌⊎◌, ℕ, ◌<◌, ◌≤◌, Some, None, List, [], ◌∷◌, ◌++◌, length, slice_get, slice_set}
use Rattle.vx_base.specs.declared.outcome.Trap.{Trap}
use Rattle.vx_flow.specs.declared.graph.Bank.{Bank}
use Rattle.vx_flow.specs.declared.graph.Op.{Op}
use Rattle.vx_flow.specs.declared.graph.Exit.{Exit}
use Rattle.vx_flow.specs.declared.graph.Exit.TheVariants.{Goto, Split, Call, Return, Ends}
use Rattle.vx_flow.specs.declared.graph.Block.{Block}
use Rattle.vx_lower.specs.Holds.{Goes, Tests, then_op, ends}
use Rattle.vx_lower.specs.declared.builder.Builder.{Builder}

-- the steps

abbrev pub reserved : Builder → Builder
reserved b = record b { blocks = b.blocks ++ None ∷ [] }

abbrev pub closed : Builder → Exit → ℕ → Builder
closed b exit n = record b { blocks = slice_set b.blocks b.current (Some (record { ops = b.ops; exit = exit })); current = n; ops = [] }

abbrev pub turned_to : Builder → ℕ → Builder
turned_to b n = record b { current = n }

abbrev pub filled : Builder → ℕ → Block → Builder
filled b n block = record b { blocks = slice_set b.blocks n (Some block) }

abbrev pub with_value : Builder → Bank → Builder
with_value b bank = record b { banks = b.banks ++ bank ∷ [] }

abbrev pub with_op : Builder → Op → Builder
with_op b op = record b { ops = b.ops ++ op ∷ [] }

-- the number of the next value
abbrev pub next : Builder → ℕ
next b = length b.banks

-- the open block is not finished
pub record Ready (b : Builder) : Type 0 where
  pub is : slice_get b.blocks b.current ≡ Some None

-- no block has more than 512 operations
pub record Limited (b : Builder) : Type 0 where
  pub opened : length b.ops ≤ 512
  pub blocks : (n : ℕ) (block : Block) → slice_get b.blocks n ≡ Some (Some block) → length block.ops ≤ 512

-- only the open block of old and later ones are touched
pub record Grows (old new : Builder) : Type 0 where
  pub ready : Ready new
  pub kept : (i : ℕ) → i < length old.blocks → (i ≡ old.current → ⊥) → slice_get new.blocks i ≡ slice_get old.blocks i
  pub longer : length old.blocks ≤ length new.blocks
  pub current : (new.current ≡ old.current) ⊎ (length old.blocks ≤ new.current)
  pub values : length old.banks ≤ length new.banks
  pub banks : (v : ℕ) → v < length old.banks → slice_get new.banks v ≡ slice_get old.banks v
  pub limited : Limited old → Limited new

-- a finished block stands in B; a trap may stand elsewhere, and then a jump leads to it
abbrev pub Stands : List Block → ℕ → Block → Exit → Type 0
Stands B n block (Goto c) = slice_get B n ≡ Some block
Stands B n block (Split t y z) = slice_get B n ≡ Some block
Stands B n block (Call f os r m) = slice_get B n ≡ Some block
Stands B n block (Return o) = slice_get B n ≡ Some block
Stands B n block (Ends k) = (no : Block) × (slice_get B n ≡ Some no) × Goes B (ends (Ends k)) no

pub record Finishes (B : List Block) (b : Builder) : Type 0 where
  pub stands : (n : ℕ) (block : Block) → slice_get b.blocks n ≡ Some (Some block) → Stands B n block block.exit

-- the open block goes on with q
pub record Opens (B : List Block) (b : Builder) (q : Block) : Type 0 where
  pub is : slice_get B b.current ≡ Some (record { ops = b.ops ++ q.ops; exit = q.exit })

pub record From (B : List Block) (b : Builder) (P : Block → Type 0) : Type 0 where
  pub start : Block
  pub opens : Opens B b start
  pub holds : P start

-- an operation was added
pub record Puts (op : Op) (old new : Builder) : Type 0 where
  pub grows : Grows old new
  pub banks : new.banks ≡ old.banks
  pub step : (B : List Block) (q : Block) → Finishes B new → Opens B new q → From B old (λ p. Goes B (then_op op q) p)

-- a test was added: the open block is where it holds, and n where it does not
pub record Branches (op : Op) (c n : ℕ) (old new : Builder) : Type 0 where
  pub grows : Grows old new
  pub banks : new.banks ≡ old.banks
  pub other : slice_get new.blocks n ≡ Some None
  pub apart : n ≡ new.current → ⊥
  pub late : length old.blocks ≤ n
  pub moved : length old.blocks ≤ new.current
  pub empty : new.ops ≡ []
  pub step : (B : List Block) (one two : Block) → Finishes B new → Opens B new one → slice_get B n ≡ Some two → From B old (λ p. Tests B op c p one two)

-- a test was added that ends the program by a trap where it does not hold
pub record Guards (op : Op) (c : ℕ) (k : Trap) (old new : Builder) : Type 0 where
  pub grows : Grows old new
  pub banks : new.banks ≡ old.banks
  pub step : (B : List Block) (q : Block) → Finishes B new → Opens B new q → From B old (λ p. (no : Block) × Tests B op c p q no × Goes B (ends (Ends k)) no)
