-- From which block edges lead to each block of a graph.
use Rattle.std.specs.Prelude.{◌≡◌, ◌<◌, ◌-◌, ◌^◌, ◌⊎◌, ℕ, List, Some, length, slice_get, slice_index_or}
use Rattle.vx_flow.specs.declared.graph.Block.{Block}
use Rattle.vx_flow.specs.Effects.{IsIn}
use Rattle.vx_flow.specs.Sound.{Leads, targets_of}

-- it is noted for block b that edges come from a block, or from many
abbrev pub IsNoted : List ℕ → (from b : ℕ) → Type 0
IsNoted origins from b = (slice_index_or origins b 0 ≡ from) ⊎ (slice_index_or origins b 0 ≡ length origins)

-- an edge leads to block b from a block before a place
abbrev pub LeadsBefore : List Block → (place from b : ℕ) → Type 0
LeadsBefore blocks place from b = (from < place) × Leads blocks from b

-- edges lead to block b from two blocks before a place
pub record HasTwo (blocks : List Block) (place b : ℕ) : Type 0 where
  pub one : ℕ
  pub other : ℕ
  pub differ : one ≡ other → ⊥
  pub from_one : LeadsBefore blocks place one b
  pub from_other : LeadsBefore blocks place other b

-- what is noted of block b of so many is true of the blocks before a place: no block, one from which an edge leads to b, or many
-- where edges lead there from two
abbrev pub NoteIsTrue : List Block → (place many b noted : ℕ) → Type 0
NoteIsTrue blocks place many b noted = (noted ≡ 2 ^ 64 - 1) ⊎ (LeadsBefore blocks place noted b ⊎ ((noted ≡ many) × HasTwo blocks place b))

-- each edge comes from the block that is noted where it leads, if not many are; and what is noted is true, so that many are noted
-- only where edges come from two blocks
pub record AreOrigins (blocks : List Block) (origins : List ℕ) : Type 0 where
  pub count : length origins ≡ length blocks
  pub noted : (from b : ℕ) (block : Block) → slice_get blocks from ≡ Some block → IsIn b (targets_of block.exit) → b < length blocks → IsNoted origins from b
  pub told : (b : ℕ) → b < length blocks → NoteIsTrue blocks (length blocks) (length blocks) b (slice_index_or origins b 0)

-- the same of the blocks before a place
abbrev pub NotedBefore : List Block → ℕ → List ℕ → Type 0
NotedBefore blocks place origins = (from b : ℕ) (block : Block) → from < place → slice_get blocks from ≡ Some block → IsIn b (targets_of block.exit) → b < length blocks → IsNoted origins from b

abbrev pub TrueBefore : List Block → ℕ → List ℕ → Type 0
TrueBefore blocks place origins = (b : ℕ) → b < length blocks → NoteIsTrue blocks place (length blocks) b (slice_index_or origins b 0)

-- what is noted where a block was known and an edge from one more is found: that one, or many where another was known
abbrev pub IsJoined : (many known from noted : ℕ) → Type 0
IsJoined many known from noted = (noted ≡ from) ⊎ ((noted ≡ many) × (known < 2 ^ 64 - 1) × (known ≡ from → ⊥))

-- a block is noted where its edges lead, and there alone, and what was noted of others holds
pub record Takes (from : ℕ) (targets before after : List ℕ) : Type 0 where
  pub count : length after ≡ length before
  pub noted : (b : ℕ) → b < length before → IsIn b targets → IsNoted after from b
  pub stays : (other b : ℕ) → other < length before → b < length before → IsNoted before other b → IsNoted after other b
  pub joins : (b : ℕ) → b < length before → (slice_index_or after b 0 ≡ slice_index_or before b 0) ⊎ (IsIn b targets × IsJoined (length before) (slice_index_or before b 0) from (slice_index_or after b 0))
