-- The text of a profile, version 1: which bytes give which counts, and which line of other bytes is the first that is bad. Every
-- line ends with one line feed, and its fields stand apart by one blank.
use Rattle.std.specs.Prelude.{◌≡◌, ◌≢◌, ℕ, suc, ◌+◌, ◌^◌, ◌<◌, ◌≤◌, ◌⊎◌, Bool, false, nat_lt, if◌then◌else◌, List, [], ◌∷◌, ◌++◌, length, map, codes}
use Rattle.std.specs.BTreeMap.{IsOrdered}
use Rattle.std.specs.List.{AllByRecursion, filter, flat_map}
use Rattle.std.specs.Fmt.{digits_onto}
use Rattle.vx_flow.specs.Meaning.{Visit, AtBlock, AlongEdge}
use Rattle.vx_profile.specs.declared.counts.Counts.{Counts}
use Rattle.vx_profile.specs.declared.fault.ProfileFault.{ProfileFault}
use Rattle.vx_profile.specs.declared.fault.ProfileFault.TheVariants.{BadLine, CountTooLarge, NoMemory}
use Rattle.vx_profile.specs.Counts.{Pair, Triple, pair_cmp, triple_cmp, block_count, edge_count, is_block, is_edge}

-- lines

-- a number in decimal without leading zeros; of a number of more than 64 digits `decimal` has the last ones alone
unfoldable pub number_text : ℕ → List ℕ
number_text n = digits_onto (suc n) 10 false n []

-- the first line
abbrev pub header : List ℕ
header = codes "profile 1\n"

-- every further line: how often a block or an edge was passed
pub record Row : Type 0 where
  pub visit : Visit
  pub count : ℕ

abbrev pub visit_text : Visit → List ℕ
visit_text (AtBlock f b) = codes "block " ++ number_text f ++ codes " " ++ number_text b ++ codes " "
visit_text (AlongEdge f b c) = codes "edge " ++ number_text f ++ codes " " ++ number_text b ++ codes " " ++ number_text c ++ codes " "

abbrev pub row_text : Row → List ℕ
row_text row = visit_text row.visit ++ number_text row.count ++ codes "\n"

abbrev pub IsNamed : Visit → Type 0
IsNamed (AtBlock f b) = (f < 2 ^ 32) × (b < 2 ^ 32)
IsNamed (AlongEdge f b c) = (f < 2 ^ 32) × (b < 2 ^ 32) × (c < 2 ^ 32)

-- a line of a profile
abbrev pub Fits : Row → Type 0
Fits row = IsNamed row.visit × (row.count < 2 ^ 64)

-- a line of which the count alone is too large
abbrev pub TooLarge : Row → Type 0
TooLarge row = IsNamed row.visit × (2 ^ 64 ≤ row.count)

-- reading

-- the count of the last line that passes a test, and without one what it was before
abbrev pub last_count : (Visit → Bool) → (before : ℕ) → List Row → ℕ
last_count test n [] = n
last_count test n (row ∷ rows) = last_count test (if test row.visit then row.count else n) rows

-- a later line replaces the count of an earlier one
pub record GivenBy (counts : Counts) (rows : List Row) : Type 0 where
  pub blocks : (f b : ℕ) → block_count counts f b ≡ last_count (is_block f b) 0 rows
  pub edges : (f b c : ℕ) → edge_count counts f b c ≡ last_count (is_edge f b c) 0 rows

-- the bytes are a profile, and these are its counts
pub record Spells (bytes : List ℕ) (counts : Counts) : Type 0 where
  pub rows : List Row
  pub fit : AllByRecursion Fits rows
  pub text : bytes ≡ header ++ flat_map row_text rows
  pub given : GivenBy counts rows

abbrev pub Begins : (front text : List ℕ) → Type 0
Begins front text = (more : List ℕ) × (text ≡ front ++ more)

-- this line, not the first, stands behind lines that fit, and the text from it on is rest
pub record Reaches (bytes : List ℕ) (line : ℕ) (rest : List ℕ) : Type 0 where
  pub before : List Row
  pub fit : AllByRecursion Fits before
  pub text : bytes ≡ header ++ flat_map row_text before ++ rest
  pub some : rest ≢ []
  pub number : line ≡ length before + 2

-- the first bad line, counted from 1, and what is wrong with it
abbrev pub FaultAt : List ℕ → ProfileFault → Type 0
FaultAt bytes (BadLine line) =
    ((line ≡ 1) × (Begins header bytes → ⊥))
    ⊎ ((rest : List ℕ) × Reaches bytes line rest × ((row : Row) → Fits row ⊎ TooLarge row → Begins (row_text row) rest → ⊥))
FaultAt bytes (CountTooLarge line) = (rest : List ℕ) × Reaches bytes line rest × (row : Row) × TooLarge row × Begins (row_text row) rest
FaultAt bytes NoMemory = ⊥

-- writing

abbrev pub block_row : Pair × ℕ → Row
block_row e = record { visit = AtBlock e.0.0 e.0.1; count = e.1 }

abbrev pub edge_row : Triple × ℕ → Row
edge_row e = record { visit = AlongEdge e.0.0 e.0.1 e.0.2; count = e.1 }

abbrev pub is_passed : Row → Bool
is_passed row = nat_lt 0 row.count

-- the counts over 0, blocks before edges, each ascending by its numbers, as the maps hold them
abbrev pub rows_of : Counts → List Row
rows_of c = filter is_passed (map block_row c.blocks.entries) ++ filter is_passed (map edge_row c.edges.entries)

abbrev pub counts_text : Counts → List ℕ
counts_text c = header ++ flat_map row_text (rows_of c)

-- the maps hold each block and each edge once, ascending
pub record AreAscending (c : Counts) : Type 0 where
  pub blocks : IsOrdered pair_cmp c.blocks
  pub edges : IsOrdered triple_cmp c.edges

-- laws, each the clause of a public function

-- the same count for every block and edge
pub record SameCounts (a b : Counts) : Type 0 where
  pub blocks : (f c : ℕ) → block_count a f c ≡ block_count b f c
  pub edges : (f c d : ℕ) → edge_count a f c d ≡ edge_count b f c d

abbrev pub SpelledInOneWay : Type 0
SpelledInOneWay = (bytes : List ℕ) (a b : Counts) → Spells bytes a → Spells bytes b → SameCounts a b

abbrev pub SpelledIsFaultless : Type 0
SpelledIsFaultless = (bytes : List ℕ) (counts : Counts) (fault : ProfileFault) → Spells bytes counts → FaultAt bytes fault → ⊥

abbrev pub OneFault : Type 0
OneFault = (bytes : List ℕ) (a b : ProfileFault) → FaultAt bytes a → FaultAt bytes b → a ≡ b
