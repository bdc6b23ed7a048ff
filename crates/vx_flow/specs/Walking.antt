-- How the depth-first walk is done without recursion: the path is a list of places, each a block of the path and how many
-- of its successors were taken.
use Rattle.std.specs.Prelude.{◌≡◌, ◌↔◌, ◌==◌, ◌<◌, ◌+◌, ◌-◌, ℕ, Bool, true, false, if◌then◌else◌, List, [], ◌∷◌, ◌++◌, length, drop, Option, Some, None, slice_set}
use Rattle.std.specs.List.{list_any}
use Rattle.vx_flow.specs.declared.graph.Graph.{Graph}
use Rattle.vx_flow.specs.declared.graph.Edge.{Edge}
use Rattle.vx_flow.specs.declared.walk.Place.{Place}
use Rattle.vx_flow.specs.Effects.{IsIn}
use Rattle.vx_flow.specs.Rows.{is_marked}
use Rattle.vx_flow.specs.Walk.{Walks, edge, numbers, successors}

-- every successor is a block
abbrev pub LeadWithin : Graph → Type 0
LeadWithin g = (b c : ℕ) → IsIn c (successors g b) → c < length g.blocks

abbrev pub place : ℕ → ℕ → Place
place b taken = record { block = b; taken = taken }

-- the walk comes to a block: it begins there where the block was not reached before

abbrev pub seen_begun : List Bool → ℕ → List Bool
seen_begun seen c = if is_marked seen c then seen else slice_set seen c true

abbrev pub path_begun : (seen on_path : List Bool) → ℕ → List Bool
path_begun seen on_path c = if is_marked seen c then on_path else slice_set on_path c true

abbrev pub places_begun : (seen : List Bool) → List Place → ℕ → List Place
places_begun seen places c = if is_marked seen c then places else places ++ place c 0 ∷ []

-- one more step from the last place of the path, which was taken off, to this successor

abbrev pub seen_after : Option ℕ → (seen on_path : List Bool) → List Bool
seen_after None seen on_path = seen
seen_after (Some c) seen on_path = if is_marked on_path c then seen else seen_begun seen c

abbrev pub path_after : Option ℕ → Place → (seen on_path : List Bool) → List Bool
path_after None p seen on_path = slice_set on_path p.block false
path_after (Some c) p seen on_path = if is_marked on_path c then on_path else path_begun seen on_path c

abbrev pub places_after : Option ℕ → Place → (seen on_path : List Bool) → List Place → List Place
places_after None p seen on_path places = places
places_after (Some c) p seen on_path places =
    if is_marked on_path c then places ++ place p.block (p.taken + 1) ∷ [] else places_begun seen (places ++ place p.block (p.taken + 1) ∷ []) c

abbrev pub back_after : Option ℕ → Place → (on_path : List Bool) → List Edge → List Edge
back_after None p on_path back = back
back_after (Some c) p on_path back = if is_marked on_path c then back ++ edge p.block c ∷ [] else back

-- the blocks of the path over another one, the latest first
abbrev pub path_of : (below : List ℕ) → List Place → List ℕ
path_of below [] = below
path_of below (p ∷ ps) = path_of (p.block ∷ below) ps

-- what is left of the walk from a path: first from its last place, and then from those below it
abbrev pub Rest : Graph → (path todo : List ℕ) → List Place → (seen after : List ℕ) → List Edge → Type 0
Rest g path todo [] seen after back = Walks g path todo seen after back
Rest g path todo (p ∷ ps) seen after back =
    (between : List ℕ) × (first : List Edge) × (later : List Edge) × Rest g (p.block ∷ path) (drop p.taken (successors g p.block)) ps seen between first × Walks g path todo between after later × (back ≡ first ++ later)

abbrev pub Distinct : List ℕ → Type 0
Distinct [] = Unit {0}
Distinct (b ∷ bs) = (IsIn b bs → ⊥) × Distinct bs

-- The marks are of the blocks that were reached and of those on the path, and what is left of the walk completes it; the
-- blocks from `root` on are still to be begun at.
pub record Walking (g : Graph) (root : ℕ) (seen on_path : List Bool) (places : List Place) (back : List Edge) : Type 0 where
  pub visited : List ℕ
  pub seen_is : (b : ℕ) → (is_marked seen b ≡ true) ↔ IsIn b visited
  pub path_is : (b : ℕ) → (is_marked on_path b ≡ true) ↔ IsIn b (path_of [] places)
  pub path_seen : (b : ℕ) → IsIn b (path_of [] places) → IsIn b visited
  pub distinct : Distinct (path_of [] places)
  pub completes : (after : List ℕ) (later : List Edge) → Rest g [] (numbers root (length g.blocks - root)) places visited after later → Walks g [] (numbers 0 (length g.blocks)) [] after (back ++ later)

-- the marks are of the blocks, so many, to which edges lead
abbrev pub MarksTargets : List Bool → List Edge → (blocks : ℕ) → Type 0
MarksTargets marks edges blocks = (b : ℕ) → b < blocks → is_marked marks b ≡ list_any (λ e. e.to == b) edges
