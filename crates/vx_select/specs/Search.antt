-- A diamond looked for block by block, as a test that computes.
use Rattle.std.specs.Prelude.{◌≤◌, ◌+◌, ◌==◌, ◌&&◌, ◌||◌, not, nat_le, ℕ, suc, Bool, true, if◌then◌else◌, Option, Some, None, List, [], ◌∷◌, ◌++◌, length, slice_get}
use Rattle.std.specs.List.{list_all}
use Rattle.vx_flow.specs.declared.graph.Op.{Op}
use Rattle.vx_flow.specs.declared.graph.Exit.{Exit}
use Rattle.vx_flow.specs.declared.graph.Exit.TheVariants.{Goto, Split}
use Rattle.vx_flow.specs.declared.graph.Block.{Block}
use Rattle.vx_flow.specs.declared.graph.Graph.{Graph}
use Rattle.vx_flow.specs.Sound.{targets_of}
use Rattle.vx_select.specs.Selected.{Diamond, is_simple, free_values, left_values, right_values, both_sides, stays, IsDiamond}

-- of the blocks from number b on, only the one that splits leads to a side
abbrev pub are_alone : Diamond → ℕ → List Block → Bool
are_alone d b [] = true
are_alone d b (block ∷ blocks) = ((b == d.block) || list_all (stays d) (targets_of block.exit)) && are_alone d (suc b) blocks

-- what is asked besides the form
abbrev pub is_good : (ℕ → ℕ → Bool) → ℕ → Graph → Diamond → Bool
is_good live most g d =
    are_alone d 0 g.blocks && stays d d.join && not (d.join == d.block) && stays d 0 && list_all (is_simple g.banks) d.left && list_all (is_simple g.banks) d.right
    && nat_le 1 (length d.left + length d.right) && nat_le (length d.left + length d.right) most
    && nat_le (length (left_values g d) + length (right_values g d)) (length (free_values live g d)) && nat_le (length (d.before ++ both_sides live g d)) 512

abbrev pub if_good : (ℕ → ℕ → Bool) → ℕ → Graph → Diamond → Option Diamond
if_good live most g d = if is_good live most g d then Some d else None

-- where both sides go on to one block
abbrev pub by_goals : (live : ℕ → ℕ → Bool) (most : ℕ) (g : Graph) (b test y n : ℕ) (before left right : List Op) → Exit → Exit → Option Diamond
by_goals live most g b test y n before left right (Goto c) (Goto e) =
    if c == e then if_good live most g (record { block = b; test = test; yes = y; no = n; join = c; before = before; left = left; right = right }) else None
by_goals live most g b test y n before left right x z = None

abbrev pub by_sides : (live : ℕ → ℕ → Bool) (most : ℕ) (g : Graph) (b test y n : ℕ) (before : List Op) → Option Block → Option Block → Option Diamond
by_sides live most g b test y n before (Some left) (Some right) = by_goals live most g b test y n before left.ops right.ops left.exit right.exit
by_sides live most g b test y n before o q = None

abbrev pub by_exit : (live : ℕ → ℕ → Bool) (most : ℕ) (g : Graph) (b : ℕ) (before : List Op) → Exit → Option Diamond
by_exit live most g b before (Split test y n) = by_sides live most g b test y n before (slice_get g.blocks y) (slice_get g.blocks n)
by_exit live most g b before x = None

-- the diamond that block b, with these operations and this exit, begins
abbrev pub diamond_at : (live : ℕ → ℕ → Bool) (most : ℕ) (g : Graph) (b : ℕ) → Block → Option Diamond
diamond_at live most g b block = by_exit live most g b block.ops block.exit

abbrev pub or_else : Option Diamond → Option Diamond → Option Diamond
or_else None q = q
or_else (Some d) q = Some d

-- of the blocks from number b on
abbrev pub first_from : (live : ℕ → ℕ → Bool) (most : ℕ) (g : Graph) (b : ℕ) → List Block → Option Diamond
first_from live most g b [] = None
first_from live most g b (block ∷ blocks) = or_else (diamond_at live most g b block) (first_from live most g (suc b) blocks)

abbrev pub first_diamond : (ℕ → ℕ → Bool) → ℕ → Graph → Option Diamond
first_diamond live most g = first_from live most g 0 g.blocks

-- it is the one with the lowest block, or there is none
abbrev pub IsFirst : (ℕ → ℕ → Bool) → ℕ → Graph → Option Diamond → Type 0
IsFirst live most g None = (d : Diamond) → IsDiamond live most g d → ⊥
IsFirst live most g (Some d) = IsDiamond live most g d × ((e : Diamond) → IsDiamond live most g e → d.block ≤ e.block)
