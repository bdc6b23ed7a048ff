-- What is known of a graph while its diamonds are looked for: the corners of one, and which values are live.
use Rattle.std.specs.Prelude.{◌≡◌, ◌<◌, ◌==◌, ◌&&◌, ◌||◌, not, nat_le, ◌+◌, if◌then◌else◌, ℕ, Bool, false, Option, Some, None, List, [], length, slice_get}
use Rattle.std.specs.List.{list_all}
use Rattle.vx_flow.specs.declared.graph.Op.{Op}
use Rattle.vx_flow.specs.declared.graph.Exit.{Exit}
use Rattle.vx_flow.specs.declared.graph.Exit.TheVariants.{Goto, Split}
use Rattle.vx_flow.specs.declared.graph.Block.{Block}
use Rattle.vx_flow.specs.declared.graph.Graph.{Graph}
use Rattle.vx_flow.specs.Rows.{is_marked, lives}
use Rattle.vx_select.specs.declared.corners.Corners.{Corners}
use Rattle.vx_select.specs.declared.known.Known.{Known}
use Rattle.vx_select.specs.Selected.{Diamond, is_simple, is_address, stays}
use Rattle.vx_select.specs.Search.{if_good}

-- ---- what is live

abbrev pub told_at : List (List ℕ) → ℕ → Option ℕ → Bool
told_at rows v None = false
told_at rows v (Some c) = lives rows c v

-- the rows are those of the blocks that stood at these numbers
abbrev pub told : Known → ℕ → ℕ → Bool
told known b v = told_at known.rows v (slice_get known.numbers b)

-- ---- places and bases

-- a value is marked where it was, or passes
pub record Marks (p : ℕ → Bool) (before after : List Bool) : Type 0 where
  pub count : length after ≡ length before
  pub marks : (v : ℕ) → v < length before → is_marked after v ≡ (is_marked before v || p v)

-- those of the values of a graph are marked that are bases, or places of arrays that are no globals
abbrev pub AreAddresses : Graph → List Bool → Type 0
AreAddresses g marks = (v : ℕ) → v < length g.banks → is_marked marks v ≡ is_address g v

-- ---- diamonds by their corners

abbrev pub ops_in : Option Block → List Op
ops_in None = []
ops_in (Some block) = block.ops

abbrev pub ops_at : Graph → ℕ → List Op
ops_at g b = ops_in (slice_get g.blocks b)

-- a diamond with these corners
abbrev pub whole : Graph → Corners → Diamond
whole g c = record {
  block = c.block;
  test = c.test;
  yes = c.yes;
  no = c.no;
  join = c.join;
  before = ops_at g c.block;
  left = ops_at g c.yes;
  right = ops_at g c.no;
}

abbrev pub goal_of : Exit → Option ℕ
goal_of (Goto c) = Some c
goal_of x = None

abbrev pub goal_in : Option Block → Option ℕ
goal_in None = None
goal_in (Some block) = goal_of block.exit

abbrev pub same_goal : Option ℕ → Option ℕ → Option ℕ
same_goal (Some c) (Some e) = if c == e then Some c else None
same_goal o q = None

abbrev pub with_join : (b test y n : ℕ) → Option ℕ → Option Corners
with_join b test y n None = None
with_join b test y n (Some c) = Some (record { block = b; test = test; yes = y; no = n; join = c })

-- the corners of the diamond that block b, with this exit, may begin
abbrev pub corners_by : Graph → ℕ → Exit → Option Corners
corners_by g b (Split test y n) = with_join b test y n (same_goal (goal_in (slice_get g.blocks y)) (goal_in (slice_get g.blocks n)))
corners_by g b x = None

abbrev pub diamond_of : (ℕ → ℕ → Bool) → ℕ → Graph → Option Corners → Option Diamond
diamond_of live most g None = None
diamond_of live most g (Some c) = if_good live most g (whole g c)

-- what is asked of a diamond besides that no other block leads to a side, and besides room
abbrev pub is_formed : ℕ → Graph → Diamond → Bool
is_formed most g d =
    stays d d.join && not (d.join == d.block) && stays d 0 && list_all (is_simple g.banks) d.left && list_all (is_simple g.banks) d.right && nat_le 1 (length d.left + length d.right)
    && nat_le (length d.left + length d.right) most

-- a block that is no side
abbrev pub is_no_side : Corners → ℕ → Bool
is_no_side c b = not (b == c.yes) && not (b == c.no)

-- the diamond that block b begins, where it is this one
abbrev pub diamond_in : (ℕ → ℕ → Bool) → ℕ → Graph → ℕ → Option Block → Option Diamond
diamond_in live most g b None = None
diamond_in live most g b (Some block) = diamond_of live most g (corners_by g b block.exit)
