-- A graph with a diamond converted, by the corners of the diamond and the values that were found for it.
use Rattle.std.specs.Prelude.{◌==◌, if◌then◌else◌, nat_lt, ◌+◌, ℕ, suc, Option, Some, None, List, [], ◌∷◌, ◌++◌, length, map, drop}
use Rattle.vx_flow.specs.declared.graph.Op.{Op}
use Rattle.vx_flow.specs.declared.graph.Exit.TheVariants.{Goto}
use Rattle.vx_flow.specs.declared.graph.Block.{Block}
use Rattle.vx_flow.specs.declared.graph.Graph.{Graph}
use Rattle.vx_select.specs.declared.corners.Corners.{Corners}
use Rattle.vx_select.specs.declared.values.Values.{Values}
use Rattle.vx_select.specs.Selected.{takes, moved, as_is, choice, led, numbered}
use Rattle.vx_select.specs.Values.{are_writing}
use Rattle.vx_select.specs.Known.{ops_at, whole, is_no_side}

-- the value that stands for one behind some operations
abbrev pub now_behind : (to : ℕ → ℕ) → List Op → ℕ → ℕ
now_behind to before v = if are_writing before v then to v else v

abbrev pub left_to : Values → ℕ → ℕ
left_to values = takes values.left.items values.free.items

abbrev pub right_to : Values → ℕ → ℕ
right_to values = takes values.right.items (drop (length values.left.items) values.free.items)

abbrev pub sides_by : Graph → Corners → Values → List Op
sides_by g c values = moved (left_to values) as_is (ops_at g c.yes) ++ (moved (right_to values) as_is (ops_at g c.no) ++ map (choice (left_to values) (right_to values) c.test) values.chosen.items)

abbrev pub joined_by : Graph → Corners → Values → List Op
joined_by g c values = ops_at g c.block ++ sides_by g c values

-- how many sides stand before block b
abbrev pub before_one : (side b : ℕ) → ℕ
before_one side b = if nat_lt side b then 1 else 0

abbrev pub gone : Corners → ℕ → ℕ
gone c b = before_one c.yes b + (if c.no == c.yes then 0 else before_one c.no b)

abbrev pub changed_by : Graph → Corners → Values → ℕ → Block → Block
changed_by g c values b block =
    if b == c.block then record { ops = joined_by g c values; exit = Goto (numbered (whole g c) c.join) } else record { ops = block.ops; exit = led (numbered (whole g c)) block.exit }

-- what becomes of block b
abbrev pub one_by : Graph → Corners → Values → ℕ → Option Block → List Block
one_by g c values b None = []
one_by g c values b (Some block) = if is_no_side c b then changed_by g c values b block ∷ [] else []

-- the blocks from number b on
abbrev pub blocks_by : Graph → Corners → Values → ℕ → List Block → List Block
blocks_by g c values b [] = []
blocks_by g c values b (block ∷ blocks) = one_by g c values b (Some block) ++ blocks_by g c values (suc b) blocks

abbrev pub converted_by : Graph → Corners → Values → Graph
converted_by g c values = record g { blocks = blocks_by g c values 0 g.blocks }
