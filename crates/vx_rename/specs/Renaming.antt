-- A graph whose values have other names: how it is made of the old one and of the names, the test that each value is read where it
-- stands, and the laws that the flow does what it did, stays a flow of its program and keeps its blocks. An operation that writes
-- what nothing reads may be left out, and a move is where its source and its target share a name.
use Rattle.std.specs.Prelude.{◌≡◌, ◌==◌, ◌+◌, ℕ, ℤ, Bool, true, false, ◌&&◌, not, nat_le, if◌then◌else◌, Option, Some, None, List, [], ◌∷◌, ◌++◌, length, map, drop, count_by, slice_index_or}
use Rattle.std.specs.List.{list_all}
use Rattle.vx_base.specs.Outcome.{NeverFails}
use Rattle.vx_flow.specs.declared.graph.Operand.TheVariants.{Stack}
use Rattle.vx_flow.specs.declared.graph.Op.{Op}
use Rattle.vx_flow.specs.declared.graph.Op.TheVariants.{Compute, Select, Place, Load, Store, More, Input, Text, Decimal, Across, Base, PlaceIn}
use Rattle.vx_flow.specs.declared.graph.Exit.{Exit}
use Rattle.vx_flow.specs.declared.graph.Exit.TheVariants.{Goto, Split, Call, Return, Ends}
use Rattle.vx_flow.specs.declared.graph.Block.{Block}
use Rattle.vx_flow.specs.declared.graph.Array.{Array}
use Rattle.vx_flow.specs.declared.graph.Graph.{Graph}
use Rattle.vx_flow.specs.declared.graph.Flow.{Flow}
use Rattle.vx_flow.specs.Effects.{is_unary, reads}
use Rattle.vx_flow.specs.Live.{reads_of_exit}
use Rattle.vx_flow.specs.Operands.{held_by, written_by, with_value_in}
use Rattle.vx_flow.specs.Meaning.{graph_run}
use Rattle.vx_flow.specs.Sound.{targets_of, is_sound_flow}
use Rattle.vx_lower.specs.FlowOf.{is_general, is_branch}
use Rattle.vx_shape.specs.Flows.{with_graphs, Each, OrSame, FlowStays}
use Rattle.vx_rename.specs.declared.names.Name.{Name}
use Rattle.vx_rename.specs.declared.names.BlockNames.{BlockNames}
use Rattle.vx_rename.specs.declared.names.GraphNames.{GraphNames}

-- ---- where old values stand

-- The name of each old value, and whether it stands there. Several may stand at one name, and then have one content.
pub record Standing : Type 0 where
  pub name : ℕ → ℕ
  pub stands : ℕ → Bool

-- nothing stands, whatever the names are
abbrev pub nowhere : (ℕ → ℕ) → Standing
nowhere name = record { name = name; stands = λ v. false }

abbrev pub no_name : ℕ → ℕ
no_name v = 0

-- value v now stands at w, beside what does, and no longer where it stood
abbrev pub place : Standing → ℕ → ℕ → Standing
place n v w = record { name = λ u. if u == v then w else n.name u; stands = λ u. if u == v then true else n.stands u }

-- nothing stands at w
abbrev pub clear : Standing → ℕ → Standing
clear n w = record { name = n.name; stands = λ u. if n.name u == w then false else n.stands u }

-- v now stands at w, and no other does
abbrev pub put : Standing → ℕ → ℕ → Standing
put n v w = place (clear n w) v w

abbrev pub put_if : Standing → Option ℕ → ℕ → Standing
put_if n None w = n
put_if n (Some v) w = put n v w

-- value v stands nowhere
abbrev pub forget : Standing → ℕ → Standing
forget n v = record { name = n.name; stands = λ u. if u == v then false else n.stands u }

abbrev pub forget_if : Standing → Option ℕ → Standing
forget_if n None = n
forget_if n (Some v) = forget n v

abbrev pub place_all : Standing → List Name → Standing
place_all n [] = n
place_all n (x ∷ xs) = place_all (place n x.old x.new) xs

-- at the start of a block nothing stands but what is listed there; names that were given before it are left, and mean nothing
abbrev pub starting : (ℕ → ℕ) → BlockNames → Standing
starting name names = place_all (nowhere name) names.start

-- ---- the new graph

-- the operation with what it reads under its names, writing w
abbrev pub renamed_op : (ℕ → ℕ) → ℕ → Op → Op
renamed_op name w (Compute code v a b) = Compute code w (with_value_in name a) (with_value_in name b)
renamed_op name w (Select v p a b) = Select w (name p) (with_value_in name a) (with_value_in name b)
renamed_op name w (Place v a i) = Place w a (with_value_in name i)
renamed_op name w (Load v a p dismissible) = Load w a (with_value_in name p) dismissible
renamed_op name w (Store a p x) = Store a (with_value_in name p) (with_value_in name x)
renamed_op name w (More v) = More w
renamed_op name w (Input v) = Input w
renamed_op name w (Text n) = Text n
renamed_op name w (Decimal x) = Decimal (with_value_in name x)
renamed_op name w (Across v u) = Across w (name u)
renamed_op name w (Base v a x) = Base w a x
renamed_op name w (PlaceIn v a u i) = PlaceIn w a (name u) (with_value_in name i)

abbrev pub result_of : Exit → Option ℕ
result_of (Goto c) = None
result_of (Split p c d) = None
result_of (Call f arguments result c) = result
result_of (Return x) = None
result_of (Ends k) = None

abbrev pub renamed_result : ℕ → Option ℕ → Option ℕ
renamed_result w None = None
renamed_result w (Some v) = Some w

abbrev pub renamed_exit : (ℕ → ℕ) → ℕ → Exit → Exit
renamed_exit name w (Goto c) = Goto c
renamed_exit name w (Split p c d) = Split (name p) c d
renamed_exit name w (Call f arguments result c) = Call f (map (with_value_in name) arguments) (renamed_result w result) c
renamed_exit name w (Return x) = Return (with_value_in name x)
renamed_exit name w (Ends k) = Ends k

abbrev pub first_name : List (Option ℕ) → Option ℕ
first_name ws = slice_index_or ws 0 None

-- the value that a move reads
abbrev pub source_of : Op → Option ℕ
source_of (Compute code v a b) = if is_unary code then held_by a else None
source_of op = None

abbrev pub is_there : Standing → ℕ → Option ℕ → Bool
is_there n w None = false
is_there n w (Some u) = n.stands u && (n.name u == w)

-- An operation without a name is left out, and what it writes stands nowhere. So is a move of what stands at the name already, and its
-- target then stands there too.
abbrev pub renamed_one : Standing → Option ℕ → Op → Option Op
renamed_one n None op = None
renamed_one n (Some w) op = if is_there n w (source_of op) then None else Some (renamed_op n.name w op)

abbrev pub place_if : Standing → Option ℕ → ℕ → Standing
place_if n None w = n
place_if n (Some v) w = place n v w

abbrev pub behind_op : Standing → Option ℕ → Op → Standing
behind_op n None op = forget_if n (written_by op)
behind_op n (Some w) op = if is_there n w (source_of op) then place_if n (written_by op) w else put_if n (written_by op) w

-- behind several operations, with the names of what they write
abbrev pub behind : Standing → List (Option ℕ) → List Op → Standing
behind n ws [] = n
behind n ws (op ∷ ops) = behind (behind_op n (first_name ws) op) (drop 1 ws) ops

abbrev pub op_if : Option Op → List Op
op_if None = []
op_if (Some op) = op ∷ []

abbrev pub renamed_ops : Standing → List (Option ℕ) → List Op → List Op
renamed_ops n ws [] = []
renamed_ops n ws (op ∷ ops) = op_if (renamed_one n (first_name ws) op) ++ renamed_ops (behind_op n (first_name ws) op) (drop 1 ws) ops

-- before the exit of a block
abbrev pub ending : (ℕ → ℕ) → BlockNames → Block → Standing
ending name names block = behind (starting name names) names.written block.ops

-- the names behind it
abbrev pub leaving : (ℕ → ℕ) → BlockNames → Block → ℕ → ℕ
leaving name names block = (put_if (ending name names block) (result_of block.exit) names.result).name

abbrev pub renamed_block : (ℕ → ℕ) → BlockNames → Block → Block
renamed_block name names block = record {
  ops = renamed_ops (starting name names) names.written block.ops;
  exit = renamed_exit (ending name names block).name names.result block.exit;
}

-- from block b on
abbrev pub renamed_blocks : (at : ℕ → BlockNames) → (ℕ → ℕ) → (b : ℕ) → List Block → List Block
renamed_blocks at name b [] = []
renamed_blocks at name b (block ∷ blocks) = renamed_block name (at b) block ∷ renamed_blocks at (leaving name (at b) block) (b + 1) blocks

abbrev pub no_names : BlockNames
no_names = record { start = []; written = []; result = 0 }

abbrev pub names_at : List BlockNames → ℕ → BlockNames
names_at names b = slice_index_or names b no_names

-- the parameter of the new graph in the place of value v, where v is a parameter of the old one
abbrev pub parameter_name : (old new : List ℕ) → ℕ → ℕ
parameter_name [] new v = v
parameter_name (q ∷ qs) [] v = v
parameter_name (q ∷ qs) (r ∷ rs) v = if v == q then r else parameter_name qs rs v

abbrev pub renamed_base : (ℕ → ℕ) → Option ℕ → Option ℕ
renamed_base name None = None
renamed_base name (Some v) = Some (name v)

-- the base of an array that was handed over is a parameter, and has its name
abbrev pub renamed_array : (ℕ → ℕ) → Array → Array
renamed_array name array = record { words = array.words; global = array.global; named = array.named; base = renamed_base name array.base }

abbrev pub renamed : GraphNames → Graph → Graph
renamed names g = record {
  blocks = renamed_blocks (names_at names.blocks) no_name 0 g.blocks;
  banks = names.banks;
  parameters = names.parameters;
  arrays = map (renamed_array (parameter_name g.parameters names.parameters)) g.arrays;
}

-- ---- the test

abbrev pub all_stand : Standing → List ℕ → Bool
all_stand n vs = list_all n.stands vs

-- the operation does nothing but write a value
abbrev pub writes_alone : Op → Bool
writes_alone (Store a p x) = false
writes_alone (Input v) = false
writes_alone (Text n) = false
writes_alone (Decimal x) = false
writes_alone op = true

-- what is left out writes alone, and each other operation reads values that stand at their names
abbrev pub op_stands : Standing → Option ℕ → Op → Bool
op_stands n None op = writes_alone op
op_stands n (Some w) op = all_stand n (reads op)

abbrev pub ops_stand : Standing → List (Option ℕ) → List Op → Bool
ops_stand n ws [] = true
ops_stand n ws (op ∷ ops) = op_stands n (first_name ws) op && ops_stand (behind_op n (first_name ws) op) (drop 1 ws) ops

-- each of these values stands at this name

abbrev pub is_at : Standing → Name → Bool
is_at n x = n.stands x.old && (n.name x.old == x.new)

abbrev pub carries : Standing → List Name → Bool
carries n xs = list_all (is_at n) xs

-- the exit reads values that stand, and each block to which it leads finds what stands at its start
abbrev pub exit_stands : (at : ℕ → BlockNames) → Standing → ℕ → Exit → Bool
exit_stands at n w exit = all_stand n (reads_of_exit exit) && list_all (λ c. carries (put_if n (result_of exit) w) (at c).start) (targets_of exit)

abbrev pub block_stands : (at : ℕ → BlockNames) → (ℕ → ℕ) → BlockNames → Block → Bool
block_stands at name names block = ops_stand (starting name names) names.written block.ops && exit_stands at (ending name names block) names.result block.exit

abbrev pub blocks_stand : (at : ℕ → BlockNames) → (ℕ → ℕ) → (b : ℕ) → List Block → Bool
blocks_stand at name b [] = true
blocks_stand at name b (block ∷ blocks) = block_stands at name (at b) block && blocks_stand at (leaving name (at b) block) (b + 1) blocks

-- at the entry v stands at w: both hold one argument, or v holds none
abbrev pub enters_at : (old new : List ℕ) → (v w : ℕ) → Bool
enters_at [] new v w = true
enters_at (q ∷ qs) [] v w = false
enters_at (q ∷ qs) (r ∷ rs) v w = if v == q then w == r else (not (w == r) && enters_at qs rs v w)

-- as many parameters, and no more values of a bank
abbrev pub has_counts : GraphNames → Graph → Bool
has_counts names g =
    (length names.parameters == length g.parameters) && (nat_le (count_by is_general names.banks) (count_by is_general g.banks) && nat_le (count_by is_branch names.banks) (count_by is_branch g.banks))

-- the two hold one argument there
abbrev pub enters_as : (old new : List ℕ) → (v w : ℕ) → Bool
enters_as [] new v w = false
enters_as (q ∷ qs) [] v w = false
enters_as (q ∷ qs) (r ∷ rs) v w = if v == q then w == r else (not (w == r) && enters_as qs rs v w)

-- so do a base and its name
abbrev pub base_enters : (old new : List ℕ) → Option ℕ → Bool
base_enters old new None = true
base_enters old new (Some v) = enters_as old new v (parameter_name old new v)

abbrev pub array_enters : (old new : List ℕ) → Array → Bool
array_enters old new array = base_enters old new array.base

abbrev pub entry_stands : GraphNames → Graph → Bool
entry_stands names g = list_all (array_enters g.parameters names.parameters) g.arrays && list_all (λ x. enters_at g.parameters names.parameters x.old x.new) (names_at names.blocks 0).start

abbrev pub is_renaming : GraphNames → Graph → Bool
is_renaming names g = has_counts names g && (entry_stands names g && blocks_stand (names_at names.blocks) no_name 0 g.blocks)

-- ---- what stays

-- an exit without the values that it names: its kind, whom it calls and where it leads
abbrev pub way_of : Exit → Exit
way_of (Goto c) = Goto c
way_of (Split p c d) = Split 0 c d
way_of (Call f arguments result c) = Call f [] None c
way_of (Return x) = Return Stack
way_of (Ends k) = Ends k

-- the ways out of each block of each graph
abbrev pub graph_ways : Graph → List Exit
graph_ways g = map (λ (block : Block). way_of block.exit) g.blocks

abbrev pub ways : Flow → List (List Exit)
ways flow = map graph_ways flow.functions

-- ---- the laws

-- the new graph is the old one under names that pass the test
pub record GraphRenames (old new : Graph) : Type 0 where
  pub names : GraphNames
  pub tested : is_renaming names old ≡ true
  pub is : new ≡ renamed names old

-- on every input where the old flow never fails, the new one comes to the same at every bound
abbrev pub RenamedRuns : Type 0
RenamedRuns = (flow : Flow) (graphs : List Graph) → Each (OrSame GraphRenames) flow.functions graphs → (input : List ℤ) → NeverFails (graph_run flow input) → (n : ℕ) → graph_run (with_graphs flow graphs) input n ≡ graph_run flow input n

abbrev pub RenamedStays : Type 0
RenamedStays = (flow : Flow) (graphs : List Graph) → Each (OrSame GraphRenames) flow.functions graphs → is_sound_flow (with_graphs flow graphs) ≡ true → FlowStays flow (with_graphs flow graphs)

-- no block goes and none comes, and each leads where it did
abbrev pub RenamedWays : Type 0
RenamedWays = (flow : Flow) (graphs : List Graph) → Each (OrSame GraphRenames) flow.functions graphs → ways (with_graphs flow graphs) ≡ ways flow
