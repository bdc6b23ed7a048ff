-- Traces that become regions one after the other, picked by counts, on the clusters of the machine, until no block is left.
use Rattle.std.specs.Prelude.{◌≡◌, ◌≢◌, ◌<◌, ◌≤◌, ◌+◌, ◌*◌, true, ℕ, Bool, Option, Some, List, [], ◌∷◌, length, map, slice_get}
use Rattle.vx_flow.specs.declared.graph.Bank.{Bank}
use Rattle.vx_flow.specs.declared.graph.Bank.TheVariants.{General}
use Rattle.vx_flow.specs.declared.graph.Block.{Block}
use Rattle.vx_flow.specs.declared.graph.Graph.{Graph}
use Rattle.vx_flow.specs.declared.graph.Op.{Op}
use Rattle.vx_flow.specs.declared.trace.Homes.{Homes}
use Rattle.vx_flow.specs.declared.trace.Placed.{Placed}
use Rattle.vx_flow.specs.declared.trace.Trace.{Trace}
use Rattle.vx_flow.specs.declared.trace.TraceOp.TheVariants.{Plain as TracePlain}
use Rattle.vx_flow.specs.Effects.{IsIn}
use Rattle.vx_flow.specs.Sound.{is_sound}
use Rattle.vx_flow.specs.Operands.{binds}
use Rattle.vx_isa.specs.Numbers.{Numbers, is_machine}
use Rattle.vx_room.specs.declared.items.Item.TheVariants.{Plain as PlainItem, Split as SplitItem}
use Rattle.vx_room.specs.declared.items.ClusteredItem.{ClusteredItem}
use Rattle.vx_room.specs.Items.{latency_of_op}
use Rattle.vx_room.specs.Room.{has_room}
use Rattle.vx_mixed.specs.declared.mixed.MixedGraph.{MixedGraph}
use Rattle.vx_mixed.specs.declared.region.Item.{Item}
use Rattle.vx_mixed.specs.declared.region.Item.TheVariants.{Plain, Split}
use Rattle.vx_mixed.specs.declared.region.Node.TheVariants.{Unused}
use Rattle.vx_mixed.specs.declared.region.Origin.{Origin}
use Rattle.vx_mixed.specs.declared.replacement.Replacement.{Replacement}
use Rattle.vx_layout.specs.Brief.{IsBrief}
use Rattle.vx_mixed.specs.CanReplace.{CanReplace}
use Rattle.vx_motion.specs.Context.{Becomes, Steps}
use Rattle.vx_mixed.specs.FromGraph.{FromGraph}
use Rattle.vx_mixed.specs.Layout.{IsDone}
use Rattle.vx_mixed.specs.Next.{next_mixed}
use Rattle.vx_layout.specs.Origins.{ComesFromGraph}
use Rattle.vx_motion.specs.Scheduled.{Keeps, WordsStand}
use Rattle.vx_mixed.specs.Settled.{Settled, Tidy, has_home}
use Rattle.vx_mixed.specs.TraceOf.{CanTrace, IsTraceOf}
use Rattle.vx_mixed.specs.Valid.{Valid, IsOp, names_of}
use Rattle.vx_dep.specs.declared.mode.Mode.{Mode}
use Rattle.vx_dep.specs.Compensation.{at_splits_of, at_joins_of}
use Rattle.vx_bug.specs.declared.clusters.Clusters.{Clusters}
use Rattle.vx_bug.specs.Assigned.{Assigned}
use Rattle.vx_bug.specs.Copies.{copy_of}
use Rattle.vx_region.specs.AtHome.{IsAtHome, CopiesAtHome}
use Rattle.vx_region.specs.Ways.{CopiesAreCopies}
use Rattle.vx_profile.specs.declared.counts.Counts.{Counts}
use Rattle.vx_trace.specs.Picked.{Picked, count_of_block}
use Rattle.vx_motion.specs.MadeBlocks.{MadeFacts}
use Rattle.vx_motion.specs.Paths.{IsHeaded}
use Rattle.vx_region.specs.declared.trace_plan.TracePlan.{TracePlan}
use Rattle.vx_region.specs.Growth.{HasMode, copies_of}
use Rattle.vx_region.specs.Owed.{with_drains}
use Rattle.vx_region.specs.Planned.{Planned, replacement_of}
use Rattle.vx_region.specs.RegionPlans.{IsPlaced}

-- the room that a machine has for a word of a region

abbrev pub item_in : Item → ClusteredItem
item_in (Plain op cluster) = record { item = PlainItem op; cluster = cluster }
item_in (Split test y e d) = record { item = SplitItem test; cluster = 0 }

abbrev pub room_in : Numbers → List (Option ℕ) → List Item → Bool
room_in m clusters word = has_room m (record { clusters = clusters }) (map item_in word)

-- clusters

-- the number of the copy of a general value to another cluster than its home
pub record IsCopyAway (banks : List Bank) (homes : List (Option ℕ)) (v : ℕ) : Type 0 where
  pub value : ℕ
  pub cluster : ℕ
  pub home : ℕ
  pub number : v ≡ copy_of (length banks) value cluster
  pub bank : slice_get banks value ≡ Some General
  pub has : has_home homes value ≡ Some home
  pub other : home ≢ cluster

pub record OnMachine (machine : Numbers) (m : MixedGraph) : Type 0 where
  -- homes are clusters of the machine, that of a copy the one to which it is copied; what is bound to cluster 0 has its home there
  pub homes : (v k : ℕ) → has_home m.homes.clusters v ≡ Some k → k < machine.clusters
  pub copies_at_home : CopiesAtHome (length m.banks) (has_home m.homes.clusters)
  pub bound : (op : Op) (v : ℕ) → IsOp m op → binds op ≡ Some v → has_home m.homes.clusters v ≡ Some 0
  -- values are named, and copies of them to clusters of the machine; what writes the number of a copy copies its value
  pub values : (op : Op) (v : ℕ) → IsOp m op → IsIn v (names_of op) → v < (machine.clusters + 1) * length m.banks
  pub copies : CopiesAreCopies m
  -- no other copies are named than those of general values to other clusters than their homes
  pub copied_away : (op : Op) (v : ℕ) → IsOp m op → IsIn v (names_of op) → length m.banks ≤ v → IsCopyAway m.banks m.homes.clusters v
  pub tidy : Tidy m
  -- what was copied onto an edge keeps its cluster, where its values are; the block there goes on to another
  pub made : (b i cluster : ℕ) (block : Block) (origin : Origin) (op : Op) → slice_get m.nodes b ≡ Some (Unused block) → slice_get m.origins b ≡ Some (Some origin) → slice_get block.ops i ≡ Some op → slice_get origin.clusters i ≡ Some cluster →
      IsAtHome (has_home m.homes.clusters) (TracePlain op) cluster × (cluster < machine.clusters)
  pub facts : MadeFacts m

-- a graph of blocks and regions of a function's graph, settled for the machine, with few empty cycles, and a header on each
-- cycle of blocks that are left
pub record IsGraphOf (machine : Numbers) (graph : Graph) (m : MixedGraph) : Type 0 where
  pub sound : is_sound graph ≡ true
  pub code : ComesFromGraph graph m
  pub on : OnMachine machine m
  pub settled : Settled (room_in machine) (latency_of_op machine) m
  pub brief : IsBrief m
  pub headed : IsHeaded m

-- it begins so for every machine, whatever the function's number is
abbrev pub BeginsAsGraph : Type 0
BeginsAsGraph = (machine : Numbers) (graph : Graph) (m : MixedGraph) (f : ℕ) → is_machine machine ≡ true → is_sound graph ≡ true → FromGraph graph m → IsGraphOf machine graph (record m { function = f })

-- What planning gives for blocks of such a graph is what a replacement asks of its arguments; and the words of its region have
-- room, and its operations stand where their values do.
pub record FitsIn (machine : Numbers) (m : MixedGraph) (r : Replacement) : Type 0 where
  pub can : CanReplace m r
  pub stand : WordsStand (room_in machine) m r

abbrev pub PlansFit : Type 0
PlansFit =
    (graph : Graph) (m : MixedGraph) (blocks : List ℕ) (machine : Numbers) (mode : Mode) (r : Replacement) → Valid m → CanTrace m blocks → IsGraphOf machine graph m →
    Planned m blocks machine mode r → FitsIn machine m r

-- one step

-- what takes the place of the blocks of a placed trace
abbrev pub replacement_by : Numbers → Homes → Placed → Replacement
replacement_by machine homes p = replacement_of machine homes p (at_splits_of p) (at_joins_of p)

-- A step by this plan: a trace is picked, placed in the mode that the cap gives, and becomes a region, with the blocks that are
-- made for its copies; the copies so far rise by its own.
pub record ReplacesOne (machine : Numbers) (counts : Counts) (cap : ℕ) (m : MixedGraph) (used : ℕ) (plan : TracePlan) (m' : MixedGraph) (used' : ℕ) : Type 0 where
  pub is_a_machine : is_machine machine ≡ true
  -- the trace is picked, and its count is that of its seed
  pub function : plan.function ≡ m.function
  pub picked : Picked m counts plan.blocks
  pub count : plan.count ≡ count_of_block m counts picked.seed
  pub trace : Trace
  pub is_trace : IsTraceOf m plan.blocks trace
  -- its operations have the clusters that are assigned with the homes so far
  pub clusters : Clusters
  pub assigned : Assigned machine trace m.homes clusters
  -- it is placed in the mode that the cap gives
  pub mode : HasMode clusters.clustered machine clusters.homes cap used plan.mode
  pub placed : IsPlaced clusters.clustered machine clusters.homes plan.mode plan.placed
  -- with what is owed at its splits and joins
  pub splits : plan.splits ≡ with_drains machine plan.placed (at_splits_of plan.placed)
  pub rejoins : plan.rejoins ≡ at_joins_of plan.placed
  -- the region stands in place of its blocks
  pub next : m' ≡ next_mixed m (replacement_by machine clusters.homes plan.placed)
  pub rises : used' ≡ used + copies_of plan.placed

-- a step keeps the meaning from every entrance that the two share, and that it is such a graph
abbrev pub StepKeeps : Type 0
StepKeeps =
    (machine : Numbers) (counts : Counts) (cap used used' : ℕ) (graph : Graph) (m m' : MixedGraph) (plan : TracePlan) → Valid m → IsGraphOf machine graph m → (one : ReplacesOne machine counts cap m used plan m' used') →
    Keeps (latency_of_op machine) m (replacement_by machine one.clusters.homes plan.placed) × Becomes (latency_of_op machine) m m' × IsGraphOf machine graph m'

-- all steps

-- one step after the other until no block is left, by these plans
pub data ReplacesAll (machine : Numbers) (counts : Counts) (cap : ℕ) : MixedGraph → ℕ → List TracePlan → MixedGraph → ℕ → Type 0 where
  Finished : {m : MixedGraph} {used : ℕ} → IsDone m → ReplacesAll machine counts cap m used [] m used
  Next : {m n o : MixedGraph} {used more all : ℕ} {plan : TracePlan} {plans : List TracePlan} → ReplacesOne machine counts cap m used plan n more → ReplacesAll machine counts cap n more plans o all → ReplacesAll machine counts cap m used (plan ∷ plans) o all

-- no block is left, all steps kept the meaning, and no block was lost
pub record AllReplaced (machine : Numbers) (graph : Graph) (m m' : MixedGraph) : Type 0 where
  pub done : IsDone m'
  pub steps : Steps (latency_of_op machine) m m'
  pub is : IsGraphOf machine graph m'
  pub many : length m.nodes ≤ length m'.nodes

abbrev pub AllKeep : Type 0
AllKeep =
    (machine : Numbers) (counts : Counts) (cap used used' : ℕ) (graph : Graph) (m m' : MixedGraph) (plans : List TracePlan) → Valid m → IsGraphOf machine graph m → ReplacesAll machine counts cap m used plans m' used' → AllReplaced machine graph m m'
