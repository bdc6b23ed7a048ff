-- What the words that the compiler writes, and the plan that it reports, owe to the program that was read.
use Rattle.std.specs.Prelude.{◌≡◌, refl, ◌+◌, ℕ, true, List, [], ◌∷◌, map}
use Rattle.std.specs.List.{flat_map, sum_by}
use Rattle.vx_isa.specs.declared.program.WordProgram.{WordProgram}
use Rattle.vx_isa.specs.Numbers.{Numbers}
use Rattle.vx_isa.specs.Sound.{is_sound}
use Rattle.vx_isa.specs.Strict.{Strict}
use Rattle.vx_isa.specs.Paths.{PathStrict}
use Rattle.vx_isa.specs.Range.{is_in_range}
use Rattle.vx_ast.specs.Tree.{Program}
use Rattle.vx_flow.specs.declared.graph.Flow.{Flow}
use Rattle.vx_flow.specs.declared.graph.Graph.{Graph}
use Rattle.vx_lower.specs.FlowOf.{FlowOf}
use Rattle.vx_room.specs.Items.{latency_of_op}
use Rattle.vx_mixed.specs.declared.layout.VWords.{VWords}
use Rattle.vx_mixed.specs.declared.mixed.MixedGraph.{MixedGraph}
use Rattle.vx_mixed.specs.FromGraph.{FromGraph}
use Rattle.vx_mixed.specs.Layout.{layout_of}
use Rattle.vx_profile.specs.declared.counts.Counts.{Counts}
use Rattle.vx_region.specs.declared.trace_plan.TracePlan.{TracePlan}
use Rattle.vx_region.specs.Regions.{ReplacesAll}
use Rattle.vx_regs.specs.declared.map.Kept.{Kept}
use Rattle.vx_regs.specs.declared.map.Kept.TheVariants.{InRegister, InSlot, Nowhere}
use Rattle.vx_regs.specs.declared.map.RegMap.{RegMap}
use Rattle.vx_regs.specs.Mapped.{Mapped}
use Rattle.vx_tie.specs.Emitted.{Emitted}
use Rattle.vx_report.specs.declared.plan.Plan.{Plan}
use Rattle.vx_compiled.specs.Faithful.{Faithful}

-- the plan

-- how a function became regions: the plans of its traces, the graph without blocks that they lead to, and how many operations
-- were copied then
pub record FunctionPlan : Type 0 where
  pub traces : List TracePlan
  pub done : MixedGraph
  pub used : ℕ

-- The graph begins without regions, under the function's number. One after the other a trace is picked by the counts, placed as
-- far as the cap on copies lets it, and becomes a region, until no block is left; `used` operations were copied before.
pub record PlansFunction (machine : Numbers) (counts : Counts) (cap function : ℕ) (graph : Graph) (used : ℕ) (x : FunctionPlan) : Type 0 where
  pub begun : MixedGraph
  pub from : FromGraph graph begun
  pub all : ReplacesAll machine counts cap (record begun { function = function }) used x.traces x.done x.used

-- function by function, from the one with this number on; `all` operations are copied in the end
abbrev pub PlansFrom : Numbers → Counts → (cap function : ℕ) → List Graph → (used : ℕ) → List FunctionPlan → (all : ℕ) → Type 0
PlansFrom machine counts cap f [] used [] all = all ≡ used
PlansFrom machine counts cap f (graph ∷ graphs) used (x ∷ xs) all = PlansFunction machine counts cap f graph used x × PlansFrom machine counts cap (f + 1) graphs x.used xs all
PlansFrom machine counts cap f [] used (x ∷ xs) all = ⊥
PlansFrom machine counts cap f (graph ∷ graphs) used [] all = ⊥

-- the traces of a whole program, and how many operations are copied in it, from none on
pub record Planned (machine : Numbers) (counts : Counts) (cap : ℕ) (graphs : List Graph) (traces : List TracePlan) (copies : ℕ) : Type 0 where
  pub functions : List FunctionPlan
  pub each : PlansFrom machine counts cap 0 graphs 0 functions copies
  pub traces_are : traces ≡ flat_map (λ (x : FunctionPlan). x.traces) functions

-- the layouts of the graphs that are left of its functions
abbrev pub layouts_of : List FunctionPlan → List VWords
layouts_of xs = map (λ (x : FunctionPlan). layout_of x.done) xs

-- where values are kept

-- a map for each layout: values that are in use together are apart, and a slot is taken only where a file is full
abbrev pub AreMapsOf : Numbers → List VWords → List RegMap → Type 0
AreMapsOf machine [] [] = Unit {0}
AreMapsOf machine (l ∷ ls) (x ∷ maps) = Mapped machine (latency_of_op machine) l x × AreMapsOf machine ls maps
AreMapsOf machine [] (x ∷ maps) = ⊥
AreMapsOf machine (l ∷ ls) [] = ⊥

abbrev pub slot_of : Kept → ℕ
slot_of (InRegister n) = 0
slot_of (InSlot k) = 1
slot_of Nowhere = 0

-- how many values of a function are in slots
abbrev pub in_slots : List Kept → ℕ
in_slots kept = sum_by slot_of kept

-- of a value in a register, one in a slot and one that is nowhere
one_of_three : in_slots (InRegister 3 ∷ InSlot 0 ∷ Nowhere ∷ []) ≡ 1
one_of_three = refl

-- of all functions
abbrev pub all_in_slots : List RegMap → ℕ
all_in_slots maps = sum_by (λ (x : RegMap). in_slots x.values) maps

-- the whole

-- the program has graphs that do what it does, in the shape of their layer; the plan is that of these graphs, by these counts and
-- with this cap on copies; the words are emitted in the order of its layouts, with values kept where the maps say, and carry the
-- regions of the plan at its places, and nothing else but words of the other kinds; they do what the program does, fit the machine,
-- and on no path read a register early, and so in no run; and they are a program of words that the word text spells: sound, of the
-- version that is the number of the machine's branches, with numbers of 32 bits and texts of bytes
pub record Compiled (p : Program) (counts : Counts) (m : Numbers) (growth : ℕ) (w : WordProgram) (plan : Plan) : Type 0 where
  pub flow : Flow
  pub flow_of : FlowOf p flow
  pub planned : Planned m counts growth flow.functions plan.traces plan.copies
  pub maps : List RegMap
  pub kept : AreMapsOf m (layouts_of planned.functions) maps
  pub spilled : plan.spilled ≡ all_in_slots maps
  pub emitted : Emitted m flow (layouts_of planned.functions) maps plan.places w
  pub faithful : Faithful p m w
  pub path_strict : PathStrict m w
  pub strict : Strict m w
  pub sound : is_sound w ≡ true
  pub version : w.version ≡ m.branches
  pub in_range : is_in_range w ≡ true
