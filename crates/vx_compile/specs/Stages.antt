-- What holds between the graphs of a program and its words: layouts of the graphs, and maps for the layouts; and the laws by which
-- each of them does what the one before does.
use Rattle.std.specs.Prelude.{◌≡◌, ◌<◌, ◌≤◌, ◌+◌, ℕ, true, List, [], ◌∷◌, length, count_by, Some, slice_get}
use Rattle.vx_base.specs.Outcome.{SameIsTransitive}
use Rattle.vx_flow.specs.declared.graph.Flow.{Flow}
use Rattle.vx_flow.specs.declared.graph.Graph.{Graph}
use Rattle.vx_flow.specs.Sound.{is_sound}
use Rattle.vx_isa.specs.declared.program.WordProgram.{WordProgram}
use Rattle.vx_isa.specs.Numbers.{Numbers}
use Rattle.vx_isa.specs.Paths.{PathStrictLaw, AnyTimingLaw}
use Rattle.vx_lower.specs.FlowOf.{is_general, is_branch}
use Rattle.vx_mixed.specs.declared.mixed.MixedGraph.{MixedGraph}
use Rattle.vx_mixed.specs.declared.layout.VirtualWord.{VirtualWord}
use Rattle.vx_mixed.specs.declared.layout.VWords.{VWords}
use Rattle.vx_mixed.specs.LaidSettled.{LeadsTo}
use Rattle.vx_layout.specs.Brief.{LayoutIsBrief}
use Rattle.vx_motion.specs.Context.{MeansTheFlow, StepsLaw}
use Rattle.vx_mixed.specs.FromGraph.{FromGraph}
use Rattle.vx_mixed.specs.Layout.{layout_of}
use Rattle.vx_layout.specs.LayoutLaws.{LayoutRuns, LayoutSettles, LayoutComesFromGraph}
use Rattle.vx_mixed.specs.Valid.{Valid, CanBegin}
use Rattle.vx_regs.specs.declared.map.RegMap.{RegMap}
use Rattle.vx_profile.specs.declared.counts.Counts.{Counts}
use Rattle.vx_region.specs.declared.trace_plan.TracePlan.{TracePlan}
use Rattle.vx_region.specs.Regions.{AllReplaced, ReplacesAll}
use Rattle.vx_target.specs.Carried.{FrameLaw}
use Rattle.vx_target.specs.Tied.{words_before}
use Rattle.vx_calls.specs.Bounds.{most_global_words, own_words}
use Rattle.vx_target.specs.declared.finished.Finished.{Finished}
use Rattle.vx_target.specs.Finish.{Finishes}
use Rattle.vx_tie.specs.PlanLaws.{EmittedLaw}
use Rattle.vx_tie.specs.Plans.{SpacedLaw}
use Rattle.vx_report.specs.declared.plan.Plan.{Plan}
use Rattle.vx_isa.specs.Range.{is_in_range}
use Rattle.vx_compiled.specs.Compiled.{AreMapsOf, Planned, all_in_slots, layouts_of}

-- the graph can begin as a graph of blocks and regions, and has a block
pub record Begins (graph : Graph) : Type 0 where
  pub sound : is_sound graph ≡ true
  pub can : CanBegin graph
  pub some : 0 < length graph.blocks

abbrev pub AllBegin : List Graph → Type 0
AllBegin graphs = (f : ℕ) (graph : Graph) → slice_get graphs f ≡ Some graph → Begins graph

-- the graph of a function of an accepted program has so few values, and arrays of so few words behind the globals
pub record IsSmallGraph (globals : ℕ) (graph : Graph) : Type 0 where
  pub general : count_by is_general graph.banks ≤ 12000
  pub branch : count_by is_branch graph.banks ≤ 8000
  pub arrays : own_words globals graph.arrays ≤ 8192

-- and its globals so few words
pub record IsSmall (flow : Flow) : Type 0 where
  pub globals : words_before flow.globals (length flow.globals) ≤ most_global_words
  pub graphs : (f : ℕ) (graph : Graph) → slice_get flow.functions f ≡ Some graph → IsSmallGraph (length flow.globals) graph

-- the layout of regions that took the place of all blocks of a graph, that of the function with this number
pub record IsLayoutOf (machine : Numbers) (function : ℕ) (graph : Graph) (l : VWords) : Type 0 where
  pub begun : MixedGraph
  pub from : FromGraph graph begun
  pub done : MixedGraph
  pub valid : Valid done
  pub some : 0 < length done.nodes
  pub replaced : AllReplaced machine graph (record begun { function = function }) done
  pub is : l ≡ layout_of done

-- graph by graph, from the function with this number on
abbrev pub AreLayoutsFrom : (function : ℕ) → Numbers → List Graph → List VWords → Type 0
AreLayoutsFrom f machine [] [] = Unit {0}
AreLayoutsFrom f machine (graph ∷ graphs) (l ∷ ls) = IsLayoutOf machine f graph l × AreLayoutsFrom (f + 1) machine graphs ls
AreLayoutsFrom f machine [] (l ∷ ls) = ⊥
AreLayoutsFrom f machine (graph ∷ graphs) [] = ⊥

abbrev pub AreLayoutsOf : Numbers → List Graph → List VWords → Type 0
AreLayoutsOf machine graphs ls = AreLayoutsFrom 0 machine graphs ls

-- each word of a layout leads to words of it, and so does its entry
pub record IsInside (l : VWords) : Type 0 where
  pub words : (p q : ℕ) (word : VirtualWord) → slice_get l.words p ≡ Some word → LeadsTo p word q → q < length l.words
  pub entry : l.entry < length l.words

abbrev pub AreInside : List VWords → Type 0
AreInside ls = (f : ℕ) (l : VWords) → slice_get ls f ≡ Some l → IsInside l

-- A function that is laid out: its traces became regions by these plans, and this is the layout of what is left.
pub record IsLaidOut (machine : Numbers) (counts : Counts) (cap function : ℕ) (graph : Graph) (used : ℕ) (traces : List TracePlan) (l : VWords) (used' : ℕ) : Type 0 where
  pub laid : IsLayoutOf machine function graph l
  pub all : ReplacesAll machine counts cap (record laid.begun { function = function }) used traces laid.done used'

-- functions that are laid out, by these plans and with so many copies
pub record AreLaidOut (machine : Numbers) (counts : Counts) (cap : ℕ) (graphs : List Graph) (traces : List TracePlan) (ls : List VWords) (used : ℕ) : Type 0 where
  pub laid : AreLayoutsOf machine graphs ls
  pub planned : Planned machine counts cap graphs traces used
  pub layouts_are : ls ≡ layouts_of planned.functions

-- layouts that are finished as words, which stand at these places, with so many values in slots
pub record AreFinished (machine : Numbers) (flow : Flow) (ls : List VWords) (x : Finished) (spilled : ℕ) : Type 0 where
  pub maps : List RegMap
  pub kept : AreMapsOf machine ls maps
  pub spilled_is : spilled ≡ all_in_slots maps
  pub finished : Finishes machine flow ls maps x
  pub in_range : is_in_range x.program ≡ true

-- words and their plan, of layouts of graphs that are finished
pub record IsCompiledFlow (machine : Numbers) (counts : Counts) (growth : ℕ) (flow : Flow) (w : WordProgram) (plan : Plan) : Type 0 where
  pub layouts : List VWords
  pub laid : AreLaidOut machine counts growth flow.functions plan.traces layouts plan.copies
  pub finished : AreFinished machine flow layouts (record { program = w; places = plan.places }) plan.spilled

-- the laws of the stages
pub record StageLaws : Type 0 where
  pub transitive : SameIsTransitive
  pub means : MeansTheFlow
  pub steps : StepsLaw
  pub layouts : LayoutRuns
  pub settles : LayoutSettles
  pub comes : LayoutComesFromGraph
  pub brief : LayoutIsBrief
  pub frames : FrameLaw
  pub emits : EmittedLaw
  pub spaced : SpacedLaw
  pub paths : PathStrictLaw
  pub timings : AnyTimingLaw
