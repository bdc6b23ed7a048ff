-- What is asked of the layouts and maps of a program that is finished, and what the finished program is.
use Rattle.std.specs.Prelude.{◌≡◌, ◌<◌, ℕ, true, Some, List, length, slice_get}
use Rattle.vx_flow.specs.declared.graph.Graph.{Graph}
use Rattle.vx_flow.specs.declared.graph.Flow.{Flow}
use Rattle.vx_isa.specs.declared.program.WordProgram.{WordProgram}
use Rattle.vx_isa.specs.Numbers.{Numbers}
use Rattle.vx_isa.specs.Sound.{is_sound}
use Rattle.vx_room.specs.Items.{latency_of_op}
use Rattle.vx_mixed.specs.declared.layout.VWords.{VWords}
use Rattle.vx_layout.specs.Brief.{IsBriefLayout}
use Rattle.vx_mixed.specs.LaidSettled.{SettledLayout, home_in}
use Rattle.vx_layout.specs.Origins.{LaidFromGraph}
use Rattle.vx_regs.specs.Intervals.{IsBusy}
use Rattle.vx_regs.specs.Mapped.{KeepsApart}
use Rattle.vx_regs.specs.declared.map.RegMap.{RegMap}
use Rattle.vx_target.specs.declared.finished.Finished.{Finished}
use Rattle.vx_target.specs.Target.{Target}
use Rattle.vx_target.specs.Places.{ArePlaces}
use Rattle.vx_target.specs.Carried.{room_of, Carries}

-- function f has a layout that is settled, with few empty cycles, and has the code of its graph, and a map that keeps its values
-- apart
pub record CanFinish (m : Numbers) (flow : Flow) (layouts : List VWords) (maps : List RegMap) (f : ℕ) : Type 0 where
  pub graph : Graph
  pub layout : VWords
  pub map : RegMap
  pub graph_is : slice_get flow.functions f ≡ Some graph
  pub layout_is : slice_get layouts f ≡ Some layout
  pub map_is : slice_get maps f ≡ Some map
  pub settled : SettledLayout (room_of m) (latency_of_op m) layout
  pub brief : IsBriefLayout layout
  pub code : LaidFromGraph graph layout
  pub apart : KeepsApart m (latency_of_op m) layout map
  pub homes : (p v : ℕ) → IsBusy (latency_of_op m) layout p v → home_in layout v < m.clusters

-- so has each function, and there are no more
pub record AllCanFinish (m : Numbers) (flow : Flow) (ls : List VWords) (ms : List RegMap) : Type 0 where
  pub layouts : length ls ≡ length flow.functions
  pub maps : length ms ≡ length flow.functions
  pub each : (f : ℕ) → f < length flow.functions → CanFinish m flow ls ms f

-- the words carry the layouts of the flow, with values kept where the maps say, and are a program that a word text can spell, of the
-- version that is the number of the machine's branches
pub record IsFinished (m : Numbers) (flow : Flow) (layouts : List VWords) (maps : List RegMap) (w : WordProgram) : Type 0 where
  pub target : Target
  pub machine_is : target.machine ≡ m
  pub version : w.version ≡ m.branches
  pub maps_are : (f : ℕ) → f < length flow.functions → slice_get maps f ≡ Some (target.maps f)
  pub carries : Carries target flow layouts w
  pub sound : is_sound w ≡ true

-- the program is finished, with a layout for each function, and the places are those of the words of its regions
pub record Finishes (m : Numbers) (flow : Flow) (layouts : List VWords) (maps : List RegMap) (x : Finished) : Type 0 where
  pub finished : IsFinished m flow layouts maps x.program
  pub functions : length layouts ≡ length flow.functions
  pub places : ArePlaces finished.target layouts x.places
