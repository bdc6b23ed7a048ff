-- When words over registers carry laid-out words over values, and the law that they then do the same.
use Rattle.std.specs.Prelude.{◌≡◌, ◌<◌, ◌≤◌, ◌+◌, ◌*◌, ◌^◌, ℕ, ℤ, Bool, true, false, Option, Some, List, [], ◌∷◌, length, map, slice_get}
use Rattle.vx_base.specs.Outcome.{Same, NeverFails}
use Rattle.vx_flow.specs.declared.graph.Global.{Global}
use Rattle.vx_flow.specs.declared.graph.Flow.{Flow}
use Rattle.vx_flow.specs.Sound.{is_sound_flow}
use Rattle.vx_isa.specs.declared.program.Word.{Word}
use Rattle.vx_isa.specs.declared.program.WordProgram.{WordProgram}
use Rattle.vx_isa.specs.Fits.{is_bad_word, fits}
use Rattle.vx_isa.specs.Machine.{memory_at_start, words_run}
use Rattle.vx_isa.specs.Numbers.{Numbers, IsMachine}
use Rattle.vx_isa.specs.Paths.{WordAt, NeverReadsEarly, NeverWritesEarly}
use Rattle.vx_room.specs.declared.items.Item.TheVariants.{Plain as PlainItem, Split as SplitItem}
use Rattle.vx_room.specs.declared.items.ClusteredItem.{ClusteredItem}
use Rattle.vx_room.specs.Items.{latency_of_op}
use Rattle.vx_room.specs.Room.{has_room}
use Rattle.vx_mixed.specs.declared.layout.Laid.{Laid}
use Rattle.vx_mixed.specs.declared.layout.Laid.TheVariants.{Plain, Split}
use Rattle.vx_mixed.specs.declared.layout.VWords.{VWords}
use Rattle.vx_layout.specs.Brief.{IsBriefLayout}
use Rattle.vx_layout.specs.Laid.{laid_run}
use Rattle.vx_mixed.specs.LaidSettled.{SettledLayout, home_in}
use Rattle.vx_layout.specs.Origins.{LaidFromGraph}
use Rattle.vx_regs.specs.Intervals.{IsBusy}
use Rattle.vx_regs.specs.Mapped.{KeepsApart}
use Rattle.vx_target.specs.Target.{Target, memory_words}
use Rattle.vx_target.specs.Tied.{IsFunction, words_before}
use Rattle.vx_target.specs.Frames.{IsSaved, IsFramed, first_or_zero}
use Rattle.vx_target.specs.Placed.{IsPlaced}

-- the room that a machine has for the words of a layout

abbrev pub item_of_laid : Laid → ClusteredItem
item_of_laid (Plain op cluster) = record { item = PlainItem op; cluster = cluster }
item_of_laid (Split test y q) = record { item = SplitItem test; cluster = 0 }

abbrev pub room_of : Numbers → List (Option ℕ) → List Laid → Bool
room_of m clusters items = has_room m (record { clusters = clusters }) (map item_of_laid items)

-- values of a function

-- the layout is settled, with few empty cycles, and has the code of the graph, and the map keeps its values apart
pub record IsMapped (T : Target) (f : ℕ) : Type 0 where
  pub settled : SettledLayout (room_of T.machine) (latency_of_op T.machine) (T.layout f)
  pub brief : IsBriefLayout (T.layout f)
  pub code : LaidFromGraph (T.graph f) (T.layout f)
  pub apart : KeepsApart T.machine (latency_of_op T.machine) (T.layout f) (T.maps f)
  pub homes : (p v : ℕ) → IsBusy (latency_of_op T.machine) (T.layout f) p v → home_in (T.layout f) v < T.machine.clusters

-- programs

pub record IsFunctionOf (T : Target) (flow : Flow) (ls : List VWords) (f : ℕ) : Type 0 where
  pub is : IsFunction T flow ls f
  pub mapped : IsMapped T f
  pub saved : IsSaved T f
  pub framed : IsFramed T flow f

pub record Carries (T : Target) (flow : Flow) (ls : List VWords) (w : WordProgram) : Type 0 where
  pub machine : IsMachine T.machine
  pub functions : (f : ℕ) → f < length flow.functions → IsFunctionOf T flow ls f
  -- memory
  pub some_frame : 1 ≤ T.frame
  pub globals : T.globals ≡ words_before flow.globals (length flow.globals)
  pub small : 4 * memory_words T ≤ 132644864
  pub memory : w.memory ≡ 4 * memory_words T
  pub start : (a i : ℕ) (x : Global) → slice_get flow.globals a ≡ Some x → i < x.words → memory_at_start w.start (4 * (words_before flow.globals a + i)) ≡ first_or_zero x.first i
  -- words, of the version that is the number of the machine's branches
  pub version : w.version ≡ T.machine.branches
  pub texts : w.texts ≡ flow.texts
  pub placed : IsPlaced T flow.main (length flow.functions) w.words
  pub few : length w.words < 2 ^ 32

-- every word is well formed and fits
abbrev pub WordsFit : Numbers → WordProgram → Type 0
WordsFit m w = (p : ℕ) (word : Word) → WordAt w p word → (is_bad_word m word.ops ≡ false) × (fits m word.ops ≡ true)

-- what the words do: with an input the same as the laid-out words, and they are never stuck
pub record DoesTheSame (T : Target) (flow : Flow) (ls : List VWords) (w : WordProgram) (input : List ℤ) : Type 0 where
  pub same : Same (laid_run flow ls input) (words_run T.machine (1 ∷ []) w input)
  pub never_stuck : NeverFails (words_run T.machine (1 ∷ []) w input)

-- what every word and every path of words keeps to
pub record KeepsTo (m : Numbers) (w : WordProgram) : Type 0 where
  pub fit : (p : ℕ) (word : Word) → WordAt w p word → fits m word.ops ≡ true
  pub never_reads_early : NeverReadsEarly m w
  pub never_writes_early : NeverWritesEarly m w

-- the law: where the laid-out words never fail, the words do the same; and they keep to the machine, so that this is so
-- whenever within its latency each write lands
abbrev pub FrameLaw : Type 0
FrameLaw =
    (T : Target) (flow : Flow) (ls : List VWords) (w : WordProgram) → is_sound_flow flow ≡ true → Carries T flow ls w →
    KeepsTo T.machine w × ((input : List ℤ) → NeverFails (laid_run flow ls input) → DoesTheSame T flow ls w input)
