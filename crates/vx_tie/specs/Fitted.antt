-- That every word of a program that carries a flow fits, that the program is sound, and that no path of it is early.
use Rattle.std.specs.Prelude.{◌≡◌, true, List}
use Rattle.vx_flow.specs.declared.graph.Flow.{Flow}
use Rattle.vx_flow.specs.Sound.{is_sound_flow}
use Rattle.vx_isa.specs.declared.program.WordProgram.{WordProgram}
use Rattle.vx_isa.specs.Paths.{NeverReadsEarly, NeverWritesEarly}
use Rattle.vx_isa.specs.Sound.{is_sound, is_start}
use Rattle.vx_mixed.specs.declared.layout.VWords.{VWords}
use Rattle.vx_target.specs.Target.{Target}
use Rattle.vx_target.specs.Carried.{Carries, WordsFit}

-- every word of a program that carries a flow is well formed and fits
abbrev pub FitLaw : Type 0
FitLaw = (T : Target) (flow : Flow) (ls : List VWords) (w : WordProgram) → is_sound_flow flow ≡ true → Carries T flow ls w → WordsFit T.machine w

-- The words that carry a flow are sound, where those of memory that do not start as 0 are as they should be.
abbrev pub SoundLaw : Type 0
SoundLaw = (T : Target) (flow : Flow) (ls : List VWords) (w : WordProgram) → is_sound_flow flow ≡ true → Carries T flow ls w → is_start w.memory 0 w.start ≡ true → is_sound w ≡ true

-- on no path is a register read or written while an earlier write of it may be in flight
abbrev pub NeverEarlyLaw : Type 0
NeverEarlyLaw = (T : Target) (flow : Flow) (ls : List VWords) (w : WordProgram) → is_sound_flow flow ≡ true → Carries T flow ls w → NeverReadsEarly T.machine w × NeverWritesEarly T.machine w
