-- A whole run over values and over registers.
use Rattle.std.specs.Prelude.{◌≡◌, true, ℤ, List}
use Rattle.vx_base.specs.Outcome.{NeverFails}
use Rattle.vx_flow.specs.declared.graph.Flow.{Flow}
use Rattle.vx_flow.specs.Sound.{is_sound_flow}
use Rattle.vx_isa.specs.declared.program.WordProgram.{WordProgram}
use Rattle.vx_mixed.specs.declared.layout.VWords.{VWords}
use Rattle.vx_layout.specs.Laid.{laid_run}
use Rattle.vx_target.specs.Target.{Target}
use Rattle.vx_target.specs.Carried.{Carries, DoesTheSame, WordsFit}

-- where the words fit, with every input with which the laid-out words never fail they do the same, and are never stuck
abbrev pub WholeLaw : Type 0
WholeLaw =
    (T : Target) (flow : Flow) (ls : List VWords) (w : WordProgram) → is_sound_flow flow ≡ true → Carries T flow ls w → WordsFit T.machine w →
    (input : List ℤ) → NeverFails (laid_run flow ls input) → DoesTheSame T flow ls w input
