-- A law of the word machine's runs, the clause of a public function of this crate.
use Rattle.std.specs.Prelude.{ℕ, ℤ, List}
use Rattle.vx_base.specs.Outcome.{Steady}
use Rattle.vx_isa.specs.declared.program.WordProgram.{WordProgram}
use Rattle.vx_isa.specs.Numbers.{Numbers}
use Rattle.vx_isa.specs.Machine.{words_run}

-- with a larger bound, what does not go on stays, and the output only grows
abbrev pub WordsAreSteady : Type 0
WordsAreSteady = (m : Numbers) (times : List ℕ) (w : WordProgram) (input : List ℤ) → Steady (words_run m times w input)
