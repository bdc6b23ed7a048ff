-- When words are faithful to a program: they print the same and end the same, in both directions, for every
-- input and every choice of landing times, and are never stuck.
use Rattle.std.specs.Prelude.{◌≢◌, ℕ, ℤ, List, [], All}
use Rattle.vx_base.specs.Arithmetic.{IsNumber}
use Rattle.vx_base.specs.Outcome.{Same, NeverFails}
use Rattle.vx_isa.specs.declared.program.WordProgram.{WordProgram}
use Rattle.vx_isa.specs.Numbers.{Numbers}
use Rattle.vx_isa.specs.Machine.{words_run}
use Rattle.vx_ast.specs.Tree.{Program}
use Rattle.vx_ast.specs.Meaning.{source}

pub record Faithful (p : Program) (m : Numbers) (w : WordProgram) : Type 0 where
  pub same : (input : List ℤ) (times : List ℕ) → All IsNumber input → times ≢ [] → Same (source p input) (words_run m times w input)
  pub never_stuck : (input : List ℤ) (times : List ℕ) → All IsNumber input → times ≢ [] → NeverFails (words_run m times w input)
