-- Laws of what a program does, each the clause of a public function.
use Rattle.std.specs.Prelude.{ℤ, List}
use Rattle.vx_base.specs.Outcome.{Steady}
use Rattle.vx_ast.specs.Tree.{Program}
use Rattle.vx_ast.specs.Meaning.{source}

-- with more turns what does not go on stays, and the output only grows
abbrev pub SourceIsSteady : Type 0
SourceIsSteady = (p : Program) (input : List ℤ) → Steady (source p input)
