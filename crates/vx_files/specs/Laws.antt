-- Laws of sources, each the clause of a public function.
use Rattle.std.specs.Prelude.{◌≡◌, ℕ, List}
use Rattle.vx_ast.specs.declared.fault.SourceFault.{SourceFault}
use Rattle.vx_ast.specs.Tree.{Program}
use Rattle.vx_ast.specs.Reads.{Reads, Refusal}

-- a source has one program
abbrev pub OneProgram : Type 0
OneProgram = (bytes : List ℕ) (p q : Program) → Reads bytes p → Reads bytes q → p ≡ q

-- no source is both accepted and refused
abbrev pub ReadOrNot : Type 0
ReadOrNot = (bytes : List ℕ) (program : Program) (fault : SourceFault) → Reads bytes program → Refusal bytes fault → ⊥

-- a source is refused for one cause
abbrev pub OneRefusal : Type 0
OneRefusal = (bytes : List ℕ) (f g : SourceFault) → Refusal bytes f → Refusal bytes g → f ≡ g
