-- The laws of parsed sources.
use Rattle.std.specs.Prelude.{◌≡◌, ◌<◌, ◌⊎◌, ◌↔◌, true, List, [], Some, None, Contains}
use Rattle.vx_ast.specs.declared.names.Fault.{Fault}
use Rattle.vx_ast.specs.Syntax.{Program}
use Rattle.vx_ast.specs.Accepted.{is_suited}
use Rattle.vx_ast.specs.Faults.{faults_of, first_fault}
use Rattle.vx_ast.specs.Resolved.{resolved}
use Rattle.vx_limits.specs.Words.{program_words}

abbrev pub Suited : Type 0
Suited = (p : Program) → faults_of p ≡ [] → program_words (resolved p) ≡ true → is_suited (resolved p) ≡ true

-- a fault stands before another by its line, then by its column, at one place by its code
abbrev pub Before : Fault → Fault → Type 0
Before f g = (f.place.line < g.place.line)
    ⊎ ((f.place.line ≡ g.place.line) × ((f.place.column < g.place.column)
    ⊎ ((f.place.column ≡ g.place.column) × (f.code < g.code))))

-- one of the faults, before which none of them stands
pub record IsLeast (f : Fault) (fs : List Fault) : Type 0 where
  pub is_one : Contains fs f
  pub none_before : (g : Fault) → Contains fs g → Before g f → ⊥

abbrev pub FirstIsLeast : Type 0
FirstIsLeast = (p : Program) → ((f : Fault) → first_fault p ≡ Some f → IsLeast f (faults_of p)) × ((first_fault p ≡ None) ↔ (faults_of p ≡ []))
