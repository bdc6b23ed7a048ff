-- When a table of names says what is known, and each local name remembers what it hides.
use Rattle.std.specs.Prelude.{◌≡◌, ℕ, List, [], ◌∷◌, ◌++◌, Option}
use Rattle.std.specs.Option.{is_some}
use Rattle.vx_ast.specs.declared.names.FileName.{FileName}
use Rattle.vx_ast.specs.Faults.{is_repeated}
use Rattle.vx_ast.specs.declared.names.Meant.{Meant}
use Rattle.vx_ast.specs.Scopes.{Known, find}
use Rattle.vx_names.specs.declared.local.Local.{Local}

abbrev pub known_in : List Local → List Known
known_in [] = []
known_in (l ∷ ls) = (record { name = l.name; meant = l.meant }) ∷ known_in ls

-- each local name, the latest one first, has what it stood for before
abbrev pub Remember : List Local → List Known → Type 0
Remember [] file = Unit {0}
Remember (l ∷ ls) file = (l.before ≡ find l.name (known_in ls ++ file)) × Remember ls file

pub record Agrees (says : List ℕ → Option Meant) (latest : List Local) (file : List Known) : Type 0 where
  pub table_says : (x : List ℕ) → says x ≡ find x (known_in latest ++ file)
  pub locals_remember : Remember latest file

-- a table has exactly the names that are predeclared or stand above
pub record Sees (says : List ℕ → Option Meant) (above : List FileName) : Type 0 where
  pub has : (x : List ℕ) → is_some (says x) ≡ is_repeated above x
