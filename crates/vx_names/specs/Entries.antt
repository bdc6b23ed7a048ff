-- The entry of a name in the entries of a map.
use Rattle.std.specs.Prelude.{ℕ, List, [], ◌∷◌, Option, Some, None, if◌then◌else◌}
use Rattle.std.specs.declared.vec.Vec.{Vec}
use Rattle.vx_ast.specs.declared.names.Meant.{Meant}
use Rattle.vx_ast.specs.declared.names.FileName.{FileName}
use Rattle.vx_ast.specs.Scopes.{same_name}

abbrev pub entry_of : {A : Type 0} → List ℕ → List (Vec ℕ A × Option Meant) → Option Meant
entry_of x [] = None
entry_of x (e ∷ es) = if same_name x e.0.items then e.1 else entry_of x es

-- what a table says once a name of the file is put into it where nothing stands, if it is known everywhere
abbrev pub unless_said : Option Meant → Option Meant → Option Meant → Option Meant
unless_said (Some m) new old = old
unless_said None new old = new

abbrev pub started : FileName → (List ℕ → Option Meant) → List ℕ → Option Meant
started n says x = if n.everywhere then unless_said (says n.name) (if same_name x n.name then Some (record { depth = 0; named = n.named }) else says x) (says x) else says x
