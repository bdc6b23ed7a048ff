-- The first of faults, some after others.
use Rattle.std.proofs.Common.{◌≡◌, List, [], ◌∷◌, ◌++◌, refl, Option}
use Rattle.vx_ast.specs.declared.names.Fault.{Fault}
use Rattle.vx_ast.specs.Faults.{earlier, least}

pub least_append : (first : Option Fault) (xs ys : List Fault) → least first (xs ++ ys) ≡ least (least first xs) ys
least_append first [] ys = refl
least_append first (x ∷ xs) ys = least_append (earlier first x) xs ys
