-- The names of the functions, read from the program that the code holds.
use Rattle.std.proofs.Common.{◌≡◌, ◌<◌, ◌≤◌, ℕ, zero, suc, List, [], ◌∷◌, length, get_or, map, refl, ap, arith}
use Rattle.vx_ast.specs.declared.tree.Function.{Function}
use Rattle.vx_ast.specs.View.{function_of}
use Rattle.vx_ast.specs.Tree.{Function as TreeFunction}
use Rattle.vx_report.specs.Report.{name_at}

pub name_there : (fs : List Function) (n : ℕ) (f : Function) → n < length fs → f ≡ get_or fs n f → f.name ≡ name_at (map (λ (x : TreeFunction). x.name) (map function_of fs)) n
name_there [] n f below is = absurd (omega arith)
name_there (g ∷ fs) zero f below is = ap (λ (x : Function). x.name) is
name_there (g ∷ fs) (suc n) f below is = name_there fs n f (omega arith) is

pub name_nowhere : (fs : List Function) (n : ℕ) → length fs ≤ n → [] ≡ name_at (map (λ (x : TreeFunction). x.name) (map function_of fs)) n
name_nowhere [] n beyond = refl
name_nowhere (g ∷ fs) zero beyond = absurd (omega arith)
name_nowhere (g ∷ fs) (suc n) beyond = name_nowhere fs n (omega arith)
