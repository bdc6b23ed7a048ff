-- An argument, where this is taken of it.
use Rattle.std.specs.Prelude.{List, [], ◌∷◌}
use Rattle.vx_ast.specs.declared.tree.Takes.{Takes}
use Rattle.vx_ast.specs.declared.tree.Takes.TheVariants.{Number as TakesNumber, Array as TakesArray}
use Rattle.vx_ast.specs.declared.syntax.Place.{Place}
use Rattle.vx_ast.specs.declared.names.Fault.{Fault}
use Rattle.vx_ast.specs.Tree as tree
use Rattle.vx_ast.specs.Tree.{Tree, One, Row}
use Rattle.vx_ast.specs.Syntax.{Phrase}
use Rattle.vx_ast.specs.Scopes.{Environment}
use Rattle.vx_ast.specs.Faults.{phrase_faults, handed}
use Rattle.vx_ast.specs.Resolved.{tree_in, array_in}

-- what the first of parameters takes: where there is none, a number
abbrev pub first_taken : List Takes → Takes
first_taken [] = TakesNumber
first_taken (t ∷ ts) = t

abbrev pub argument_faults : Environment → Takes → Place → Phrase One → List Fault
argument_faults env TakesNumber place e = phrase_faults env e
argument_faults env TakesArray place e = handed env place e (phrase_faults env e)

-- the argument before others
abbrev pub argument_in : Environment → Takes → Phrase One → Tree Row → Tree Row
argument_in env TakesNumber e rest = tree.Then (tree_in env e) rest
argument_in env TakesArray e rest = tree.Hand (array_in env e) rest
