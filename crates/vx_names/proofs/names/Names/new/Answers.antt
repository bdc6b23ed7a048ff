use Rattle.std.proofs.Common.{ap, ◌∙◌, ◌++◌, List}
use Rattle.vx_ast.specs.declared.names.FileName.{FileName}
use Rattle.vx_ast.specs.Scopes.{find, predeclared, known_of}
use Rattle.vx_names.proofs.Agreeing.{agrees_empty}
use Rattle.vx_names.proofs.Passing.{sees_none}
use Rattle.vx_names.proofs.names.Names.new.Goals as goal

pub invariant_of-result : goal.invariant_of-result
invariant_of-result c =
    (agrees_empty _ c.new.result.items _ c.new.ensures.items (λ x. c.in_ok-table.ensures x ∙ ap (λ (z : List FileName). find x (predeclared ++ known_of 0 z)) c.as_slice.ensures), sees_none _ c.in_ok-seen.ensures)
