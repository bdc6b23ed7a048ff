use Rattle.std.proofs.Common.{◌≡◌, [], drop}
use Rattle.vx_ast.specs.Resolved as resolved
use Rattle.vx_ast.specs.SyntaxView.{row_in}
use Rattle.vx_types.specs.Onto.{row_onto}
use Rattle.vx_types.proofs.expressions.resolve_row.Given as goal

abbrev pub invariant-loop-argument : goal.invariant-loop-argument
invariant-loop-argument l = row_onto l.made.items (resolved.row_in l.fn.names [] (row_in (drop l.argument-index l.fn.row))) ≡ resolved.row_in l.fn.names [] (row_in l.fn.row)
