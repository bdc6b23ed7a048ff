use Rattle.std.proofs.Common.{List, ap, sym, ◌∙◌}
use Rattle.vx_ast.specs.declared.syntax.Argument.{Argument}
use Rattle.vx_ast.specs.Faults.{least, whole_faults}
use Rattle.vx_ast.specs.Syntax as syntax
use Rattle.vx_ast.specs.Syntax.{Phrase}
use Rattle.vx_ast.specs.Tree.{One}
use Rattle.vx_ast.specs.SyntaxView.{phrase_of, row_in}
use Rattle.vx_types.proofs.Views.{call_written}
use Rattle.vx_types.proofs.kinds.note_whole.Goals as goal

pub returns-in-Call : goal.returns-in-Call
returns-in-Call c =
    c.note_application.ensures
    ∙ ap (λ (z : List Argument). least c.args.first (whole_faults c.args.names.now (syntax.Call c.in-Call.name (row_in z)))) c.as_slice.ensures.value
    ∙ ap (λ (z : Phrase One). least c.args.first (whole_faults c.args.names.now z)) (sym (ap phrase_of c.in-Call.is ∙ call_written c.in-Call.name c.in-Call.row))
