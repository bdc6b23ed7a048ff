use Rattle.std.proofs.Common.{ℕ, List, [], Option, ap, sym, ◌∙◌}
use Rattle.vx_ast.specs.declared.names.Fault.{Fault}
use Rattle.vx_ast.specs.Faults.{least, prints, row_faults, row_length}
use Rattle.vx_ast.specs.SyntaxView.{row_in}
use Rattle.vx_ast.specs.Tree as tree
use Rattle.vx_ast.specs.Tree.{Tree, Row}
use Rattle.vx_ast.specs.View as view
use Rattle.vx_types.proofs.Leasts.{least_append}
use Rattle.vx_types.proofs.Rows.{row_count}
use Rattle.vx_types.proofs.statements.printing.Goals as goal

pub returns-clause-made : goal.returns-clause-made
returns-clause-made c =
    ap (λ (z : List ℕ). tree.Print z (view.row_in c.in_ok-row.row.items)) c.in_ok-format.ensures ∙ ap (λ (z : Tree Row). tree.Print c.args.format.now z) c.in_ok-row.ensures

pub returns-clause-faults : goal.returns-clause-faults
returns-clause-faults c =
    let told = prints c.args.place c.args.format_place c.args.format.now (row_length (row_in c.args.row.now)) in
    let more = row_faults c.args.names.now [] (row_in c.args.row.now) in
    c.note_row.ensures
    ∙ ap (λ (z : Option Fault). least z more) (c.note_format-before.ensures ∙ ap (λ (n : ℕ). least c.args.first.now (prints c.args.place c.args.format_place c.args.format.now n)) (sym (row_count c.args.row.now)))
    ∙ sym (least_append c.args.first.now told more)
