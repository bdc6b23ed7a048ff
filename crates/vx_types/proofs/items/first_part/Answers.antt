use Rattle.std.proofs.Common.{false, List, ap, sym, ◌∙◌}
use Rattle.vx_ast.specs.declared.syntax.First.{First}
use Rattle.vx_ast.specs.declared.syntax.Item.{Item}
use Rattle.vx_ast.specs.declared.tree.Gives.TheVariants.{Int}
use Rattle.vx_ast.specs.Faults.{code_faults, least}
use Rattle.vx_ast.specs.Resolved.{code_in}
use Rattle.vx_ast.specs.Scopes.{behind}
use Rattle.vx_ast.specs.SyntaxView.{first_of, items_of}
use Rattle.vx_ast.specs.Tree as tree
use Rattle.vx_types.proofs.items.first_part.Goals as goal

pub returns-in-Nothing-clause-made : goal.returns-in-Nothing-clause-made
returns-in-Nothing-clause-made c = ap (λ (z : First). code_in c.args.names.now (first_of z)) (sym c.in-Nothing.is)

pub returns-in_ok-simple-in-Simple-clause-made : goal.returns-in_ok-simple-in-Simple-clause-made
returns-in_ok-simple-in-Simple-clause-made c =
    ap (λ (z : tree.Action). tree.Head z) c.in_ok-simple-in-Simple.ensures ∙ ap (λ (z : First). code_in c.args.names.now (first_of z)) (sym c.in-Simple.is)

pub returns-in_ok-made-in-Items-clause-made : goal.returns-in_ok-made-in-Items-clause-made
returns-in_ok-made-in-Items-clause-made c =
    c.in_ok-made-in-Items.ensures.made ∙ ap (λ (z : List Item). code_in c.args.names.now (items_of z)) c.as_slice.ensures.value ∙ ap (λ (z : First). code_in c.args.names.now (first_of z)) (sym c.in-Items.is)

pub returns-in_ok-made-in-Items-clause-known : goal.returns-in_ok-made-in-Items-clause-known
returns-in_ok-made-in-Items-clause-known c =
    c.in_ok-made-in-Items.ensures.known ∙ ap (λ (z : List Item). behind (items_of z) c.args.names.now) c.as_slice.ensures.value ∙ ap (λ (z : First). behind (first_of z) c.args.names.now) (sym c.in-Items.is)

pub returns-in_ok-made-in-Items-clause-faults : goal.returns-in_ok-made-in-Items-clause-faults
returns-in_ok-made-in-Items-clause-faults c =
    c.in_ok-made-in-Items.ensures.faults ∙ ap (λ (z : List Item). least c.args.first.now (code_faults Int false c.args.names.now (items_of z))) c.as_slice.ensures.value
    ∙ ap (λ (z : First). least c.args.first.now (code_faults Int false c.args.names.now (first_of z))) (sym c.in-Items.is)

pub returns-in_ok-simple-in-Simple-clause-known : goal.returns-in_ok-simple-in-Simple-clause-known
returns-in_ok-simple-in-Simple-clause-known c = ap (λ (z : First). behind (first_of z) c.args.names.now) (sym c.in-Simple.is)

pub returns-in_ok-simple-in-Simple-clause-faults : goal.returns-in_ok-simple-in-Simple-clause-faults
returns-in_ok-simple-in-Simple-clause-faults c = c.note_simple.ensures ∙ ap (λ (z : First). least c.args.first.now (code_faults Int false c.args.names.now (first_of z))) (sym c.in-Simple.is)
