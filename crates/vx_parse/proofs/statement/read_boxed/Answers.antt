use Rattle.std.proofs.Common.{sym, ap, ◌∙◌}
use Rattle.vx_ast.specs.SyntaxView as view
use Rattle.vx_parse.proofs.statement.read_boxed.Goals as goal

pub returns-clause-ok : goal.returns-clause-ok
returns-clause-ok c =
    let a = c.in_ok-simple.ensures.ok in
    record { derivation = a.derivation; parted = a.parted; means = a.means ∙ ap view.action_of (sym c.in_ok-boxed.ensures.ok); further = a.further }

pub read_simple-requires-clause-within : goal.read_simple-requires-clause-within
read_simple-requires-clause-within c = c.requires.within
