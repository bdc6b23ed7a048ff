use Rattle.std.proofs.Common.{inr, ap, sym, ◌∙◌, Option}
use Rattle.std.specs.Prelude.{option_map}
use Rattle.vx_ast.specs.Accepted.{limit_of}
use Rattle.vx_ast.specs.Reads.{faulty, over}
use Rattle.vx_ast.specs.declared.tree.Program.{Program}
use Rattle.vx_ast.specs.Tree as tree
use Rattle.vx_ast.specs.SyntaxView.{program_of}
use Rattle.vx_ast.specs.View as view
use Rattle.vx_limits.specs.declared.limits.Over.{Over}
use Rattle.vx_limits.specs.Capped.{over_is}
use Rattle.vx_types.proofs.SuitsProgram.{accepts}
use Rattle.vx_types.proofs.checker.check.Goals as goal

pub returns-in-Some-clause-refused : goal.returns-in-Some-clause-refused
returns-in-Some-clause-refused c = inr (faulty c.in-Some.fault (sym c.in_ok-found.ensures.fault ∙ c.in-Some.is))

pub returns-in-Some-over-clause-refused : goal.returns-in-Some-over-clause-refused
returns-in-Some-over-clause-refused c =
    inr (over (over_is c.in-Some-over.over) (sym c.in_ok-found.ensures.fault ∙ c.in-None.is)
    (sym (ap (λ (z : tree.Program). limit_of z) c.in_ok-found.ensures.program) ∙ sym c.in_ok-over.ensures.limit ∙ ap (λ (o : Option Over). option_map over_is o) c.in-Some-over.is))

pub make-requires : goal.make-requires
make-requires c =
    accepts (program_of c.args.program) (view.program_of c.in_ok-found.found.program) c.in_ok-found.ensures.program (sym c.in_ok-found.ensures.fault ∙ c.in-None.is)
    (sym c.in_ok-over.ensures.limit ∙ ap (λ (o : Option Over). option_map over_is o) c.in-None-over.is) (c.in_ok-over.ensures.words c.in-None-over.is)

pub returns-clause-program : goal.returns-clause-program
returns-clause-program c = ap (λ (z : Program). view.program_of z) c.make.ensures ∙ c.in_ok-found.ensures.program
