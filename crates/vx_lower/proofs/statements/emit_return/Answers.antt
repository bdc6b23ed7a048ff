use Rattle.std.proofs.lemmas.Result.{on_ok_weaker}
use Rattle.vx_ast.specs.View.{tree_of}
use Rattle.vx_lower.proofs.StatementMaking.{makes_value}
use Rattle.vx_lower.proofs.FittingStatements.{value_well}
use Rattle.vx_lower.proofs.statements.emit_return.Goals as goal

pub returns-clause-code : goal.returns-clause-code
returns-clause-code c = on_ok_weaker c.end_with.result (λ h leaves again texts. makes_value c.args.words.now leaves again (tree_of c.args.e.now) c.in_ok-value.value c.args.b.now c.emit_value.new.b c.end_with.new.b texts c.in_ok-value.ensures.code h) c.end_with.ensures

pub returns-clause-fits : goal.returns-clause-fits
returns-clause-fits c = on_ok_weaker c.end_with.result (λ h leaves again texts. value_well leaves again (tree_of c.args.e.now) c.in_ok-value.value c.args.b.now c.emit_value.new.b c.end_with.new.b texts c.in_ok-value.ensures.fits h) c.end_with.ensures
