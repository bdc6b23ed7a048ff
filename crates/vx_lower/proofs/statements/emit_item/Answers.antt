use Rattle.std.proofs.Common.{ap, sym}
use Rattle.std.proofs.lemmas.Result.{on_ok_weaker}
use Rattle.vx_ast.specs.Tree.{Clear, Declare, ClearArray}
use Rattle.vx_ast.specs.View.{item_of, tree_of}
use Rattle.vx_lower.proofs.StatementMaking.{plain_as, plain_clear, plain_declare}
use Rattle.vx_lower.proofs.FittingStatements.{plain_clear_well, plain_declare_well, plain_well_as}
use Rattle.vx_lower.proofs.statements.emit_item.Goals as goal

pub returns-in_ok-clear-in-Scalar-clause-code : goal.returns-in_ok-clear-in-Scalar-clause-code
returns-in_ok-clear-in-Scalar-clause-code c = plain_as c.args.words.now c.args.b.now c.clear.new.b (Clear c.in-Scalar.x) (item_of c.args.item.now) (ap item_of (sym c.in-Scalar.is)) (plain_clear c.args.words.now c.in-Scalar.x c.in_ok-clear-in-Scalar.field-0 c.args.b.now c.clear.new.b c.in_ok-clear-in-Scalar.ensures.code)

pub returns-in_ok-clear-in-Scalar-clause-fits : goal.returns-in_ok-clear-in-Scalar-clause-fits
returns-in_ok-clear-in-Scalar-clause-fits c = plain_well_as c.args.b.now c.clear.new.b (Clear c.in-Scalar.x) (item_of c.args.item.now) (ap item_of (sym c.in-Scalar.is)) (plain_clear_well c.in-Scalar.x c.in_ok-clear-in-Scalar.field-0 c.args.b.now c.clear.new.b c.in_ok-clear-in-Scalar.ensures.steps)

pub returns-in_ok-emit_value-in-ScalarWith-clause-code : goal.returns-in_ok-emit_value-in-ScalarWith-clause-code
returns-in_ok-emit_value-in-ScalarWith-clause-code c = plain_as c.args.words.now c.args.b.now c.emit_value.new.b (Declare c.in-ScalarWith.x (tree_of c.in-ScalarWith.e)) (item_of c.args.item.now) (ap item_of (sym c.in-ScalarWith.is)) (plain_declare c.args.words.now c.in-ScalarWith.x (tree_of c.in-ScalarWith.e) c.in_ok-emit_value-in-ScalarWith.field-0 c.args.b.now c.emit_value.new.b c.in_ok-emit_value-in-ScalarWith.ensures.code)

pub returns-in_ok-emit_value-in-ScalarWith-clause-fits : goal.returns-in_ok-emit_value-in-ScalarWith-clause-fits
returns-in_ok-emit_value-in-ScalarWith-clause-fits c = plain_well_as c.args.b.now c.emit_value.new.b (Declare c.in-ScalarWith.x (tree_of c.in-ScalarWith.e)) (item_of c.args.item.now) (ap item_of (sym c.in-ScalarWith.is)) (plain_declare_well c.in-ScalarWith.x (tree_of c.in-ScalarWith.e) c.in_ok-emit_value-in-ScalarWith.field-0 c.args.b.now c.emit_value.new.b c.in_ok-emit_value-in-ScalarWith.ensures.fits)

pub returns-in-Array-clause-code : goal.returns-in-Array-clause-code
returns-in-Array-clause-code c = on_ok_weaker c.clear_array.result (plain_as c.args.words.now c.args.b.now c.clear_array.new.b (ClearArray c.in-Array.array) (item_of c.args.item.now) (ap item_of (sym c.in-Array.is))) c.clear_array.ensures.code

pub returns-in-Array-clause-fits : goal.returns-in-Array-clause-fits
returns-in-Array-clause-fits c = on_ok_weaker c.clear_array.result (plain_well_as c.args.b.now c.clear_array.new.b (ClearArray c.in-Array.array) (item_of c.args.item.now) (ap item_of (sym c.in-Array.is))) c.clear_array.ensures.fits
