use Rattle.std.proofs.Common.{drop, ◌+◌, ◌*◌}
use Rattle.vx_ast.specs.SyntaxView.{code_of, all_in}
use Rattle.vx_types.proofs.Lists.{ListSo}
use Rattle.vx_types.proofs.Weights.{code_weight}
use Rattle.vx_types.proofs.statements.+statements.Given as goal

abbrev pub invariant-statements-loop-one : goal.invariant-statements-loop-one
invariant-statements-loop-one l = ListSo l.fn.gives l.fn.loops l.made.items l.names l.first (drop l.one-index l.fn.all) l.fn.names l.fn.first l.fn.all

abbrev pub decreases-statement : goal.decreases-statement
decreases-statement l = 8 * code_weight (code_of l.statement.now)

abbrev pub decreases-held : goal.decreases-held
decreases-held l = 8 * code_weight (code_of l.written.now) + 1

abbrev pub decreases-alone : goal.decreases-alone
decreases-alone l = 8 * code_weight (code_of l.branch.now) + 2

abbrev pub decreases-test_and_body : goal.decreases-test_and_body
decreases-test_and_body l = 8 * code_weight (code_of l.body.now) + 3

abbrev pub decreases-otherwise : goal.decreases-otherwise
decreases-otherwise l = 8 * code_weight (code_of l.branch.now) + 3

abbrev pub decreases-parts_of_for : goal.decreases-parts_of_for
decreases-parts_of_for l = 8 * code_weight (code_of l.body.now) + 3

abbrev pub decreases-repeated : goal.decreases-repeated
decreases-repeated l = 8 * code_weight (code_of l.body.now) + 4

abbrev pub decreases-block : goal.decreases-block
decreases-block l = 8 * code_weight (all_in l.all.now) + 2

abbrev pub decreases-statements : goal.decreases-statements
decreases-statements l = 8 * code_weight (all_in l.all.now) + 1
