use Rattle.std.proofs.Common.{sym, subst}
use Rattle.vx_flow.specs.declared.graph.Operand.TheVariants.{Held}
use Rattle.vx_lower.specs.Builds.{Ready}
use Rattle.vx_lower.specs.Emits.{Delivers}
use Rattle.vx_lower.proofs.PieceMaking.{delivers_moved}
use Rattle.vx_lower.proofs.pieces.deliver.Goals as goal

pub returns-in_ok-put-in-Some-clause-code : goal.returns-in_ok-put-in-Some-clause-code
returns-in_ok-put-in-Some-clause-code c = subst (λ d. Ready c.args.b.now → Delivers d c.args.from (Held c.in-Some.to) c.args.b.now c.put.new.self) (sym c.in-Some.is) (delivers_moved c.in-Some.to c.args.from c.args.b.now c.put.new.self c.in_ok-put-in-Some.ensures.code)
