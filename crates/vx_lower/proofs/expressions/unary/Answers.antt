use Rattle.std.proofs.Common.{sym, subst}
use Rattle.std.proofs.lemmas.Result.{IfOk-weaker}
use Rattle.vx_lower.specs.Adds.{Last}
use Rattle.vx_lower.specs.Builds.{Ready}
use Rattle.vx_lower.specs.Emits.{Lasts}
use Rattle.vx_lower.specs.Holds.{unary_op}
use Rattle.vx_lower.proofs.expressions.unary.Goals as goal

pub returns-in-Minus-clause-code : goal.returns-in-Minus-clause-code
returns-in-Minus-clause-code c = IfOk-weaker c.compute.result _ _ (λ t. subst (λ z. Ready c.args.b.now → Lasts (unary_op z t c.args.o) c.args.dest t c.args.b.now c.compute.new.b) (sym c.in-Minus.is)) c.compute.ensures.code

pub returns-in-Minus-clause-steps : goal.returns-in-Minus-clause-steps
returns-in-Minus-clause-steps c = IfOk-weaker c.compute.result _ _ (λ t. subst (λ z. Last (unary_op z t c.args.o) c.args.dest t c.args.b.now c.compute.new.b) (sym c.in-Minus.is)) c.compute.ensures.steps

pub returns-in-Plus-clause-code : goal.returns-in-Plus-clause-code
returns-in-Plus-clause-code c = IfOk-weaker c.compute-in-Plus.result _ _ (λ t. subst (λ z. Ready c.args.b.now → Lasts (unary_op z t c.args.o) c.args.dest t c.args.b.now c.compute-in-Plus.new.b) (sym c.in-Plus.is)) c.compute-in-Plus.ensures.code

pub returns-in-Plus-clause-steps : goal.returns-in-Plus-clause-steps
returns-in-Plus-clause-steps c = IfOk-weaker c.compute-in-Plus.result _ _ (λ t. subst (λ z. Last (unary_op z t c.args.o) c.args.dest t c.args.b.now c.compute-in-Plus.new.b) (sym c.in-Plus.is)) c.compute-in-Plus.ensures.steps

pub returns-in-Not-clause-code : goal.returns-in-Not-clause-code
returns-in-Not-clause-code c = IfOk-weaker c.compute-in-Not.result _ _ (λ t. subst (λ z. Ready c.args.b.now → Lasts (unary_op z t c.args.o) c.args.dest t c.args.b.now c.compute-in-Not.new.b) (sym c.in-Not.is)) c.compute-in-Not.ensures.code

pub returns-in-Not-clause-steps : goal.returns-in-Not-clause-steps
returns-in-Not-clause-steps c = IfOk-weaker c.compute-in-Not.result _ _ (λ t. subst (λ z. Last (unary_op z t c.args.o) c.args.dest t c.args.b.now c.compute-in-Not.new.b) (sym c.in-Not.is)) c.compute-in-Not.ensures.steps

pub returns-in-Complement-clause-code : goal.returns-in-Complement-clause-code
returns-in-Complement-clause-code c = IfOk-weaker c.compute-in-Complement.result _ _ (λ t. subst (λ z. Ready c.args.b.now → Lasts (unary_op z t c.args.o) c.args.dest t c.args.b.now c.compute-in-Complement.new.b) (sym c.in-Complement.is)) c.compute-in-Complement.ensures.code

pub returns-in-Complement-clause-steps : goal.returns-in-Complement-clause-steps
returns-in-Complement-clause-steps c = IfOk-weaker c.compute-in-Complement.result _ _ (λ t. subst (λ z. Last (unary_op z t c.args.o) c.args.dest t c.args.b.now c.compute-in-Complement.new.b) (sym c.in-Complement.is)) c.compute-in-Complement.ensures.steps
