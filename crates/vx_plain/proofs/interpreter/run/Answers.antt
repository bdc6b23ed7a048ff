use Rattle.std.proofs.Common.{[], refl, ap, sym, rules, w32, FitsSigned}
use Rattle.std.proofs.lemmas.Int.{to_z-of_z}
use Rattle.vx_ast.specs.Meaning.{deepest, outcome_of}
use Rattle.vx_plain.proofs.InterpreterSteps.{trap_is, bound_is}
use Rattle.vx_plain.proofs.interpreter.run.Goals as goal

pub returns-in-Ok : goal.returns-in-Ok
unfolding deepest
returns-in-Ok c =
    let f : FitsSigned w32 c.in-Ok.result = search rules in
    rw (to_z-of_z w32 c.in-Ok.result f) (sym (ap outcome_of (c.in-Ok.ensures [] (sym c.new.ensures.items) refl).is))

pub returns-in-Err-Trap : goal.returns-in-Err-Trap
unfolding deepest
returns-in-Err-Trap c = sym (trap_is c.in-Err-Trap.field-0 c.in-Err-Trap.trap _ _ (c.in-Err-Trap.ensures [] (sym c.new.ensures.items) refl) (cc))

pub returns-in-Err-Bound : goal.returns-in-Err-Bound
unfolding deepest
returns-in-Err-Bound c = sym (bound_is c.in-Err-Bound.field-0 _ _ (c.in-Err-Bound.ensures [] (sym c.new.ensures.items) refl) (cc))
