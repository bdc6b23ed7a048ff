use Rattle.std.proofs.Common.{List, subst, sym}
use Rattle.vx_slots.specs.declared.program.FunctionPlaces.{FunctionPlaces}
use Rattle.vx_slots.specs.Seen.{seen}
use Rattle.vx_frame.proofs.Emitting.{Gives, gives_first, gives_turn}
use Rattle.vx_frame.proofs.pieces.push_functions.Goals as goal

-- no function so far
pub functions-init : goal.functions-init
functions-init c =
    let T = seen c.args.whole.now in
    let words = c.args.words.now in
    subst (λ (z : List FunctionPlaces). Gives T c.args.count words words z 0 c.args.count) (sym c.requires) (gives_first T c.args.count words)

-- one function more
pub functions-preserved : goal.functions-preserved
functions-preserved c = gives_turn (seen c.args.whole.now) c.args.count c.functions.function c.in_ok-function.function c.functions.left c.args.words.now c.functions.words c.push_function.new.words c.functions.places c.push.new.self c.in_ok-found.found c.functions.invariant c.functions-test.true c.in_ok-found.ensures.words c.in_ok-found.ensures.places c.in_ok-push.ensures.ok c.in_ok-function.ensures
