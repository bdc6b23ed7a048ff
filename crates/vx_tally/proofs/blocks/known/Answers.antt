use Rattle.std.proofs.Common.{◌≡◌, ◌∙◌, ◌++◌, ◌∷◌, [], ap, of_z, rules, to_z, w32}
use Rattle.vx_tally.specs.Storage.{state_of}
use Rattle.vx_tally.proofs.Turns.{known_all, known_none, known_turn}
use Rattle.vx_tally.proofs.blocks.known.Goals as goal

pub loop-operand-preserved : goal.loop-operand-preserved
loop-operand-preserved c =
    let n = c.in-Some.number in
    let same : to_z w32 (of_z w32 n) ≡ n = search rules in
    known_turn (state_of c.args.storage.now) c.args.operands.now c.loop-operand.operand-index _ c.held.result n c.loop-operand.numbers c.push.new.self _ c.loop-operand-test.true c.loop-operand.invariant c.held.ensures c.in-Some.is (c.in_ok-push-in-Some.ensures.ok ∙ ap (λ k. c.loop-operand.numbers ++ k ∷ []) same)

pub returns : goal.returns
returns c = known_all (state_of c.args.storage.now) c.args.operands.now c.loop-operand.operand-index c.loop-operand.numbers _ c.loop-operand-test.false c.loop-operand.invariant

pub returns-in-None : goal.returns-in-None
returns-in-None c = known_none (state_of c.args.storage.now) c.args.operands.now c.loop-operand.operand-index _ c.held.result c.loop-operand.numbers _ c.loop-operand-test.true c.loop-operand.invariant c.held.ensures c.in-None.is
