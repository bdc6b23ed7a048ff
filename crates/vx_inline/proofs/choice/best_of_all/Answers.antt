use Rattle.std.proofs.Common.{◌≡◌, length, arith}
use Rattle.vx_inline.proofs.Firsts.{chosen_last}
use Rattle.vx_inline.proofs.choice.best_of_all.Goals as goal

pub returns : goal.returns
returns c =
    let flow = c.args.asked.now.flow.now in
    let count : c.args.functions ≡ length flow.functions = c.requires.functions in
    let all : c.loop-function.function ≡ length flow.functions = omega (arith, count, c.loop-function-test.false, c.loop-function.auto.function-end) in
    chosen_last flow c.args.asked.now.counts.now c.args.asked.now.most c.loop-function.function c.loop-function.best all c.loop-function.invariant
