use Rattle.std.proofs.Common.{◌≡◌, length, arith}
use Rattle.vx_inline.proofs.KnownStays.{apart_last}
use Rattle.vx_inline.proofs.known.apart_by.Goals as goal

pub returns : goal.returns
returns c =
    let count : c.args.count ≡ length c.args.flow.now.functions = c.requires.count in
    let all : c.loop-function.function ≡ length c.args.flow.now.functions = omega (arith, count, c.loop-function-test.false, c.loop-function.auto.function-end) in
    apart_last c.args.flow.now c.loop-function.apart.items c.loop-function.function c.loop-function.invariant all
