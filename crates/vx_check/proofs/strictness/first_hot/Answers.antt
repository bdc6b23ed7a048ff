use Rattle.std.proofs.Common.{refl, arith}
use Rattle.vx_check.specs.InFlight.{IsHot}
use Rattle.vx_check.proofs.Passing.{one_more}
use Rattle.vx_check.proofs.Reaches.{there_word}
use Rattle.vx_check.proofs.strictness.first_hot.Goals as goal

pub places-preserved : goal.places-preserved
places-preserved c = one_more (IsHot c.args.program.now c.args.flights.now.at.items c.args.flights.now.anywhere) c.places.place c.places.invariant (c.if-is_hot_at.ensures.cold refl)

pub returns : goal.returns
returns c = λ q hot.
    let few = there_word c.args.program.now.words q hot.1.0 hot.1.1 in
    let len = c.len-place-end.ensures.len in
    let over = c.places-test.false in
    c.places.invariant q (omega arith) hot
