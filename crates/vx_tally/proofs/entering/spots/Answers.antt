use Rattle.std.proofs.Common.{◌∙◌, ap, sym}
use Rattle.vx_flow.specs.Meaning.{spots_held}
use Rattle.vx_tally.specs.Storage.{value_at}
use Rattle.vx_tally.proofs.Passing.{spots_end, spots_stop, spots_turn}
use Rattle.vx_tally.proofs.entering.spots.Goals as goal

pub loop-array-preserved : goal.loop-array-preserved
loop-array-preserved c =
    spots_turn c.args.count (value_at c.args.values.now) c.based-arrays.result.now c.loop-array.array-index _ c.in-Some.spot c.loop-array.spots.items c.push.new.self.items _ c.loop-array-test.true c.loop-array.invariant (sym c.entry.ensures ∙ c.in-Some.is) c.in_ok-push-in-Some.ensures.items

pub returns : goal.returns
returns c =
    let f = value_at c.args.values.now in
    ap (spots_held c.args.count f) (sym c.based-arrays.ensures) ∙ spots_end c.args.count f c.based-arrays.result.now c.loop-array.array-index c.loop-array.spots.items _ c.loop-array-test.false c.loop-array.invariant

pub returns-in-None : goal.returns-in-None
returns-in-None c =
    let f = value_at c.args.values.now in
    ap (spots_held c.args.count f) (sym c.based-arrays.ensures) ∙ spots_stop c.args.count f c.based-arrays.result.now c.loop-array.array-index _ c.loop-array.spots.items _ c.loop-array-test.true c.loop-array.invariant (sym c.entry.ensures ∙ c.in-None.is)
