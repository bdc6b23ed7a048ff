use Rattle.vx_calls.proofs.Offsets.{stood}
use Rattle.vx_calls.proofs.frames.standing.Goals as goal

pub returns : goal.returns
returns c =
    let graph = c.args.graph.now in
    stood graph.parameters c.args.map.now c.args.saved.now graph.arrays c.as_slice-3.result.now c.args.addresses.now c.in_ok-marks.marks.items c.as_slice-2.result.now c.as_slice.result.now c.as_slice-kept.result.now c.in_ok-slots.slots.words c.in_ok-arrays.arrays.words c.in_ok-slots.slots.next c.in_ok-arrays.arrays.next
    c.as_slice.ensures c.as_slice-kept.ensures c.as_slice-2.ensures.value c.as_slice-3.ensures c.in_ok-marks.ensures c.in_ok-slots.ensures.words c.in_ok-slots.ensures.next c.in_ok-arrays.ensures.words c.in_ok-arrays.ensures.next
