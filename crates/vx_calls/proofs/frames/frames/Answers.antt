use Rattle.std.proofs.Common.{◌<◌, [], ◌∷◌, length, ap, arith, length-append}
use Rattle.vx_calls.proofs.FrameLists.{frames_more}
use Rattle.vx_calls.proofs.frames.frames.Goals as goal

pub loop-function-preserved : goal.loop-function-preserved
loop-function-preserved c =
    let n = c.loop-function.function in
    let e = c.loop-function.invariant.each in
    let a : n < length c.args.graphs.now = omega arith in
    let b : n < length c.args.layouts.now = omega (arith, c.requires.layouts) in
    let d : n < length c.args.maps.now = omega (arith, c.requires.maps) in
    record {
      each = (let q = ap length c.in_ok-push.ensures.ok in let r = length-append c.loop-function.frames (c.in_ok-frame_of.field-0 ∷ []) in omega arith);
      stand = frames_more c.args.graphs.now c.args.layouts.now c.args.maps.now c.args.addresses.now c.loop-function.frames c.push.new.self n c.index-graphs-function.result c.index-layouts-function.result c.index-maps-function.result c.in_ok-frame_of.field-0 a b d c.index-graphs-function.is c.index-layouts-function.is c.index-maps-function.is e c.loop-function.invariant.stand c.in_ok-frame_of.ensures c.in_ok-push.ensures.ok;
    }
