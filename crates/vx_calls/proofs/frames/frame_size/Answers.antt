use Rattle.std.proofs.Common.{◌≤◌, arith}
use Rattle.vx_calls.proofs.FrameLists.{frame_most, frame_within, greater_is, greater_within}
use Rattle.vx_calls.proofs.frames.frame_size.Goals as goal

pub loop-frame-preserved : goal.loop-frame-preserved
loop-frame-preserved c =
    let frames = c.args.frames.now in
    let i = c.loop-frame.frame-index in
    let most = c.loop-frame.most in
    let x = c.frame-item.result in
    let m = c.max-most.result in
    let h = c.loop-frame.invariant in
    let g = greater_is most x.words m c.max-most.ensures in
    record {
      some = (let a = h.some in let b : most ≤ m = g.left in omega (arith, a, b));
      most = frame_most frames i x c.loop-frame-test.true c.frame-item.is most m g.left g.right h.most;
      least = λ n some all. greater_within most x.words m n g (h.least n some all) (frame_within frames i x c.loop-frame-test.true c.frame-item.is n all);
    }
