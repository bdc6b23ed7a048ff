use Rattle.std.proofs.Common.{◌≤◌, ◌<◌, length, arith}
use Rattle.vx_loops.proofs.Edges.{gains_past, gains_pushed}
use Rattle.vx_loops.proofs.loops.note.Goals as goal

pub returns-in_ok-push : goal.returns-in_ok-push
returns-in_ok-push c =
    let there : c.args.to < length c.args.sources.now.items = omega (arith, c.if-place-len.true, c.len.ensures, c.args.sources.now.ok.0) in
    gains_pushed c.args.sources.now.items c.args.to c.args.from c.index_mut-row.result.now c.push.new.self there c.index_mut-row.ensures.value c.in_ok-push.ensures.ok

pub returns-else-place-len : goal.returns-else-place-len
returns-else-place-len c =
    let past : length c.args.sources.now.items ≤ c.args.to = omega (arith, c.if-place-len.false, c.len.ensures, c.args.sources.now.ok.0) in
    gains_past c.args.sources.now.items c.args.to c.args.from past
