use Rattle.std.proofs.Common.{◌≤◌, length, arith}
use Rattle.vx_select.specs.Known.{told}
use Rattle.vx_select.proofs.Finding.{first_found, first_none, first_ended}
use Rattle.vx_select.proofs.search.first.Goals as goal

pub returns-in-Some : goal.returns-in-Some
returns-in-Some c = first_found (told c.args.known.now) c.args.most c.args.graph.now c.loop-block.block c.in_ok-corners.field-0 c.loop-block.invariant c.in_ok-corners.ensures c.in-Some.corners c.in-Some.is

pub loop-block-preserved : goal.loop-block-preserved
loop-block-preserved c = first_none (told c.args.known.now) c.args.most c.args.graph.now c.loop-block.block c.in_ok-corners.field-0 c.loop-block.invariant c.in_ok-corners.ensures c.in-None.is

pub returns : goal.returns
returns c =
    let h : length c.args.graph.now.blocks ≤ c.loop-block.block = (let a = c.loop-block-test.false in let b = c.len-block-end.ensures.len in omega arith) in
    first_ended (told c.args.known.now) c.args.most c.args.graph.now c.loop-block.block h c.loop-block.invariant
