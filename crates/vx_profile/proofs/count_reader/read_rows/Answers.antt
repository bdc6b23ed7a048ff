use Rattle.std.proofs.Common.{Some, None, arith}
use Rattle.vx_profile.specs.Reading.{visit_of}
use Rattle.vx_profile.proofs.Progress.{nothing_so_far, one_more, spelled_at_end, bad_here, large_here, some_left, none_left, with_count}
use Rattle.vx_profile.proofs.count_reader.read_rows.Goals as goal

pub lines-init : goal.lines-init
lines-init c = record {
  so_far = nothing_so_far c.args.text.now c.new-counts.result c.new-counts.ensures;
  room = omega arith;
}

pub returns-in-None-clause-fault : goal.returns-in-None-clause-fault
returns-in-None-clause-fault c =
    let some = some_left c.lines.rest.now c.is_empty.result c.is_empty.ensures c.lines-test.true in
    λ _. bad_here c.args.text.now c.lines.rest.now c.lines.line c.lines.counts c.lines.invariant.so_far some c.in-None.ensures

pub returns-in-None-count-clause-fault : goal.returns-in-None-count-clause-fault
returns-in-None-count-clause-fault c =
    let some = some_left c.lines.rest.now c.is_empty.result c.is_empty.ensures c.lines-test.true in
    let v = visit_of c.in-Some.found.0 in
    let read = with_count c.lines.rest.now c.in-Some.found.2.now v c.in-Some.found.1 None c.in-Some.ensures c.in-None-count.is in
    λ _. large_here c.args.text.now c.lines.rest.now c.in-Some.found.2.now c.lines.line c.lines.counts v c.lines.invariant.so_far some read

pub lines-smaller : goal.lines-smaller
lines-smaller c =
    let v = visit_of c.in-Some.found.0 in
    let n = c.in-Some-count.count in
    let read = with_count c.lines.rest.now c.in-Some.found.2.now v c.in-Some.found.1 (Some n) c.in-Some.ensures c.in-Some-count.is in
    (one_more c.args.text.now c.lines.rest.now c.in-Some.found.2.now c.lines.line c.lines.counts c.put.new.counts v n c.lines.invariant.so_far read c.in_ok-put.ensures).shorter

pub lines-preserved : goal.lines-preserved
lines-preserved c =
    let v = visit_of c.in-Some.found.0 in
    let n = c.in-Some-count.count in
    let read = with_count c.lines.rest.now c.in-Some.found.2.now v c.in-Some.found.1 (Some n) c.in-Some.ensures c.in-Some-count.is in
    let more = one_more c.args.text.now c.lines.rest.now c.in-Some.found.2.now c.lines.line c.lines.counts c.put.new.counts v n c.lines.invariant.so_far read c.in_ok-put.ensures in
    let shorter = more.shorter in
    let room = c.lines.invariant.room in
    record {
      so_far = more.so_far;
      room = omega (arith, shorter, room);
    }

pub returns-clause-spelled : goal.returns-clause-spelled
returns-clause-spelled c =
    spelled_at_end c.args.text.now c.lines.rest.now c.lines.line c.lines.counts c.lines.invariant.so_far (none_left c.lines.rest.now c.is_empty.result c.is_empty.ensures c.lines-test.false)
