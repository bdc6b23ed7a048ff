-- Each turn takes one line more.
use Rattle.std.proofs.Common.{arith}
use Rattle.std.proofs.lemmas.Bool.Decides.{nat_tests}
use Rattle.vx_reader.proofs.Taken.{count_done, count_more, lines_done, lines_more, room_more}
use Rattle.vx_reader.proofs.reader.read_lines.Goals as goal

pub lines-preserved : goal.lines-preserved
lines-preserved c =
    let rest = c.lines.rest.now in
    let line = c.next_line.result.0.now in
    let after = c.next_line.result.1.now in record {
      same = lines_more c.args.marks.now c.args.total c.lines.number c.lines.before rest _ c.lines.invariant.same line after c.in-Ok.next c.next_line.ensures.lines c.in-Ok.ensures;
      count = count_more c.lines.number _ rest line after c.lines.invariant.count c.next_line.ensures.lines;
      room = room_more c.lines.number _ rest after c.lines.invariant.room c.next_line.ensures.shorter;
    }

pub returns-clause-before : goal.returns-clause-before
returns-clause-before c = lines_done c.args.marks.now c.args.total c.lines.number c.lines.before c.lines.rest.now _ c.lines.invariant.same (grind (arith, nat_tests, c.is_empty.ensures, c.lines-test.false))

pub returns-clause-number : goal.returns-clause-number
returns-clause-number c = count_done c.lines.number _ c.lines.rest.now c.lines.invariant.count (grind (arith, nat_tests, c.is_empty.ensures, c.lines-test.false))
