-- A line that ends a word.
use Rattle.std.proofs.Common.{◌∙◌, sym}
use Rattle.vx_reader.proofs.Taken.{room_more, words_more}
use Rattle.vx_reader.proofs.reader.count_words.Goals as goal

pub lines-preserved-then-is_same : goal.lines-preserved-then-is_same
lines-preserved-then-is_same c =
    let rest = c.lines.rest.now in
    let after = c.next_line.result.1.now in record {
      counts = words_more c.lines.count _ rest c.next_line.result.0.now after c.lines.invariant.counts c.next_line.ensures.lines (sym c.is_same.ensures ∙ c.if-is_same.true);
      room = room_more c.lines.count _ rest after c.lines.invariant.room c.next_line.ensures.shorter;
    }
