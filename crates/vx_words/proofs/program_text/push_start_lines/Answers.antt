-- Each turn puts one line more.
use Rattle.std.proofs.Common.{codes}
use Rattle.vx_words.specs.Spelling.{start_line}
use Rattle.vx_words.proofs.Pieces.{piece_more, pieces_all, two_put}
use Rattle.vx_words.proofs.program_text.push_start_lines.Goals as goal

pub loop-entry-preserved : goal.loop-entry-preserved
loop-entry-preserved c =
    let out = c.loop-entry.out.items in
    let put = two_put out _ _ _ (codes "\n") c.in_ok-push_start.ensures c.in_ok-push_bytes.ensures in
    piece_more start_line c.args.out.now.items out c.args.start.now c.loop-entry.entry-index c.push_bytes.new.out.items _ c.loop-entry.invariant put c.loop-entry-test.true

pub returns : goal.returns
returns c = pieces_all start_line c.args.out.now.items c.loop-entry.out.items c.args.start.now c.loop-entry.entry-index c.loop-entry.invariant c.loop-entry-test.false
