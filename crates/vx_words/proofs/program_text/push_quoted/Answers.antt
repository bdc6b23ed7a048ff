-- Each turn puts the text of one byte more, and the quote stands behind them all.
use Rattle.std.proofs.Common.{◌++◌, codes}
use Rattle.vx_words.specs.Spelling.{byte_text}
use Rattle.vx_words.proofs.Pieces.{piece_more, quoted_all}
use Rattle.vx_words.proofs.program_text.push_quoted.Goals as goal

pub loop-byte-preserved : goal.loop-byte-preserved
loop-byte-preserved c =
    piece_more byte_text (c.args.out.now.items ++ codes ".text \"") c.loop-byte.out.items c.args.bytes.now c.loop-byte.byte-index c.push_byte.new.out.items _ c.loop-byte.invariant c.in_ok-push_byte.ensures c.loop-byte-test.true

pub returns : goal.returns
returns c = quoted_all c.args.out.now.items c.loop-byte.out.items _ c.args.bytes.now c.loop-byte.byte-index c.push_bytes-2.result c.loop-byte.invariant c.loop-byte-test.false c.push_bytes-2.ensures
