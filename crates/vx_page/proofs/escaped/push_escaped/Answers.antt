-- Each turn puts one byte more.
use Rattle.vx_page.specs.Escaped.{escaped}
use Rattle.vx_page.proofs.Pieces.{piece_more, pieces_all}
use Rattle.vx_page.proofs.escaped.push_escaped.Goals as goal

pub loop-byte-preserved : goal.loop-byte-preserved
loop-byte-preserved c = piece_more escaped c.args.out.now.items c.loop-byte.out.items c.args.bytes.now c.loop-byte.byte-index c.push_escaped_byte.new.out.items _ c.loop-byte.invariant c.in_ok-push_escaped_byte.ensures c.loop-byte-test.true

pub returns : goal.returns
returns c = pieces_all escaped c.args.out.now.items c.loop-byte.out.items c.args.bytes.now c.loop-byte.byte-index c.loop-byte.invariant c.loop-byte-test.false
