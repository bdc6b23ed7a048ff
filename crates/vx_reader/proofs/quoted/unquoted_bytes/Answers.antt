-- Each turn takes one byte more.
use Rattle.std.proofs.Common.{get_or, subst, sym}
use Rattle.vx_reader.specs.Steps.{IsDigitValue}
use Rattle.vx_reader.proofs.Taken.{digit_next, unquoted_all, unquoted_more}
use Rattle.vx_reader.proofs.quoted.unquoted_bytes.Goals as goal

pub loop-byte-preserved : goal.loop-byte-preserved
loop-byte-preserved c =
    let text = c.args.text.now in
    let i = c.loop-byte.byte-index in record {
      digit = subst IsDigitValue (sym c.next-escape.ensures) (digit_next c.loop-byte.escape (get_or text i 0));
      rest = unquoted_more text c.loop-byte.out.items c.loop-byte.escape i _ c.loop-byte.invariant.rest c.next-escape.result c.push_complete.new.out.items c.next-escape.ensures c.in_ok-push_complete.ensures c.loop-byte-test.true;
    }

pub returns : goal.returns
returns c = unquoted_all c.args.text.now c.loop-byte.out.items c.loop-byte.escape c.loop-byte.byte-index _ c.loop-byte.invariant.rest c.loop-byte-test.false
