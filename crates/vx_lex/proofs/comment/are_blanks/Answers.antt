use Rattle.std.proofs.Common.{sym, ◌∙◌}
use Rattle.vx_ast.specs.Tokens.{is_blank}
use Rattle.vx_lex.proofs.Lengths.{all_more, all_not, all_whole}
use Rattle.vx_lex.proofs.comment.are_blanks.Goals as goal

pub returns-then-not-is_blank : goal.returns-then-not-is_blank
returns-then-not-is_blank c = all_not is_blank c.args.text.now c.loop-byte.byte-index c.loop-byte-test.true (sym c.is_blank.ensures ∙ c.if-not-is_blank.true)

pub loop-byte-preserved : goal.loop-byte-preserved
loop-byte-preserved c = all_more is_blank c.args.text.now c.loop-byte.byte-index c.loop-byte-test.true c.loop-byte.invariant (sym c.is_blank.ensures ∙ c.if-not-is_blank.false)

pub returns : goal.returns
returns c = all_whole is_blank c.args.text.now c.loop-byte.byte-index c.loop-byte-test.false c.loop-byte.invariant
