use Rattle.vx_lower.proofs.PrintMaking.{byte_decimal, byte_escaped, byte_read, percent_read}
use Rattle.vx_lower.proofs.FittingStatements.{shows_all, shows_nothing, shows_on}
use Rattle.vx_lower.proofs.prints.show_byte.Goals as goal

pub returns-in_ok-format-clause-code : goal.returns-in_ok-format-clause-code
returns-in_ok-format-clause-code c = λ r bs. byte_decimal c.args.format.now c.show_text.new.format c.in_ok-format.field-0 c.args.byte bs c.args.arguments.now c.args.b.now c.show_text.new.b c.show_number.new.b c.args.texts.now c.show_text.new.texts c.if-format.true c.if-byte-eq-DECIMAL.true c.in_ok-show_text.ensures.code.0 c.in_ok-show_text.ensures.code.1 c.in_ok-format.ensures.code r

pub returns-in_ok-format-clause-fits : goal.returns-in_ok-format-clause-fits
returns-in_ok-format-clause-fits c = shows_on c.args.arguments.now c.args.b.now c.show_text.new.b c.show_number.new.b c.args.texts.now c.show_text.new.texts c.show_text.new.texts (shows_all c.args.arguments.now c.args.b.now c.show_text.new.b c.args.texts.now c.show_text.new.texts c.in_ok-show_text.ensures.fits) (c.in_ok-format.ensures.fits c.show_text.new.texts)

pub returns-in_ok-push-2-clause-fits : goal.returns-in_ok-push-2-clause-fits
returns-in_ok-push-2-clause-fits c = shows_nothing c.args.arguments.now c.args.b.now c.args.texts.now

pub returns-in_ok-push-2-clause-code : goal.returns-in_ok-push-2-clause-code
returns-in_ok-push-2-clause-code c = λ r bs. byte_read c.args.format.now c.push-else-byte-eq-PERCENT.new.self c.args.byte bs c.args.arguments.now c.args.b.now c.args.texts.now c.if-format.false c.if-byte-eq-PERCENT.false c.in_ok-push-2.ensures.ok r

pub returns-in_ok-push-clause-code : goal.returns-in_ok-push-clause-code
returns-in_ok-push-clause-code c = λ r bs. byte_escaped c.args.format.now c.push.new.self c.args.byte bs c.args.arguments.now c.args.b.now c.args.texts.now c.if-format.true c.if-byte-eq-DECIMAL.false c.in_ok-push.ensures.ok r

pub returns-in_ok-push-clause-fits : goal.returns-in_ok-push-clause-fits
returns-in_ok-push-clause-fits c = shows_nothing c.args.arguments.now c.args.b.now c.args.texts.now

pub returns-then-byte-eq-PERCENT-clause-code : goal.returns-then-byte-eq-PERCENT-clause-code
returns-then-byte-eq-PERCENT-clause-code c = λ r bs. percent_read c.args.format.now c.args.byte bs c.args.arguments.now c.args.b.now c.args.texts.now c.if-format.false c.if-byte-eq-PERCENT.true r

pub returns-then-byte-eq-PERCENT-clause-fits : goal.returns-then-byte-eq-PERCENT-clause-fits
returns-then-byte-eq-PERCENT-clause-fits c = shows_nothing c.args.arguments.now c.args.b.now c.args.texts.now
