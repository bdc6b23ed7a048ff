use Rattle.vx_gen.specs.Program.{in_expression}
use Rattle.vx_gen.proofs.Pieces.{letter_state, letter_text, letters_state, letters_text}
use Rattle.vx_gen.proofs.forms.fill_expression.Goals as goal

pub loop-letter-preserved : goal.loop-letter-preserved
loop-letter-preserved c = record {
  text = letter_text in_expression c.args.form.now c.loop-letter.letter-index _ c.loop-letter.reached _ _ _ _ c.loop-letter-test.true c.in_ok-reached.ensures c.loop-letter.invariant.text;
  state = letter_state in_expression c.args.form.now c.loop-letter.letter-index _ c.loop-letter.reached _ _ _ _ c.loop-letter-test.true c.in_ok-reached.ensures c.loop-letter.invariant.state;
}

pub returns : goal.returns
returns c = record {
  text = letters_text in_expression c.args.form.now c.loop-letter.letter-index c.loop-letter.reached _ _ c.loop-letter-test.false c.loop-letter.invariant.text;
  state = letters_state in_expression c.args.form.now c.loop-letter.letter-index c.loop-letter.reached _ c.loop-letter-test.false c.loop-letter.invariant.state;
}
