-- A text of a number, in its range or not, and one of none.
use Rattle.vx_command.proofs.RunFound.{number_within, number_none, most_words_fit}
use Rattle.vx_command.proofs.run_words.budget_in.Goals as goal

pub returns-in-Ok : goal.returns-in-Ok
returns-in-Ok c = number_within 64 1 1000000000000 1000000000 most_words_fit most_words_fit c.args.text.now c.in-Ok.number c.parse.result c.within.result c.parse.ensures.value.0 c.in-Ok.is c.within.ensures

pub returns-in-Err : goal.returns-in-Err
returns-in-Err c = number_none 64 1 1000000000000 1000000000 most_words_fit most_words_fit c.args.text.now c.in-Err.field-0 c.parse.result c.parse.ensures.value.0 c.in-Err.is
