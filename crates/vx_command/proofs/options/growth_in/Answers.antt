-- A text of a number, in its range or not, and one of none.
use Rattle.vx_command.proofs.RunFound.{number_within, number_none, most_growth_fits, most_growth_is_wide}
use Rattle.vx_command.proofs.options.growth_in.Goals as goal

pub returns-in-Ok : goal.returns-in-Ok
returns-in-Ok c = number_within 32 0 1000000 4000 most_growth_fits most_growth_is_wide c.args.text.now c.in-Ok.number c.parse.result c.within.result c.parse.ensures.value.0 c.in-Ok.is c.within.ensures

pub returns-in-Err : goal.returns-in-Err
returns-in-Err c = number_none 32 0 1000000 4000 most_growth_fits most_growth_is_wide c.args.text.now c.in-Err.field-0 c.parse.result c.parse.ensures.value.0 c.in-Err.is
