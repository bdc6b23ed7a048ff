use Rattle.std.proofs.Common.{ap, ◌∙◌, map}
use Rattle.vx_tally.specs.Tally.{empty_row}
use Rattle.vx_tally.proofs.Tallying.{tally_empty}
use Rattle.vx_tally.proofs.tally.Tally.new.Goals as goal

pub returns : goal.returns
returns c = tally_empty c.args.flow.now.functions (record { rows = c.in_ok-rows.rows; rest = c.new.result }) (c.in_ok-rows.ensures ∙ ap (map empty_row) c.as_slice.ensures) c.new.ensures
