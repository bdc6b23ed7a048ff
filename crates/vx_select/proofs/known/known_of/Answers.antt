use Rattle.std.proofs.Common.{◌∙◌, ap, true}
use Rattle.vx_select.specs.Selected.{those_from}
use Rattle.vx_select.proofs.Knowing.{known_is}
use Rattle.vx_select.proofs.known.known_of.Goals as goal

pub returns : goal.returns
returns c = known_is c.args.graph.now c.in_ok-rows.rows c.in_ok-numbers.numbers (c.in_ok-numbers.ensures ∙ ap (those_from (λ v. true) 0) c.len.ensures.len) c.in_ok-rows.ensures.exact
