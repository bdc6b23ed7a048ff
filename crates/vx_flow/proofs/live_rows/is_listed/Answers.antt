use Rattle.std.proofs.Common.{◌∙◌}
use Rattle.vx_flow.proofs.Ascending.{found_by_search}
use Rattle.vx_flow.proofs.live_rows.is_listed.Goals as goal

pub returns : goal.returns
returns c = c.is_ok.ensures.value ∙ found_by_search c.args.values.now c.args.value c.binary_search.result c.requires c.binary_search.ensures.position
