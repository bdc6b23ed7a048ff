use Rattle.std.proofs.Common.{◌+◌, ◌∙◌, ap}
use Rattle.vx_profile.specs.Counts.{block_count, edge_count}
use Rattle.vx_tally.specs.Tally.{entry_in, taken}
use Rattle.vx_tally.proofs.tally.Tally.into_counts.Goals as goal

pub returns-clause-blocks : goal.returns-clause-blocks
returns-clause-blocks c = λ f b. c.in_ok-add_rows.ensures.blocks f b ∙ ap (λ rows. block_count c.args.self.rest f b + (entry_in rows f b).passed) c.as_slice.ensures.value

pub returns-clause-edges : goal.returns-clause-edges
returns-clause-edges c = λ f b d. c.in_ok-add_rows.ensures.edges f b d ∙ ap (λ rows. edge_count c.args.self.rest f b d + taken (entry_in rows f b) d) c.as_slice.ensures.value
