use Rattle.vx_narrow.proofs.Entries.{lie_more}
use Rattle.vx_narrow.proofs.given.+lie_in.Goals as goal

pub returns-in_ok-append_within-in-len1-up-intervals : goal.returns-in_ok-append_within-in-len1-up-intervals
returns-in_ok-append_within-in-len1-up-intervals t c =
    lie_more c.args.parameters.now c.args.intervals.now _ _ _ _ _ _ c.in-len1-up.len_at_least c.in-len1-up-intervals.len_at_least c.in_ok-behind-in-len1-up-intervals.ensures c.as_slice.ensures c.new-facts.ensures
    c.in_ok-append_within-in-len1-up-intervals.ensures
