-- what stands so far, and what is left
use Rattle.std.proofs.Common.{◌-◌, length}
use Rattle.vx_bug.specs.Copies.{pieces_of}
use Rattle.vx_bug.specs.Ledgers.{homes_in}
use Rattle.vx_bug.proofs.Pieces.{rest_at, Laying}
use Rattle.vx_bug.proofs.clustered.lay_all.Given as goal

abbrev pub invariant-lay : goal.invariant-lay
invariant-lay l = Laying (pieces_of l.fn.trace (homes_in l.fn.homes) l.fn.chosen) (rest_at l.fn.trace (homes_in l.fn.homes) l.fn.chosen l.place l.served.items) l.out l.starts

abbrev pub decreases-lay : goal.decreases-lay
decreases-lay l = length l.fn.trace.ops - l.place
