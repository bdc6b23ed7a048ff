use Rattle.vx_bug.specs.Ledgers.{homes_in}
use Rattle.vx_bug.proofs.Needing.{both_needed}
use Rattle.vx_bug.proofs.cluster_copies.copies_needed.Goals as goal

pub returns : goal.returns
returns c =
    let site = c.args.site.now in
    let read = c.general_reads-read.result in
    both_needed (homes_in site.homes.now) site.cluster c.args.served.now c.args.op.now read.left read.right c.copy_needed-first.result c.needed_behind-second.result c.general_reads-read.ensures c.copy_needed-first.ensures c.needed_behind-second.ensures
