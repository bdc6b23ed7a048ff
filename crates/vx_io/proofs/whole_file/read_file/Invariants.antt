use Rattle.std.proofs.Common.{◌≡◌, ◌≤◌, ◌-◌, length}
use Rattle.vx_io.proofs.FileSoFar.{FileSoFar}
use Rattle.vx_io.proofs.whole_file.read_file.Given as goal

-- what was read is a front of the file and within the bound, and nothing else has happened to the depot
abbrev pub invariant-pieces : goal.invariant-pieces
invariant-pieces g l =
    let depot = g.D.Depot in
    record {
      so_far : FileSoFar (depot.files l.fn.depot) l.name l.content.items;
      within : length l.content.items ≤ l.most;
      same : depot.files l.depot ≡ depot.files l.fn.depot;
      reads : depot.failed_reads l.fn.depot ≤ depot.failed_reads l.depot;
      replaces : depot.failed_replaces l.fn.depot ≤ depot.failed_replaces l.depot;
    }

abbrev pub decreases-pieces : goal.decreases-pieces
decreases-pieces g l = l.most - length l.content.items
