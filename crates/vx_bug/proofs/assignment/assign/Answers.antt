use Rattle.vx_bug.proofs.Besides.{chosen_are_there, homes_are_there, homes_stay, across_has_home, room_for_each}
use Rattle.vx_bug.proofs.assignment.assign.Goals as goal

pub returns : goal.returns
returns c =
    let m = c.args.machine.now in
    let t = c.args.trace.now in
    let homes = c.args.homes.now in
    let made = c.in_ok-clusters.ensures in
    let assigned = made.0 c.requires.values in
    let housed = made.1 in
    record {
      assigned = assigned;
      chosen_are_there = chosen_are_there m t homes c.in_ok-clusters.clusters c.keeps_ranges.ensures c.requires.fixed_at_home c.requires.clusters assigned housed;
      homes_are_there = homes_are_there m t homes c.in_ok-clusters.clusters c.keeps_ranges.ensures c.requires.fixed_at_home c.requires.clusters assigned housed;
      homes_stay = homes_stay m t homes c.in_ok-clusters.clusters c.keeps_ranges.ensures c.requires.fixed_at_home c.requires.clusters assigned housed;
      across_has_home = across_has_home m t homes c.in_ok-clusters.clusters c.keeps_ranges.ensures c.requires.fixed_at_home c.requires.clusters assigned housed;
      room_for_each = room_for_each m t homes c.in_ok-clusters.clusters c.keeps_ranges.ensures c.requires.fixed_at_home c.requires.clusters assigned housed c.room_alone_law.ensures;
    }
