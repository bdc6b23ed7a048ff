use Rattle.std.proofs.Common.{slice_get, sym}
use Rattle.vx_trace.proofs.Bests.{target_is}
use Rattle.vx_trace.proofs.Readings.{not_unused, unused_below, unused_node}
use Rattle.vx_trace.proofs.heaviest.target.Goals as goal

pub unused-requires : goal.unused-requires
unused-requires c = unused_below c.args.mixed.now c.args.block c.requires

pub returns-in-Some : goal.returns-in-Some
returns-in-Some c =
    let m = c.args.mixed.now in
    target_is m c.args.counts.now c.keeps_valid.ensures c.args.block c.in-Some.unused.now (unused_node (slice_get m.nodes c.args.block) c.in-Some.unused.now (sym c.in-Some.ensures)) c.heaviest_of.result c.heaviest_of.ensures

pub returns-in-None : goal.returns-in-None
returns-in-None c = λ d g. not_unused c.args.mixed.now c.args.block (sym c.in-None.ensures) c.requires
