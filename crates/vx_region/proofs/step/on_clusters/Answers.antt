use Rattle.std.proofs.Common.{refl, sym, subst}
use Rattle.vx_mixed.specs.Routes.{live_values}
use Rattle.vx_bug.specs.CanAssign.{BoundAtHome, FixedAtHome, FixedReadsHere, ClustersAreThere}
use Rattle.vx_region.proofs.Assignable.{bound_at_home, fixed_at_home, fixed_reads_here, clusters_are_there, values_are_there, copies_have_numbers, is_well_formed}
use Rattle.vx_region.proofs.LiveEnds.{told_at_splits}
use Rattle.vx_region.proofs.Rooms.{is_on_clusters}
use Rattle.vx_region.proofs.step.on_clusters.Goals as goal

pub trace_with-requires : goal.trace_with-requires
trace_with-requires c = told_at_splits c.args.mixed.now c.requires.valid c.args.blocks.now c.requires.can (live_values c.args.live.now) c.requires.live

pub assign-clusters-requires-clause-bound_at_home : goal.assign-clusters-requires-clause-bound_at_home
assign-clusters-requires-clause-bound_at_home c = subst (BoundAtHome c.in_ok-trace.trace) (sym c.homes.ensures) (bound_at_home c.args.machine.now c.requires.graph.0 c.args.mixed.now c.args.blocks.now c.in_ok-trace.trace c.requires.valid c.requires.graph.1 c.requires.can c.in_ok-trace.ensures)

pub assign-clusters-requires-clause-fixed_at_home : goal.assign-clusters-requires-clause-fixed_at_home
assign-clusters-requires-clause-fixed_at_home c = subst (FixedAtHome c.in_ok-trace.trace) (sym c.homes.ensures) (fixed_at_home c.args.machine.now c.requires.graph.0 c.args.mixed.now c.args.blocks.now c.in_ok-trace.trace c.requires.valid c.requires.graph.1 c.requires.can c.in_ok-trace.ensures)

pub assign-clusters-requires-clause-fixed_reads_here : goal.assign-clusters-requires-clause-fixed_reads_here
assign-clusters-requires-clause-fixed_reads_here c = subst (FixedReadsHere c.in_ok-trace.trace) (sym c.homes.ensures) (fixed_reads_here c.args.machine.now c.requires.graph.0 c.args.mixed.now c.args.blocks.now c.in_ok-trace.trace c.requires.valid c.requires.graph.1 c.requires.can c.in_ok-trace.ensures)

pub assign-clusters-requires-clause-clusters : goal.assign-clusters-requires-clause-clusters
assign-clusters-requires-clause-clusters c = subst (ClustersAreThere c.args.machine.now c.in_ok-trace.trace) (sym c.homes.ensures) (clusters_are_there c.args.machine.now c.requires.graph.0 c.args.mixed.now c.args.blocks.now c.in_ok-trace.trace c.requires.valid c.requires.graph.1 c.requires.can c.in_ok-trace.ensures)

pub assign-clusters-requires-clause-values : goal.assign-clusters-requires-clause-values
assign-clusters-requires-clause-values c = values_are_there c.args.machine.now c.requires.graph.0 c.args.mixed.now c.args.blocks.now c.in_ok-trace.trace c.requires.valid c.requires.graph.1 c.requires.can c.in_ok-trace.ensures

pub assign-clusters-requires-clause-copies : goal.assign-clusters-requires-clause-copies
assign-clusters-requires-clause-copies c = copies_have_numbers c.args.machine.now c.requires.graph.0 c.args.mixed.now c.args.blocks.now c.in_ok-trace.trace c.requires.valid c.requires.graph.1 c.requires.can c.in_ok-trace.ensures

pub assign-clusters-requires-clause-well_formed : goal.assign-clusters-requires-clause-well_formed
assign-clusters-requires-clause-well_formed c = is_well_formed c.args.machine.now c.requires.graph.0 c.args.mixed.now c.args.blocks.now c.in_ok-trace.trace c.requires.valid c.requires.graph.1 c.requires.can c.in_ok-trace.ensures

pub returns : goal.returns
returns c =
    is_on_clusters c.args.machine.now c.args.mixed.now c.args.blocks.now c.in_ok-trace.trace c.homes.result.now c.in_ok-clustered.field-0 _ c.in_ok-trace.ensures c.homes.ensures c.in_ok-clustered.ensures.assigned c.in_ok-clustered.ensures.room_for_each refl refl
