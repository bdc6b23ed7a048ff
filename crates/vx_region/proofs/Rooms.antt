-- A trace on the clusters that are assigned: each operation has a cluster, and room there by itself.
use Rattle.std.proofs.Common.{◌≡◌, ℕ, Option, List, [], ◌++◌, length, slice_index_or, sym, ap, ◌∙◌, subst}
use Rattle.std.proofs.lemmas.List.{length-map}
use Rattle.vx_flow.specs.declared.trace.Clustered.{Clustered}
use Rattle.vx_flow.specs.declared.trace.Homes.{Homes}
use Rattle.vx_flow.specs.declared.trace.Trace.{Trace}
use Rattle.vx_isa.specs.Numbers.{Numbers}
use Rattle.vx_room.specs.Room.{has_room}
use Rattle.vx_mixed.specs.declared.mixed.MixedGraph.{MixedGraph}
use Rattle.vx_mixed.specs.TraceOf.{IsTraceOf}
use Rattle.vx_bug.specs.declared.clusters.Clusters.{Clusters}
use Rattle.vx_bug.specs.Assigned.{last_books, Assigned}
use Rattle.vx_bug.specs.Copies.{Standing, pieces_of, joined, with_copies}
use Rattle.vx_bug.specs.Further.{RoomForEach}
use Rattle.vx_sched.specs.Placement.{item_there, HaveRoomAlone}
use Rattle.vx_region.specs.declared.step.OnClusters.{OnClusters}
use Rattle.vx_region.specs.Stepping.{IsOnClusters}
use Rattle.vx_region.proofs.PlainItems.{some_at}

rooms_alone : (m : Numbers) (r : Clusters) → RoomForEach m r → HaveRoomAlone m r.homes r.clustered
rooms_alone m r room i inside =
    let o = some_at r.clustered.trace.ops i inside in
    ap (λ z. has_room m r.homes (item_there (slice_index_or r.clustered.clusters i 0) z ++ [])) o.1 ∙ room i o.0 o.1

each_has : (t : Trace) (homes : ℕ → Option ℕ) (chosen : List ℕ) → length (with_copies t homes chosen).clusters ≡ length (with_copies t homes chosen).trace.ops
each_has t homes chosen = length-map (joined (pieces_of t homes chosen)) (λ (s : Standing). s.cluster) ∙ sym (length-map (joined (pieces_of t homes chosen)) (λ (s : Standing). s.op))

pub is_on_clusters : (machine : Numbers) (m : MixedGraph) (blocks : List ℕ) (t : Trace) (homes : Homes) (k : Clusters) (x : OnClusters) → IsTraceOf m blocks t → homes ≡ m.homes → Assigned machine t homes k → RoomForEach machine k → x.clustered ≡ k.clustered → x.homes ≡ k.homes → IsOnClusters machine m blocks x
is_on_clusters machine m blocks t homes k x is same assigned room clustered_is homes_is =
    let A : Assigned machine t m.homes k = subst (λ h. Assigned machine t h k) same assigned in
    record {
      trace = t;
      is_trace = is;
      clusters = k;
      assigned = A;
      clustered_is = clustered_is;
      homes_is = homes_is;
      each = subst (λ (z : Clustered). length z.clusters ≡ length z.trace.ops) (sym (clustered_is ∙ A.clustered)) (each_has t (last_books machine t m.homes k).homes k.chosen);
      alone = subst (λ z. HaveRoomAlone machine x.homes z) (sym clustered_is) (subst (λ h. HaveRoomAlone machine h k.clustered) (sym homes_is) (rooms_alone machine k room));
    }
