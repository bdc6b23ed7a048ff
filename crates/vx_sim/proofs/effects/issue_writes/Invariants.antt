use Rattle.std.proofs.Common.{◌≡◌, ◌≤◌, ◌++◌, [], ℕ, true, drop, length}
use Rattle.std.specs.List.{list_all}
use Rattle.vx_isa.specs.Machine.{writes_of, asked_by}
use Rattle.vx_probe.specs.Times.{list_of, moved_by}
use Rattle.vx_sim.specs.Flying.{flying_of, by_landing}
use Rattle.vx_sim.specs.Named.{names_register}
use Rattle.vx_sim.specs.Room.{HasRoom}
use Rattle.vx_sim.specs.Standing.{state_of}
use Rattle.vx_sim.proofs.effects.issue_writes.Given as goal

abbrev pub invariant-loop-op : goal.invariant-loop-op
invariant-loop-op g l =
    let here = (goal.Timing-dyn g (l.timing.vtable, l.timing.value)).times l.timing.value in
    let first = (goal.Timing-dyn g (l.fn.timing.vtable, l.fn.timing.value)).times l.fn.timing.value in
    let s = state_of l.now [] in
    let todo = drop l.op-index l.ops in
    record {
      writes : by_landing (flying_of l.ring ++ writes_of l.machine (list_of first) l.size s here.place todo) ≡ by_landing (flying_of l.fn.ring ++ writes_of l.machine (list_of first) l.size s first.place l.ops);
      same_list : list_of here ≡ list_of first;
      timing : moved_by (asked_by todo) here ≡ moved_by (asked_by l.ops) first;
      named : list_all names_register todo ≡ true;
      has_room : (widest : ℕ) → length l.ops ≤ widest → HasRoom widest 0 l.fn.ring → HasRoom widest l.op-index l.ring;
    }
