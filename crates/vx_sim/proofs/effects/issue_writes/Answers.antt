use Rattle.std.proofs.Common.{◌≡◌, ◌∙◌, ◌+◌, ◌++◌, [], ◌∷◌, List, length, drop, drop_of_length-le, get_or, refl, sym, ap, subst, arith}
use Rattle.std.specs.List.{list_all}
use Rattle.vx_isa.specs.declared.operation.Operation.{Operation}
use Rattle.vx_isa.specs.Operations.{destination_of}
use Rattle.vx_isa.specs.Machine.{writes_of, write_to, number_of, time_of, asked_by, is_asked}
use Rattle.vx_probe.specs.Times.{list_of, moved_by}
use Rattle.vx_sim.specs.Flying.{flying_of, by_landing}
use Rattle.vx_sim.specs.Named.{names_register}
use Rattle.vx_sim.specs.Standing.{state_of}
use Rattle.vx_sim.proofs.Issuing.{issued_more, moved_along, moved_more, rest_named}
use Rattle.vx_sim.specs.Room.{HasRoom}
use Rattle.vx_sim.proofs.Naming.{and_left}
use Rattle.vx_sim.proofs.Sorting.{put_more}
use Rattle.vx_sim.proofs.Turning.{nothing_put}
use Rattle.vx_sim.proofs.Operations.{no_operation, operation_here}
use Rattle.vx_sim.proofs.effects.issue_writes.Goals as goal

pub loop-op-preserved : goal.loop-op-preserved
loop-op-preserved g c =
    let here = (goal.Timing-dyn g (c.loop-op.timing.vtable, c.loop-op.timing.value)).times c.loop-op.timing.value in
    let there = (goal.Timing-dyn g (c.issue.new.timing.vtable, c.issue.new.timing.value)).times c.issue.new.timing.value in
    let first = (goal.Timing-dyn g (c.args.timing.now.vtable, c.args.timing.now.value)).times c.args.timing.now.value in
    let m = c.args.machine.now in
    let s = state_of c.args.now.now [] in
    let ops = c.args.ops.now in
    let i = c.loop-op.op-index in
    let op = get_or ops i no_operation in
    let rest = drop (i + 1) ops in
    let split = operation_here ops i no_operation c.loop-op-test.true in
    let h = c.loop-op.invariant in
    let ws = flying_of c.loop-op.ring in
    let w = write_to (destination_of op) (number_of c.args.size s op) (time_of m (list_of here) here.place op) in
    let behind : (ws ++ w) ++ writes_of m (list_of first) c.args.size s there.place rest ≡ ws ++ writes_of m (list_of first) c.args.size s here.place (op ∷ rest) =
    issued_more m c.args.size s (list_of first) here there op rest ws (ws ++ w) (ws ++ writes_of m (list_of first) c.args.size s here.place (op ∷ rest)) h.same_list c.issue.ensures.timing refl refl in
    record {
      writes = put_more ws w (flying_of c.issue.new.ring) (writes_of m (list_of first) c.args.size s there.place rest) (ws ++ writes_of m (list_of first) c.args.size s here.place (op ∷ rest)) (by_landing (flying_of c.args.ring.now ++ writes_of m (list_of first) c.args.size s first.place ops)) c.issue.ensures.write behind (ap (λ (os : List Operation). by_landing (ws ++ writes_of m (list_of first) c.args.size s here.place os)) (sym split) ∙ h.writes);
      same_list = moved_along here there (list_of first) (is_asked op) c.issue.ensures.timing h.same_list;
      timing = moved_more here there _ op rest c.issue.ensures.timing (ap (λ (os : List Operation). moved_by (asked_by os) here) (sym split) ∙ h.timing);
      named = rest_named names_register op rest (ap (list_all names_register) (sym split) ∙ h.named);
      has_room = λ widest few room. c.issue.ensures.has_room widest i (omega (arith, few, c.loop-op-test.true)) (h.has_room widest few room);
    }

pub issue-requires-clause-room : goal.issue-requires-clause-room
issue-requires-clause-room g c =
    let r = c.requires.room in
    (r.0, c.loop-op.op-index, (let few = r.1 in omega (arith, few, c.loop-op-test.true)), c.loop-op.invariant.has_room r.0 r.1 r.2)

pub returns-clause-writes : goal.returns-clause-writes
returns-clause-writes g c =
    let here = (goal.Timing-dyn g (c.loop-op.timing.vtable, c.loop-op.timing.value)).times c.loop-op.timing.value in
    let first = (goal.Timing-dyn g (c.args.timing.now.vtable, c.args.timing.now.value)).times c.args.timing.now.value in
    let m = c.args.machine.now in
    let s = state_of c.args.now.now [] in
    let ring = c.loop-op.ring in
    let all : drop c.loop-op.op-index c.args.ops.now ≡ [] = drop_of_length-le c.args.ops.now (omega (arith, c.loop-op-test.false)) in
    nothing_put ring ∙ ap (λ (os : List Operation). by_landing (flying_of ring ++ writes_of m (list_of first) c.args.size s here.place os)) (sym all) ∙ c.loop-op.invariant.writes

pub returns-clause-has_room : goal.returns-clause-has_room
returns-clause-has_room g c = λ widest few room.
    let all : c.loop-op.op-index ≡ length c.args.ops.now = omega (arith, c.loop-op-test.false, c.loop-op.auto.op-index-end) in
    subst (λ n. HasRoom widest n c.loop-op.ring) all (c.loop-op.invariant.has_room widest few room)

pub issue-requires-clause-named : goal.issue-requires-clause-named
issue-requires-clause-named g c =
    let ops = c.args.ops.now in
    let i = c.loop-op.op-index in
    and_left (names_register (get_or ops i no_operation)) (list_all names_register (drop (i + 1) ops)) (ap (list_all names_register) (sym (operation_here ops i no_operation c.loop-op-test.true)) ∙ c.loop-op.invariant.named)

pub returns-clause-timing : goal.returns-clause-timing
returns-clause-timing g c =
    let here = (goal.Timing-dyn g (c.loop-op.timing.vtable, c.loop-op.timing.value)).times c.loop-op.timing.value in
    let all : drop c.loop-op.op-index c.args.ops.now ≡ [] = drop_of_length-le c.args.ops.now (omega (arith, c.loop-op-test.false)) in
    ap (λ (os : List Operation). moved_by (asked_by os) here) (sym all) ∙ c.loop-op.invariant.timing
