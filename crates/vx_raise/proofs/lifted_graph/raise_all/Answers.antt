use Rattle.vx_raise.proofs.LiftLoops.{some_holds, turn_none, turn_some}
use Rattle.vx_raise.proofs.lifted_graph.raise_all.Goals.{in-Some+in_ok-note-in-Some, in-None}
use Rattle.vx_raise.proofs.lifted_graph.raise_all.Goals as goal

pub loop-one-preserved : goal.loop-one-preserved
loop-one-preserved c = elim c.match-branch-4.branch [
  | in-Some+in_ok-note-in-Some w ↦
      turn_some c.args.graph.now c.loop-one.known c.match-branch-4.known w.note.new.noted c.loop-one.current c.match-branch-4.current _ _ _
      (some_holds _ _ _ w.in-Some.is c.in_ok-found.ensures) w.in_ok-note-in-Some.ensures w.known-is w.current-is c.loop-one.invariant
  | in-None w ↦ turn_none c.args.graph.now c.loop-one.known c.match-branch-4.known c.loop-one.current c.match-branch-4.current w.known-is w.current-is c.loop-one.invariant
]
