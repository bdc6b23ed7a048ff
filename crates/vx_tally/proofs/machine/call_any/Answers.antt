use Rattle.std.proofs.Common.{IfOk, Option, ap, length, subst, sym}
use Rattle.vx_flow.specs.declared.graph.Graph.{Graph}
use Rattle.vx_tally.specs.Machine.{active_of, called_by, IsStep}
use Rattle.vx_tally.proofs.Turns.{absent_at, found_at}
use Rattle.vx_tally.proofs.machine.call_any.Goals as goal

pub returns-in-Some : goal.returns-in-Some
returns-in-Some c =
    let flow = c.args.flow.now in
    let l = c.in-Some.ensures.lookup in
    let a = active_of c.args.machine.now in
    subst (λ (o : Option Graph). IfOk c.call_graph.result (λ ending. IsStep ending (called_by a (length flow.globals) c.args.function o c.args.arguments.now c.args.result_to c.args.next) c.call_graph.new.machine))
    (sym (found_at c.as_slice.result.now flow.functions c.args.function c.in-Some.graph.now c.as_slice.ensures l.0 l.1))
    (subst (λ n. IfOk c.call_graph.result (λ ending. IsStep ending (called_by a n c.args.function (Option.Some c.in-Some.graph.now) c.args.arguments.now c.args.result_to c.args.next) c.call_graph.new.machine)) c.len.ensures.len c.call_graph.ensures)

pub returns-in-None : goal.returns-in-None
returns-in-None c = (
  c.args.machine.now.storage.out.items,
  ap (λ (o : Option Graph). called_by (active_of c.args.machine.now) (length c.args.flow.now.globals) c.args.function o c.args.arguments.now c.args.result_to c.args.next)
      (absent_at c.as_slice.result.now c.args.flow.now.functions c.args.function c.as_slice.ensures c.in-None.ensures.lookup.0),
)
