use Rattle.std.proofs.Common.{ℕ, rules}
use Rattle.vx_profile.specs.Counts.{Triple}
use Rattle.vx_profile.specs.Text.{Fits, edge_row}
use Rattle.vx_profile.proofs.Pushing.{fit_left, fit_passed, text_left, text_passed}
use Rattle.vx_profile.proofs.count_writer.push_edges.Goals as goal

pub loop-edge-preserved-in-Continue-1 : goal.loop-edge-preserved-in-Continue-1
loop-edge-preserved-in-Continue-1 c =
    let e : Triple × ℕ = (c.in-Some.edge.now, c.in-Some.taken.now) in
    let fits : Fits (edge_row e) = search rules in
    record {
      text = text_passed edge_row e c.loop-edge.edge-iterator c.next.new.self c.in-Some.ensures.steps c.loop-edge.out.items c.push_edge.new.out.items c.if-taken-gt0.true c.in_ok-push_edge.ensures c.loop-edge.invariant.text;
      fit = fit_passed edge_row e c.loop-edge.edge-iterator c.next.new.self c.in-Some.ensures.steps c.if-taken-gt0.true fits c.loop-edge.invariant.fit;
    }

pub loop-edge-preserved : goal.loop-edge-preserved
loop-edge-preserved c =
    let e : Triple × ℕ = (c.in-Some.edge.now, c.in-Some.taken.now) in
    record {
      text = text_left edge_row e c.loop-edge.edge-iterator c.next.new.self c.in-Some.ensures.steps c.loop-edge.out.items c.if-taken-gt0.false c.loop-edge.invariant.text;
      fit = fit_left edge_row e c.loop-edge.edge-iterator c.next.new.self c.in-Some.ensures.steps c.if-taken-gt0.false c.loop-edge.invariant.fit;
    }
