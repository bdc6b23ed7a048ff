use Rattle.std.proofs.Common.{◌∙◌, refl, subst}
use Rattle.vx_flow.specs.declared.trace.TraceOp.TheVariants.{Split}
use Rattle.vx_flow.specs.Effects.{IsIn}
use Rattle.vx_mixed.specs.Routes.{live_values}
use Rattle.vx_replace.proofs.trace.trace_with.Goals as goal

pub returns : goal.returns
returns c = record {
  edges = c.args.edges.now;
  all_edges = c.requires.edges;
  live = live_values c.args.live.now;
  function = refl;
  blocks_are = c.in_ok-blocks.ensures;
  ops = c.in_ok-ops.ensures;
  lives = λ p v y e vs h. c.requires.live p v y e vs (subst (IsIn (Split p y e vs)) c.in_ok-ops.ensures h);
  fixed = c.in_ok-fixed.ensures (live_values c.args.live.now);
  joins = c.in_ok-joins.ensures (live_values c.args.live.now);
  values = c.len.ensures.len;
  arrays = c.in_ok-arrays.ensures ∙ c.as_slice.ensures;
}
