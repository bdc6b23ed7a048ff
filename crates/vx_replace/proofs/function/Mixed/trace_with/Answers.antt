use Rattle.std.proofs.Common.{sym, subst}
use Rattle.vx_mixed.specs.Routes.{live_values}
use Rattle.vx_mixed.specs.declared.mixed.MixedGraph.{MixedGraph}
use Rattle.vx_replace.specs.TraceLists.{LiveAtSplits}
use Rattle.vx_replace.proofs.function.Mixed.trace_with.Goals as goal

pub trace_with-requires-clause-live : goal.trace_with-requires-clause-live
trace_with-requires-clause-live c = subst (λ (m : MixedGraph). LiveAtSplits m c.args.blocks.now (live_values c.args.live.now)) (sym c.self.view_is) c.requires
