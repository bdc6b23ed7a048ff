use Rattle.std.proofs.Common.{◌∙◌, length, ap, sym, subst}
use Rattle.std.specs.Prelude.{ℕ, ◌<◌}
use Rattle.vx_flow.specs.declared.trace.Join.{Join}
use Rattle.vx_flow.specs.Effects.{IsIn}
use Rattle.vx_mixed.specs.declared.mixed.MixedGraph.{MixedGraph}
use Rattle.vx_replace.specs.Exchanged.{exchanged}
use Rattle.vx_replace.proofs.Exchanges.{block_low, join_low, put_behind}
use Rattle.vx_replace.proofs.exchange.put_region.Goals as goal

pub exchange-requires-clause-blocks : goal.exchange-requires-clause-blocks
exchange-requires-clause-blocks c =
    subst (λ (m : MixedGraph). (b : ℕ) → IsIn b c.args.replacement.now.trace.blocks → b < length m.nodes) (sym c.in_ok-push_region.ensures.next) (block_low c.args.graph.now c.args.replacement.now c.requires.can)

pub exchange-requires-clause-joins : goal.exchange-requires-clause-joins
exchange-requires-clause-joins c =
    subst (λ (m : MixedGraph). (j : Join) → IsIn j c.args.replacement.now.trace.joins → j.block < length m.nodes) (sym c.in_ok-push_region.ensures.next) (join_low c.args.graph.now c.args.replacement.now c.requires.valid c.requires.can)

pub returns-clause-next : goal.returns-clause-next
returns-clause-next c =
    ap (λ homes. record c.push_region.new.graph { nodes = c.exchange.new.nodes; homes = homes }) c.swap.ensures.x_after
    ∙ put_behind c.args.graph.now c.push_region.new.graph c.args.replacement.now c.requires.valid c.requires.can c.requires.none c.exchange.new.nodes c.in_ok-push_region.ensures.next
    (c.exchange.ensures ∙ ap (λ q. exchanged q c.args.replacement.now c.push_region.new.graph.nodes) c.len-number.ensures.len)
