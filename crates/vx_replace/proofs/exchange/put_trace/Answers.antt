use Rattle.std.proofs.Common.{◌<◌, sym, subst}
use Rattle.vx_flow.specs.Effects.{IsIn}
use Rattle.vx_mixed.specs.Edges.{EdgesOf}
use Rattle.vx_mixed.specs.Settled.{NoTwice}
use Rattle.vx_mixed.specs.Valid.{Valid}
use Rattle.vx_replace.proofs.Exchanges.{block_low, few_alone, put_alone, put_whole}
use Rattle.vx_replace.proofs.exchange.put_trace.Goals as goal

pub put_region-requires-clause-few : goal.put_region-requires-clause-few
put_region-requires-clause-few c = few_alone c.args.graph.now c.args.replacement.now c.len-nodes.result c.len-nodes.ensures.len c.len-nodes.ensures.few c.requires.none

pub put_region-requires-2-clause-few : goal.put_region-requires-2-clause-few
put_region-requires-2-clause-few c = few_alone c.args.graph.now c.args.replacement.now c.len-nodes.result c.len-nodes.ensures.len c.len-nodes.ensures.few c.requires.none

pub outer_edges-requires-clause-once : goal.outer_edges-requires-clause-once
outer_edges-requires-clause-once c = subst NoTwice (sym c.as_slice-blocks.ensures) c.requires.can.trace.can.once

pub outer_edges-requires-clause-there : goal.outer_edges-requires-clause-there
outer_edges-requires-clause-there c = λ b h.
    subst (λ n. b < n) (sym c.len-nodes.ensures.len) (block_low c.args.graph.now c.args.replacement.now c.requires.can b (subst (IsIn b) c.as_slice-blocks.ensures h))

pub returns-then-len-lt2-clause-edges : goal.returns-then-len-lt2-clause-edges
returns-then-len-lt2-clause-edges c =
    (put_alone c.args.graph.now c.put_region.new.graph c.args.replacement.now c.args.edges.now c.put_region.result (c.requires.edges, c.requires.valid) c.requires.can c.requires.none (subst (λ n. n < 2) c.len.ensures.len c.if-len-lt2.true) c.put_region.ensures.next c.put_region.ensures.unchanged).0

pub returns-then-len-lt2-clause-valid : goal.returns-then-len-lt2-clause-valid
returns-then-len-lt2-clause-valid c =
    (put_alone c.args.graph.now c.put_region.new.graph c.args.replacement.now c.args.edges.now c.put_region.result (c.requires.edges, c.requires.valid) c.requires.can c.requires.none (subst (λ n. n < 2) c.len.ensures.len c.if-len-lt2.true) c.put_region.ensures.next c.put_region.ensures.unchanged).1

pub returns-in_err-put_region-clause-edges : goal.returns-in_err-put_region-clause-edges
returns-in_err-put_region-clause-edges c = subst (λ m. EdgesOf m c.args.edges.now) (sym c.in_err-put_region.ensures.unchanged) c.requires.edges

pub returns-in_err-put_region-clause-valid : goal.returns-in_err-put_region-clause-valid
returns-in_err-put_region-clause-valid c = subst Valid (sym c.in_err-put_region.ensures.unchanged) c.requires.valid

pub returns-clause-edges : goal.returns-clause-edges
returns-clause-edges c =
    (put_whole c.args.graph.now c.put_region-2.new.graph c.args.replacement.now c.args.edges.now c.as_slice.result.now c.in_ok-kept.kept c.as_slice-blocks.result.now (c.requires.edges, c.requires.valid) c.requires.can c.requires.none c.as_slice-blocks.ensures c.as_slice.ensures c.in_ok-kept.ensures c.in_ok-put_region.ensures.next).0

pub returns-clause-valid : goal.returns-clause-valid
returns-clause-valid c =
    (put_whole c.args.graph.now c.put_region-2.new.graph c.args.replacement.now c.args.edges.now c.as_slice.result.now c.in_ok-kept.kept c.as_slice-blocks.result.now (c.requires.edges, c.requires.valid) c.requires.can c.requires.none c.as_slice-blocks.ensures c.as_slice.ensures c.in_ok-kept.ensures c.in_ok-put_region.ensures.next).1
