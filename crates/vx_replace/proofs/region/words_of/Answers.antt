use Rattle.std.proofs.Common.{◌≡◌, ◌∙◌, ◌<◌, ◌≤◌, length, get_or, slice_index_or, sym, ap, subst, arith}
use Rattle.vx_flow.specs.Effects.{IsIn}
use Rattle.vx_mixed.specs.Next.{new_end}
use Rattle.vx_replace.specs.Placing.{placed_item}
use Rattle.vx_replace.proofs.PlacingSteps.{Filled, none_filled, filled_more, all_filled, at_in}
use Rattle.vx_replace.proofs.region.words_of.Goals as goal

pub loop-index-init : goal.loop-index-init
loop-index-init c = record {
  filled = none_filled (new_end c.args.graph.now c.args.replacement.now.made) c.as_slice-ops.result.now c.as_slice-clusters.result.now c.as_slice-words.result.now c.args.replacement.now.drains c.args.replacement.now.length c.in_ok-rows.rows.items c.in_ok-rows.ensures;
  few = omega arith;
}

pub put-requires : goal.put-requires
put-requires c =
    let i = c.loop-index.index in
    let ws = c.as_slice-words.result.now in
    let b : length ws ≡ length c.as_slice-ops.result.now = ap length c.as_slice-words.ensures ∙ c.requires.lists.words ∙ sym (ap length c.as_slice-ops.ensures) in
    let lw : i < length ws = subst (λ n. i < n) (sym b) c.loop-index-test.true in
    let low = c.requires.words.words (get_or ws i 0) (subst (IsIn (get_or ws i 0)) c.as_slice-words.ensures (at_in ws i lw)) in
    subst (λ n. get_or ws i 0 < n) (sym c.loop-index.invariant.filled.size_is) low

pub loop-index-preserved : goal.loop-index-preserved
loop-index-preserved c =
    let i = c.loop-index.index in
    let to = new_end c.args.graph.now c.args.replacement.now.made in
    let ops = c.as_slice-ops.result.now in
    let cs = c.as_slice-clusters.result.now in
    let ws = c.as_slice-words.result.now in
    let op = c.index-ops-index.result in
    let a : length cs ≡ length ops = ap length c.as_slice-clusters.ensures ∙ c.requires.lists.clusters ∙ sym (ap length c.as_slice-ops.ensures) in
    let b : length ws ≡ length ops = ap length c.as_slice-words.ensures ∙ c.requires.lists.words ∙ sym (ap length c.as_slice-ops.ensures) in
    let lc : i < length cs = subst (λ n. i < n) (sym a) c.loop-index-test.true in
    let lw : i < length ws = subst (λ n. i < n) (sym b) c.loop-index-test.true in
    let low = c.requires.words.words (get_or ws i 0) (subst (IsIn (get_or ws i 0)) c.as_slice-words.ensures (at_in ws i lw)) in
    let drain : c.drain_at-drain.result ≡ slice_index_or c.args.replacement.now.drains c.loop-index.splits 0 = c.drain_at-drain.ensures ∙ ap (λ l. slice_index_or l c.loop-index.splits 0) c.as_slice.ensures in
    let few : c.loop-index.splits ≤ i = c.loop-index.invariant.few in
    let more : c.splits_in-splits.result ≤ 1 = c.splits_in-splits.ensures.few in
    record {
      filled = filled_more to ops cs ws c.args.replacement.now.drains c.args.replacement.now.length i c.loop-index.splits c.loop-index.bound c.splits_in-splits.result c.in_ok-bound.bound op c.placed_item-item.result c.loop-index.rows.items c.put.new.rows.items
          c.loop-index-test.true c.index-ops-index.is lc lw low
          (c.placed_item-item.ensures ∙ ap (λ d. placed_item to op (get_or cs i 0) (get_or ws i 0) d c.loop-index.bound) drain)
          c.in_ok-put.ensures c.splits_in-splits.ensures.exact c.in_ok-bound.ensures c.loop-index.invariant.filled;
      few = omega arith;
    }

pub returns : goal.returns
returns c =
    let to = new_end c.args.graph.now c.args.replacement.now.made in
    let r = c.args.replacement.now in
    let i = c.loop-index.index in
    let f = c.loop-index.invariant.filled in
    let rows = c.loop-index.rows.items in
    let over : length r.trace.ops ≤ i = subst (λ l. length l ≤ i) c.as_slice-ops.ensures c.loop-index-test.false in
    let by_ops = subst (λ l. Filled to l c.as_slice-clusters.result.now c.as_slice-words.result.now r.drains r.length i c.loop-index.splits c.loop-index.bound rows) c.as_slice-ops.ensures f in
    let by_clusters = subst (λ l. Filled to r.trace.ops l c.as_slice-words.result.now r.drains r.length i c.loop-index.splits c.loop-index.bound rows) c.as_slice-clusters.ensures by_ops in
    let by_words = subst (λ l. Filled to r.trace.ops r.clusters l r.drains r.length i c.loop-index.splits c.loop-index.bound rows) c.as_slice-words.ensures by_clusters in
    c.in_ok-list.ensures ∙ all_filled c.args.graph.now r i c.loop-index.splits c.loop-index.bound rows over by_words

pub bounds-clusters-index : goal.bounds-clusters-index
bounds-clusters-index c =
    let a : length c.as_slice-clusters.result.now ≡ length c.as_slice-ops.result.now = ap length c.as_slice-clusters.ensures ∙ c.requires.lists.clusters ∙ sym (ap length c.as_slice-ops.ensures) in
    subst (λ n. c.loop-index.index < n) (sym a) c.loop-index-test.true

pub bounds-words-index : goal.bounds-words-index
bounds-words-index c =
    let a : length c.as_slice-words.result.now ≡ length c.as_slice-ops.result.now = ap length c.as_slice-words.ensures ∙ c.requires.lists.words ∙ sym (ap length c.as_slice-ops.ensures) in
    subst (λ n. c.loop-index.index < n) (sym a) c.loop-index-test.true
