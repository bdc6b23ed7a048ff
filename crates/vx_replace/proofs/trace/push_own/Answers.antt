use Rattle.std.proofs.Common.{◌≡◌, ◌++◌, ltb-true, length, sym, subst}
use Rattle.std.specs.Prelude.{IfOk, None, replicate}
use Rattle.vx_mixed.specs.TraceOf.{block_at, clusters_of}
use Rattle.vx_replace.proofs.Pushed.{stands_at}
use Rattle.vx_replace.proofs.trace.push_own.Goals as goal

pub returns-in-Some-Some : goal.returns-in-Some-Some
returns-in-Some-Some c =
    let l = c.in-Some-Some.ensures.lookup in
    subst (λ o. IfOk c.push_clusters.result (λ _. c.push_clusters.new.fixed ≡ c.args.fixed.now ++ clusters_of (length (block_at c.args.graph.now c.args.block).ops) o))
    (sym (stands_at c.as_slice.result.now c.args.graph.now.origins c.args.block c.in-Some-Some.field-0.now _ c.as_slice.ensures (ltb-true _ _ (sym l.0)) l.1 c.in-Some-Some.field-0-is))
    c.push_clusters.ensures

pub returns-in-Some-None : goal.returns-in-Some-None
returns-in-Some-None c =
    let l = c.in-Some-None.ensures.lookup in
    subst (λ o. IfOk c.push_none.result (λ _. c.push_none.new.fixed ≡ c.args.fixed.now ++ clusters_of (length (block_at c.args.graph.now c.args.block).ops) o))
    (sym (stands_at c.as_slice.result.now c.args.graph.now.origins c.args.block c.in-Some-None.field-0.now _ c.as_slice.ensures (ltb-true _ _ (sym l.0)) l.1 c.in-Some-None.field-0-is))
    (subst (λ n. IfOk c.push_none.result (λ _. c.push_none.new.fixed ≡ c.args.fixed.now ++ replicate n None)) c.ops_in-count.ensures.exact c.push_none.ensures)
