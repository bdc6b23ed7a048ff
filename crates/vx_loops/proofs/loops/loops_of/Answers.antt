use Rattle.std.proofs.Common.{◌≡◌, ◌∙◌, ◌<◌, ◌^◌, ap, arith, length, refl, subst, sym, List}
use Rattle.std.proofs.lemmas.List.{length-replicate}
use Rattle.vx_flow.specs.declared.graph.Block.{Block}
use Rattle.vx_loops.specs.Noted.{SourcesOf}
use Rattle.vx_loops.specs.Past.{NamesPast}
use Rattle.vx_loops.proofs.Edges.{tables_made}
use Rattle.vx_loops.proofs.Notings.{nothing_noted, past_none}
use Rattle.vx_loops.proofs.loops.loops_of.Goals as goal

pub invariant_of-result : goal.invariant_of-result
invariant_of-result c = record {
  timed = (ap length (c.in_ok-times.ensures.items_if_clones_equal (λ y e. e)) ∙ length-replicate _ _ ∙ c.len-3.ensures.len) ∙ sym (ap length (c.in_ok-writers.ensures.items_if_clones_equal (λ y e. e)) ∙ length-replicate _ _ ∙ c.len-2.ensures.len);
  members_past = subst (NamesPast 0) (sym (c.in_ok-members.ensures.items_if_clones_equal (λ y e. e))) (past_none _);
  writers_past = subst (NamesPast 0) (sym (c.in_ok-writers.ensures.items_if_clones_equal (λ y e. e))) (past_none _);
  stores_past = subst (NamesPast 0) (sym (c.in_ok-stores.ensures.items_if_clones_equal (λ y e. e))) (past_none _);
  calls_past = λ past. refl;
}

pub returns-clause-tables : goal.returns-clause-tables
returns-clause-tables c =
    let g = c.args.graph.now in
    let members : length c.in_ok-members.members.items ≡ length g.blocks = ap length (c.in_ok-members.ensures.items_if_clones_equal (λ y e. e)) ∙ length-replicate _ _ ∙ c.len.ensures.len in
    let writers : length c.in_ok-writers.writers.items ≡ length g.banks = ap length (c.in_ok-writers.ensures.items_if_clones_equal (λ y e. e)) ∙ length-replicate _ _ ∙ c.len-2.ensures.len in
    let stores : length c.in_ok-stores.stores.items ≡ length g.arrays = ap length (c.in_ok-stores.ensures.items_if_clones_equal (λ y e. e)) ∙ length-replicate _ _ ∙ c.len-4.ensures.len in
    let few : length g.blocks < 2 ^ 32 = omega (arith, c.len.ensures.len, c.len.ensures.few) in
    let sources : SourcesOf g.blocks g.blocks c.in_ok-sources.sources.items = subst (λ (b : List Block). length b < 2 ^ 32 → SourcesOf b b c.in_ok-sources.sources.items) c.as_slice-2.ensures c.in_ok-sources.ensures few in
    tables_made g _ _ _ _ members writers stores sources

pub returns-clause-nothing : goal.returns-clause-nothing
returns-clause-nothing c = nothing_noted c.in_ok-members.members.items c.in_ok-writers.writers.items c.in_ok-times.times.items c.in_ok-stores.stores.items _ _ _ (c.in_ok-members.ensures.items_if_clones_equal (λ y e. e)) (c.in_ok-writers.ensures.items_if_clones_equal (λ y e. e)) (c.in_ok-stores.ensures.items_if_clones_equal (λ y e. e))
