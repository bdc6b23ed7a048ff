use Rattle.std.proofs.Common.{◌≡◌, ◌≤◌, true, Some, subst, sym, inl, inr, arith, ◌<◌, length}
use Rattle.vx_flow.specs.Closing.{mark_at}
use Rattle.vx_flow.specs.Live.{first_touch}
use Rattle.vx_flow.proofs.IndexSteps.{read_below, get_some, get_below}
use Rattle.vx_flow.proofs.route_index.readers_of.Goals as goal

pub list_reads-requires : goal.list_reads-requires
list_reads-requires c = λ v. let h : mark_at c.loop-index.marks.items v ≤ c.loop-index.index = c.loop-index.invariant.most v in omega (arith, h)

pub loop-index-preserved : goal.loop-index-preserved
loop-index-preserved c = record {
  found = read_below c.args.routes.now c.loop-index.rows c.list_reads.new.rows c.loop-index.index c.index-routes-index.result c.loop-index.invariant.found (get_some c.args.routes.now c.loop-index.index c.index-routes-index.result c.loop-index-test.true c.index-routes-index.is) c.in_ok-list_reads.ensures.keeps (λ v m. c.in_ok-list_reads.ensures.has v (subst (λ l. first_touch v l ≡ Some true) (sym c.as_slice.ensures) m));
  most = c.in_ok-list_reads.ensures.marks;
}

pub returns : goal.returns
returns c = λ i k r e m. elim (c.loop-index.invariant.found.found i k r e m) [ inl a ↦ a | inr b ↦ let h : i < length c.args.routes.now = get_below c.args.routes.now i r e in absurd (omega arith) ]
