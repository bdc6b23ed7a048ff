use Rattle.vx_inline.specs.CallPlaces.{ListsCalls}
use Rattle.vx_inline.specs.Counts.{calls_of}
use Rattle.vx_inline.specs.Keeping.{Knows}
use Rattle.vx_inline.proofs.Stepping.{Kept}
use Rattle.vx_inline.proofs.inlined_flow.inlined_all.Given as goal

abbrev pub invariant-sites : goal.invariant-sites
invariant-sites l = record {
  kept : Kept l.fn.counts l.fn.most l.fn.flow l.now.flow;
  known : Knows l.now.flow l.now.known;
  calls : ListsCalls l.now.flow l.now.calls.items;
}

abbrev pub decreases-sites : goal.decreases-sites
decreases-sites l = calls_of l.now.flow.functions
