use Rattle.std.proofs.Common.{◌≡◌, ◌+◌, ◌≤◌, ◌∙◌, List, ap, arith, length, subst, sym, take, take_all}
use Rattle.vx_flow.specs.Meaning.{bases_in}
use Rattle.vx_tally.proofs.Passing.{BasedIn, based_here, based_none, based_past}
use Rattle.vx_tally.proofs.entering.based_len.Goals.{then-has_base, else-has_base}
use Rattle.vx_tally.proofs.entering.based_len.Goals as goal

pub loop-index-init : goal.loop-index-init
loop-index-init c = based_none c.args.arrays.now

pub loop-index-preserved : goal.loop-index-preserved
loop-index-preserved c =
    elim c.if-has_base.branch [
      | then-has_base w ↦ subst (BasedIn c.args.arrays.now (c.loop-index.index + 1)) (sym w.count-is) (based_here c.args.arrays.now c.loop-index.index _ c.loop-index-test.true (sym c.has_base.ensures ∙ w.if-has_base.true))
      | else-has_base w ↦ subst (BasedIn c.args.arrays.now (c.loop-index.index + 1)) (sym w.count-is) (based_past c.args.arrays.now c.loop-index.index c.loop-index.count _ c.loop-index-test.true (sym c.has_base.ensures ∙ w.if-has_base.false) c.loop-index.invariant)
    ]
