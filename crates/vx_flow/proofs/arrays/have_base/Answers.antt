use Rattle.std.proofs.Common.{sym, ap, ◌∙◌, take_all}
use Rattle.std.specs.List.{list_any}
use Rattle.std.proofs.lemmas.List.Folds.{list_any_at}
use Rattle.vx_flow.specs.Sound.{has_base}
use Rattle.vx_flow.proofs.SoundLists.{any_more}
use Rattle.vx_flow.proofs.arrays.have_base.Goals as goal

pub loop-array-preserved : goal.loop-array-preserved
loop-array-preserved c = any_more has_base c.args.arrays.now c.loop-array.array-index _ c.has_base.result c.loop-array-test.true c.loop-array.invariant c.has_base.ensures c.if-has_base.false

pub returns-then-has_base : goal.returns-then-has_base
returns-then-has_base c = sym (list_any_at has_base c.args.arrays.now c.loop-array.array-index _ c.loop-array-test.true (sym c.has_base.ensures ∙ c.if-has_base.true))

pub returns : goal.returns
returns c = sym c.loop-array.invariant ∙ ap (list_any has_base) (take_all c.loop-array.array-index c.args.arrays.now c.loop-array-test.false)
