use Rattle.std.proofs.Common.{◌∙◌, ap, sym, take_all}
use Rattle.std.specs.List.{list_all}
use Rattle.vx_rename.specs.Renaming.{array_enters}
use Rattle.vx_rename.proofs.Alls.{one_fails, one_more}
use Rattle.vx_rename.proofs.bases.arrays_enter.Goals as goal

pub loop-array-preserved : goal.loop-array-preserved
loop-array-preserved c = one_more (array_enters c.args.old.now c.args.new.now) c.args.arrays.now c.loop-array.array-index _ c.array_enters.result c.loop-array-test.true c.loop-array.invariant c.array_enters.ensures c.if-not-array_enters.false

pub returns-then-not-array_enters : goal.returns-then-not-array_enters
returns-then-not-array_enters c = one_fails (array_enters c.args.old.now c.args.new.now) c.args.arrays.now c.loop-array.array-index _ c.array_enters.result c.loop-array-test.true c.array_enters.ensures c.if-not-array_enters.true

pub returns : goal.returns
returns c = sym (ap (list_all (array_enters c.args.old.now c.args.new.now)) (sym (take_all c.loop-array.array-index c.args.arrays.now c.loop-array-test.false)) ∙ c.loop-array.invariant)
