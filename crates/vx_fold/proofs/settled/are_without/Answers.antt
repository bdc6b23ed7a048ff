use Rattle.std.proofs.Common.{◌∙◌, ap, sym, take_all}
use Rattle.std.specs.List.{list_all}
use Rattle.vx_fold.specs.Folding.{no_number, numbers_of}
use Rattle.vx_fold.proofs.Alls.{one_fails, one_more}
use Rattle.vx_fold.proofs.settled.are_without.Goals as goal

pub loop-value-preserved : goal.loop-value-preserved
loop-value-preserved c = one_more (λ v. no_number (numbers_of c.args.numbers.now v)) c.args.values.now c.loop-value.value-index _ c.is_without.result c.loop-value-test.true c.loop-value.invariant c.is_without.ensures c.if-not-is_without.false

pub returns-then-not-is_without : goal.returns-then-not-is_without
returns-then-not-is_without c = one_fails (λ v. no_number (numbers_of c.args.numbers.now v)) c.args.values.now c.loop-value.value-index _ c.is_without.result c.loop-value-test.true c.is_without.ensures c.if-not-is_without.true

pub returns : goal.returns
returns c = sym (ap (list_all (λ v. no_number (numbers_of c.args.numbers.now v))) (sym (take_all c.loop-value.value-index c.args.values.now c.loop-value-test.false)) ∙ c.loop-value.invariant)
