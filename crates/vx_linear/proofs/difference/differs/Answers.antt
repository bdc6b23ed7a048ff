use Rattle.std.proofs.Common.{sym, ◌∙◌}
use Rattle.std.proofs.lemmas.Bool.{true≢false}
use Rattle.vx_linear.proofs.Equal.{two_never, two_always, equal_never, equal_always, divided_never, divided_always, left_never, left_always, steps_of, nat_is, nat_self}
use Rattle.vx_linear.proofs.difference.differs.Goals as goal

pub returns-then-are_apart-clause-never : goal.returns-then-are_apart-clause-never
returns-then-are_apart-clause-never c = two_never c.args.left.now c.args.right.now (sym c.are_apart.ensures ∙ c.if-are_apart.true)

pub returns-then-are_apart-clause-always : goal.returns-then-are_apart-clause-always
returns-then-are_apart-clause-always c = two_always c.args.left.now c.args.right.now (sym c.are_apart.ensures ∙ c.if-are_apart.true)

pub returns-then-are_equal-clause-never : goal.returns-then-are_equal-clause-never
returns-then-are_equal-clause-never c = equal_never c.args.left.now c.args.right.now (sym c.are_apart.ensures ∙ c.if-are_apart.false) (sym c.are_equal.ensures ∙ c.if-are_equal.true)

pub returns-then-are_equal-clause-always : goal.returns-then-are_equal-clause-always
returns-then-are_equal-clause-always c = equal_always c.args.left.now c.args.right.now (sym c.are_apart.ensures ∙ c.if-are_apart.false) (sym c.are_equal.ensures ∙ c.if-are_equal.true)

pub returns-then-is_multiple-clause-never : goal.returns-then-is_multiple-clause-never
returns-then-is_multiple-clause-never c = divided_never c.args.left.now c.args.right.now c.step_between-step.result (steps_of _ _ _ _ c.step_between-step.result c.as_slice.ensures c.as_slice-2.ensures c.step_between-step.ensures.steps) c.requires.left c.requires.right (sym c.are_apart.ensures ∙ c.if-are_apart.false) (nat_is _ _ (sym c.is_multiple.ensures ∙ c.if-is_multiple.true))

pub returns-then-is_multiple-clause-always : goal.returns-then-is_multiple-clause-always
returns-then-is_multiple-clause-always c = divided_always c.args.left.now c.args.right.now (sym c.are_equal.ensures ∙ c.if-are_equal.false)

pub returns-else-is_multiple-clause-never : goal.returns-else-is_multiple-clause-never
returns-else-is_multiple-clause-never c = left_never c.args.left.now c.args.right.now c.step_between-step.result (steps_of _ _ _ _ c.step_between-step.result c.as_slice.ensures c.as_slice-2.ensures c.step_between-step.ensures.steps) (λ h. true≢false (sym (nat_self _ _ h) ∙ sym c.is_multiple.ensures ∙ c.if-is_multiple.false))

pub returns-else-is_multiple-clause-always : goal.returns-else-is_multiple-clause-always
returns-else-is_multiple-clause-always c = left_always c.args.left.now c.args.right.now (sym c.are_equal.ensures ∙ c.if-are_equal.false)
