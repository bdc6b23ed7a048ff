use Rattle.std.proofs.Common.{sym, subst}
use Rattle.vx_region.specs.Regions.{ReplacesOne}
use Rattle.vx_region.proofs.step.replace_picked.Goals as goal

pub replace-requires-clause-trace : goal.replace-requires-clause-trace
replace-requires-clause-trace c = c.in_ok-plan.ensures.can.trace

pub replace-requires-clause-formed : goal.replace-requires-clause-formed
replace-requires-clause-formed c = c.in_ok-plan.ensures.can.formed

pub replace-requires-clause-names : goal.replace-requires-clause-names
replace-requires-clause-names c = c.in_ok-plan.ensures.can.names

pub replace-requires-clause-lists : goal.replace-requires-clause-lists
replace-requires-clause-lists c = c.in_ok-plan.ensures.can.lists

pub replace-requires-clause-words : goal.replace-requires-clause-words
replace-requires-clause-words c = c.in_ok-plan.ensures.can.words

pub replace-requires-clause-made : goal.replace-requires-clause-made
replace-requires-clause-made c = c.in_ok-plan.ensures.can.made

pub replace-requires-clause-stand : goal.replace-requires-clause-stand
replace-requires-clause-stand c = c.in_ok-plan.ensures.can.stand

pub replace-requires-clause-homes : goal.replace-requires-clause-homes
replace-requires-clause-homes c = c.in_ok-plan.ensures.can.homes

pub replace-requires-clause-away : goal.replace-requires-clause-away
replace-requires-clause-away c = c.in_ok-plan.ensures.can.away

pub returns-in-Ok-clause-replaced : goal.returns-in-Ok-clause-replaced
returns-in-Ok-clause-replaced c =
    subst (λ m. ReplacesOne c.args.machine.now c.args.counts.now c.args.budget.now.cap c.args.mixed.now c.args.budget.now.used c.in_ok-plan.field-0.plan m c.in_ok-plan.field-0.used) (sym c.in-Ok.ensures.next) c.in_ok-plan.ensures.one
