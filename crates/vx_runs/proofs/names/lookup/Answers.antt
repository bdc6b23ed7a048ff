-- The name is compared with each in turn.
use Rattle.std.proofs.Common.{sym, ◌∙◌}
use Rattle.vx_runs.proofs.Naming.{named_check, named_compile, named_exec, named_nothing, named_profile, named_sim, named_soak}
use Rattle.vx_runs.proofs.names.lookup.Goals as goal

pub returns-then-eq : goal.returns-then-eq
returns-then-eq c = named_compile c.args.name.now (sym c.eq.ensures ∙ c.if-eq.true)

pub returns-then-eq-2 : goal.returns-then-eq-2
returns-then-eq-2 c = named_sim c.args.name.now (sym c.eq.ensures ∙ c.if-eq.false) (sym c.eq-else-eq.ensures ∙ c.if-eq-2.true)

pub returns-then-eq-3 : goal.returns-then-eq-3
returns-then-eq-3 c = named_exec c.args.name.now (sym c.eq.ensures ∙ c.if-eq.false) (sym c.eq-else-eq.ensures ∙ c.if-eq-2.false) (sym c.eq-else-eq-2.ensures ∙ c.if-eq-3.true)

pub returns-then-eq-4 : goal.returns-then-eq-4
returns-then-eq-4 c = named_profile c.args.name.now (sym c.eq.ensures ∙ c.if-eq.false) (sym c.eq-else-eq.ensures ∙ c.if-eq-2.false) (sym c.eq-else-eq-2.ensures ∙ c.if-eq-3.false) (sym c.eq-else-eq-3.ensures ∙ c.if-eq-4.true)

pub returns-then-eq-5 : goal.returns-then-eq-5
returns-then-eq-5 c = named_soak c.args.name.now (sym c.eq.ensures ∙ c.if-eq.false) (sym c.eq-else-eq.ensures ∙ c.if-eq-2.false) (sym c.eq-else-eq-2.ensures ∙ c.if-eq-3.false) (sym c.eq-else-eq-3.ensures ∙ c.if-eq-4.false) (sym c.eq-else-eq-4.ensures ∙ c.if-eq-5.true)

pub returns-then-eq-6 : goal.returns-then-eq-6
returns-then-eq-6 c = named_check c.args.name.now (sym c.eq.ensures ∙ c.if-eq.false) (sym c.eq-else-eq.ensures ∙ c.if-eq-2.false) (sym c.eq-else-eq-2.ensures ∙ c.if-eq-3.false) (sym c.eq-else-eq-3.ensures ∙ c.if-eq-4.false) (sym c.eq-else-eq-4.ensures ∙ c.if-eq-5.false) (sym c.eq-else-eq-5.ensures ∙ c.if-eq-6.true)

pub returns-else-eq-6 : goal.returns-else-eq-6
returns-else-eq-6 c = named_nothing c.args.name.now (sym c.eq.ensures ∙ c.if-eq.false) (sym c.eq-else-eq.ensures ∙ c.if-eq-2.false) (sym c.eq-else-eq-2.ensures ∙ c.if-eq-3.false) (sym c.eq-else-eq-3.ensures ∙ c.if-eq-4.false) (sym c.eq-else-eq-4.ensures ∙ c.if-eq-5.false) (sym c.eq-else-eq-5.ensures ∙ c.if-eq-6.false)
