use Rattle.std.proofs.Common.{ap, sym, subst, ◌∙◌}
use Rattle.vx_flow.specs.Meaning.{graph_run}
use Rattle.vx_tally.specs.Machine.{IsOutcome}
use Rattle.vx_tally.proofs.plain.run_plain.Goals as goal

pub returns : goal.returns
returns c =
    subst (λ out. IsOutcome c.in_ok-run.run'.ending out (graph_run c.args.flow.now c.args.input.now c.args.blocks))
    (sym (c.in_ok-out.ensures ∙ ap (λ v. v.items) c.replace-bytes.ensures.value))
    c.in_ok-run.ensures.outcome
