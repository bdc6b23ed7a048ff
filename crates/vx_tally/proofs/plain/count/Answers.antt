use Rattle.std.proofs.Common.{◌≡◌, ◌∙◌, ◌↔◌, true, sym, subst}
use Rattle.vx_base.specs.Outcome.{IsOver}
use Rattle.vx_flow.specs.Meaning.{graph_run}
use Rattle.vx_tally.proofs.Paths.{over_is}
use Rattle.vx_tally.proofs.plain.count.Goals as goal

pub returns-clause-counts : goal.returns-clause-counts
returns-clause-counts c = record {
  blocks = λ f b. c.in_ok-counts.ensures.blocks f b ∙ c.in_ok-run.ensures.tally.blocks f b;
  edges = λ f b d. c.in_ok-counts.ensures.edges f b d ∙ c.in_ok-run.ensures.tally.edges f b d;
}

pub returns-clause-complete : goal.returns-clause-complete
returns-clause-complete c =
    let o = graph_run c.args.flow.now c.args.input.now c.args.blocks in
    subst (λ b. (b ≡ true) ↔ IsOver o) (sym c.has_ended-complete.ensures) (over_is c.in_ok-run.run'.ending c.in_ok-run.run'.machine.storage.out.items o c.in_ok-run.ensures.outcome)
