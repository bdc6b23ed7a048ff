use Rattle.std.proofs.Common.{◌∙◌, ◌++◌, sym, ap, append-nil}
use Rattle.vx_mixed.specs.TraceOf.{joined}
use Rattle.vx_replace.proofs.TraceSteps.{no_join, one_join}
use Rattle.vx_replace.proofs.joins.push_join.Goals as goal

pub returns-then-is_empty : goal.returns-then-is_empty
returns-then-is_empty c =
    sym (append-nil c.args.joins.now) ∙ ap (λ l. c.args.joins.now ++ l) (sym (no_join c.args.place c.args.block c.in_ok-edges.edges (sym c.is_empty.ensures ∙ c.if-is_empty.true)) ∙ ap (joined c.args.place c.args.block) c.in_ok-edges.ensures)

pub returns : goal.returns
returns c =
    c.in_ok-push.ensures.ok ∙ ap (λ l. c.args.joins.now ++ l) (sym (one_join c.args.place c.args.block c.in_ok-edges.edges (sym c.is_empty.ensures ∙ c.if-is_empty.false)) ∙ ap (joined c.args.place c.args.block) c.in_ok-edges.ensures)
