use Rattle.std.proofs.Common.{◌++◌, ◌∙◌, ap}
use Rattle.vx_region.specs.Planned.{made_at_joins, made_at_splits}
use Rattle.vx_region.proofs.made.made_blocks.Goals as goal

pub returns : goal.returns
returns c =
    let p = c.args.placed.now in
    c.in_ok-push_joins.ensures ∙ ap (λ l. l ++ made_at_joins p p.clustered.trace.joins c.args.rejoins.now) (c.in_ok-push_splits.ensures ∙ ap (λ l. l ++ made_at_splits p c.args.splits.now) c.new-made.ensures)
