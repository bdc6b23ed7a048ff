-- The operation stands behind those of its word.
use Rattle.std.proofs.Common.{◌∙◌, Ok, ap, sym}
use Rattle.vx_reader.specs.declared.before.Before.{Before}
use Rattle.vx_reader.specs.declared.before.Stage.TheVariants.{Operations}
use Rattle.vx_reader.proofs.steps.add_operation.Goals as goal

pub returns : goal.returns
returns c =
    let before : Before = c.args.before.now in
    c.in_default.ensures.none ∙ ap (λ ops. Ok (record before { stage = Operations; ops = ops })) (sym c.in_ok-push.ensures.ok)
