use Rattle.std.proofs.Common.{◌∷◌, ◌++◌, ◌∙◌, [], None, Option, List, ap, append_assoc}
use Rattle.std.specs.Prelude.{ℕ, replicate}
use Rattle.std.proofs.lemmas.List.{replicate_more}
use Rattle.vx_replace.proofs.trace.push_none.Goals as goal

pub loop-op-preserved : goal.loop-op-preserved
loop-op-preserved c =
    c.in_ok-push.ensures.ok
    ∙ ap (λ (z : List (Option ℕ)). z ++ None ∷ []) c.loop-op.invariant
    ∙ append_assoc c.args.fixed.now (replicate c.loop-op._op None) (None ∷ [])
    ∙ ap (λ (z : List (Option ℕ)). c.args.fixed.now ++ z) (replicate_more c.loop-op._op None)
