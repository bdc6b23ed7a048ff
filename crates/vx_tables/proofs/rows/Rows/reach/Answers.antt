use Rattle.std.proofs.Common.{ℕ, List, [], ◌∷◌, ◌++◌, ap, ◌∙◌}
use Rattle.vx_tables.specs.Rows.{row_at}
use Rattle.vx_tables.proofs.Members.{grown}
use Rattle.vx_tables.proofs.rows.Rows.reach.Goals as goal

pub loop-self-preserved : goal.loop-self-preserved
loop-self-preserved c = λ q.
    let rows = c.loop-self.self-inside.rows.items in
    ap (λ (l : List (List ℕ)). row_at l q) (c.in_ok-push.ensures.items ∙ ap (λ (r : List ℕ). rows ++ r ∷ []) c.new.ensures) ∙ grown rows [] q ∙ c.loop-self.invariant q
