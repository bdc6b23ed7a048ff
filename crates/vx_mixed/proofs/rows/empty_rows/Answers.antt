use Rattle.std.proofs.Common.{◌≡◌, ◌++◌, ◌∷◌, [], ◌∙◌, ℕ, ap, arith}
use Rattle.std.specs.Prelude.{replicate}
use Rattle.std.proofs.lemmas.List.{replicate-append-replicate}
use Rattle.vx_mixed.proofs.rows.empty_rows.Goals as goal

pub loop-row-preserved : goal.loop-row-preserved
loop-row-preserved g c =
    c.in_ok-push.ensures.items
    ∙ ap (λ row. c.loop-row.rows.items ++ row ∷ []) c.new.ensures
    ∙ ap (λ rows. rows ++ [] ∷ []) c.loop-row.invariant
    ∙ replicate-append-replicate c.loop-row._row 1 []

pub returns : goal.returns
returns g c =
    let all : c.loop-row._row ≡ c.args.count = omega (arith, c.loop-row-test.false, c.loop-row.auto._row-end) in
    c.loop-row.invariant ∙ ap (λ (n : ℕ). replicate n []) all
