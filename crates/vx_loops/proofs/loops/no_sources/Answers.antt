use Rattle.std.proofs.Common.{◌≡◌, ◌+◌, ℕ, List, [], ◌∷◌, ◌++◌, ap, arith, ◌∙◌}
use Rattle.std.specs.Prelude.{replicate}
use Rattle.std.proofs.lemmas.List.{replicate-append-replicate}
use Rattle.vx_loops.proofs.loops.no_sources.Goals as goal

one_more : (rows new : List (List ℕ)) (row : List ℕ) (n : ℕ) → rows ≡ replicate n [] → row ≡ [] → new ≡ rows ++ row ∷ [] → new ≡ replicate (n + 1) []
one_more rows new row n r l e = e ∙ ap (λ (z : List (List ℕ)). z ++ row ∷ []) r ∙ ap (λ (z : List ℕ). replicate n [] ++ z ∷ []) l ∙ replicate-append-replicate n 1 []

pub loop-block-preserved : goal.loop-block-preserved
loop-block-preserved c = one_more c.loop-block.sources.items c.push.new.self.items c.new.result c.loop-block._block c.loop-block.invariant c.new.ensures c.in_ok-push.ensures.items

pub returns : goal.returns
returns c =
    let all : c.loop-block._block ≡ c.args.count = omega (arith, c.loop-block.far-_block, c.loop-block-test.false) in
    c.loop-block.invariant ∙ ap (λ (n : ℕ). replicate n []) all
