use Rattle.std.proofs.Common.{◌≡◌, ◌++◌, ◌∷◌, [], ◌∙◌, ap, arith, replicate}
use Rattle.std.proofs.lemmas.List.{replicate_more}
use Rattle.vx_tally.proofs.cells.Cells.filled.Goals as goal

pub words-preserved : goal.words-preserved
words-preserved c = c.in_ok-push.ensures.items ∙ ap (λ words. words ++ c.args.content ∷ []) c.words.invariant ∙ replicate_more c.words.counter c.args.content

pub returns : goal.returns
returns c =
    let all : c.words.counter ≡ c.args.count = omega arith in
    c.words.invariant ∙ ap (λ n. replicate n c.args.content) all
