use Rattle.std.proofs.Common.{◌≡◌, ◌++◌, ◌∷◌, [], ◌∙◌, ap, arith, replicate}
use Rattle.std.proofs.lemmas.List.{replicate_more}
use Rattle.vx_tally.specs.Tally.{never}
use Rattle.vx_tally.proofs.tally.Row.empty.Goals as goal

pub entries-preserved : goal.entries-preserved
entries-preserved c = c.in_ok-push.ensures.items ∙ ap (λ entries. entries ++ c.none.result ∷ []) c.entries.invariant ∙ ap (λ entry. replicate c.entries.counter never ++ entry ∷ []) c.none.ensures ∙ replicate_more c.entries.counter never

pub returns : goal.returns
returns c =
    let all : c.entries.counter ≡ c.args.blocks = omega arith in
    c.entries.invariant ∙ ap (λ n. replicate n never) all
