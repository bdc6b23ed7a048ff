use Rattle.std.proofs.Common.{◌≡◌, ◌++◌, [], ◌∷◌, append_assoc, length-append, length, ap, ◌∙◌}
use Rattle.vx_mixed.specs.LaidSettled.{laid_reads}
use Rattle.vx_slots.specs.Seen.{seen}
use Rattle.vx_target.specs.Target.{before, behind, plan_word}
use Rattle.vx_carry.proofs.carried_word.push_plan.Goals as goal

pub returns-clause-words : goal.returns-clause-words
returns-clause-words c =
    let T = seen c.args.whole.now in
    let plan = c.args.plan.now in
    let old = c.args.words.now in
    let first = before T plan.function (laid_reads plan.items.now) in
    let word = plan_word T plan.function plan.place plan.items.now in
    let rest = behind T plan.function plan.items.now in
    let loaded : c.push_before.new.words ≡ old ++ first = c.in_ok-push_before.ensures ∙ ap (λ xs. old ++ before T plan.function xs) (c.as_slice.ensures ∙ c.requires.reads) in
    let put : c.push.new.self ≡ (old ++ first) ++ word ∷ [] = c.in_ok-push.ensures.ok ∙ ap (λ w. c.push_before.new.words ++ w ∷ []) c.in_ok-plan_word.ensures ∙ ap (λ ws. ws ++ word ∷ []) loaded in
    c.in_ok-push_behind.ensures ∙ ap (λ ws. ws ++ rest) put ∙ append_assoc (old ++ first) (word ∷ []) rest ∙ append_assoc old first (word ∷ rest)

pub returns-clause-place : goal.returns-clause-place
returns-clause-place c =
    let T = seen c.args.whole.now in
    let plan = c.args.plan.now in
    let old = c.args.words.now in
    let first = before T plan.function (laid_reads plan.items.now) in
    let loaded : c.push_before.new.words ≡ old ++ first = c.in_ok-push_before.ensures ∙ ap (λ xs. old ++ before T plan.function xs) (c.as_slice.ensures ∙ c.requires.reads) in
    c.len-place.ensures.len ∙ ap length loaded ∙ length-append old first
