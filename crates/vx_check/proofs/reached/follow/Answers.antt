use Rattle.std.proofs.Common.{◌+◌, ℕ, List, ◌++◌, subst, ap, ◌∙◌}
use Rattle.std.proofs.lemmas.Result.{IfOk-weaker}
use Rattle.vx_isa.specs.declared.operation.Operation.{Operation}
use Rattle.vx_check.specs.InFlight.{Marked, Reaching, places_of}
use Rattle.vx_check.proofs.Reaches.{followed}
use Rattle.vx_check.proofs.reached.follow.Goals as goal

pub returns-clause-after : goal.returns-clause-after
returns-clause-after c =
    let at = c.word_at-word.ensures in
    IfOk-weaker c.mark_all.result (λ x. Marked c.as_slice-2.result.now c.args.marks.now.items c.mark_all.new.marks.items c.args.waiting.now.items c.mark_all.new.waiting.items)
    (λ x. Reaching c.args.program.now c.mark_all.new.marks.items c.mark_all.new.waiting.items)
    (λ x k. followed c.args.program.now c.args.place c.word_at-word.result.now c.args.marks.now.items c.mark_all.new.marks.items c.args.waiting.now.items c.mark_all.new.waiting.items at
    (c.requires.one_by_one c.word_at-word.result.now at) c.requires.before
    (subst (λ (l : List ℕ). Marked l c.args.marks.now.items c.mark_all.new.marks.items c.args.waiting.now.items c.mark_all.new.waiting.items)
    (c.as_slice-2.ensures.value ∙ c.in_ok-put_places.ensures ∙ ap (λ (l : List ℕ). l ++ places_of c.as_slice.result.now (c.args.place + 1)) c.new-places.ensures.items ∙ ap (λ (ops : List Operation). places_of ops (c.args.place + 1)) c.as_slice.ensures) k))
    c.mark_all.ensures
