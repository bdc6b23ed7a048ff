use Rattle.std.proofs.Common.{◌++◌, ◌∷◌, [], ◌==◌, ◌&&◌, List, sym, ap, ◌∙◌}
use Rattle.std.proofs.lemmas.Result.{IfOk-equal}
use Rattle.vx_isa.specs.declared.program.Word.{Word}
use Rattle.vx_isa.specs.Fits.{fits}
use Rattle.vx_isa.specs.Operations.{latency_of}
use Rattle.vx_target.specs.Target.{one, settled}
use Rattle.vx_slots.specs.Seen.{seen}
use Rattle.vx_slots.proofs.Settling.{onto}
use Rattle.vx_slots.proofs.WordSteps.{in_one_word, in_words}
use Rattle.vx_slots.proofs.transfers.push_last.Goals as goal

pub returns-then-is_at_once : goal.returns-then-is_at_once
returns-then-is_at_once c =
    let T = seen c.args.whole.now in
    let old = c.args.words.now in
    c.in_ok-push.ensures.ok
    ∙ ap (λ (w : Word). old ++ w ∷ []) c.in_ok-word.ensures
    ∙ ap (λ (z : List Word). old ++ z) (sym (in_one_word T c.args.first c.args.last (ap (λ (w : Word). (latency_of T.machine c.args.first == 1) && fits T.machine w.ops) (sym c.in_ok-word.ensures) ∙ sym c.is_at_once.ensures ∙ c.if-is_at_once.true)))

pub returns : goal.returns
returns c =
    let T = seen c.args.whole.now in
    let old = c.args.words.now in
    let first = c.args.first in
    let last = c.args.last in
    IfOk-equal _ _ _ _ c.push_one.ensures
    (onto old c.push_settled.new.words (settled T (one first ∷ [])) (one last ∷ []) c.in_ok-push_settled.ensures
    ∙ ap (λ (z : List Word). old ++ z) (sym (in_words T first last (ap (λ (w : Word). (latency_of T.machine first == 1) && fits T.machine w.ops) (sym c.in_ok-word.ensures) ∙ sym c.is_at_once.ensures ∙ c.if-is_at_once.false))))
