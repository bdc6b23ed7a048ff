use Rattle.std.proofs.Common.{◌≡◌, ◌++◌, ℕ, ℤ, List, to_z, of_z, w32, rules, ap, ◌∙◌}
use Rattle.std.proofs.lemmas.Result.{IfOk-equal}
use Rattle.vx_target.specs.Target.{bytes, move_stack, reload_words, result_words}
use Rattle.vx_slots.specs.Seen.{seen}
use Rattle.vx_slots.proofs.Settling.{onto}
use Rattle.vx_calls.proofs.call_words.push_back.Goals as goal

pub returns : goal.returns
returns c =
    let T = seen c.args.whole.now in
    let old = c.args.words.now in
    let step = c.in_ok-step.step in
    let fit : to_z w32 (of_z w32 step) ≡ step = search rules in
    let moved = move_stack T (to_z w32 (of_z w32 step)) in
    let taken = result_words T c.args.function c.args.taken in
    let next = c.in_ok-next.next in
    let back = reload_words T c.args.function next c.saved.result.now in
    IfOk-equal _ _ _ _ c.reload.ensures
    (onto c.move_stack.new.words c.take_result.new.words taken back c.in_ok-take_result.ensures
    ∙ onto old c.move_stack.new.words moved (taken ++ back) c.in_ok-move_stack.ensures
    ∙ ap (λ (z : ℤ). old ++ (move_stack T z ++ (taken ++ back))) (fit ∙ c.in_ok-step.ensures)
    ∙ ap (λ (z : List ℕ). old ++ (move_stack T (bytes T.frame) ++ (taken ++ reload_words T c.args.function next z))) c.saved.ensures
    ∙ ap (λ (n : ℕ). old ++ (move_stack T (bytes T.frame) ++ (taken ++ reload_words T c.args.function n (T.saved c.args.function c.args.place)))) c.in_ok-next.ensures)
