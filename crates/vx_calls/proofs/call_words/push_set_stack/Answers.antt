use Rattle.std.proofs.Common.{◌≡◌, ◌++◌, ◌∷◌, [], ℕ, ℤ, List, to_z, of_z, w32, rules, ap, ◌∙◌}
use Rattle.std.proofs.lemmas.Result.{IfOk-equal}
use Rattle.vx_isa.specs.declared.operation.Operation.{Operation}
use Rattle.vx_isa.specs.declared.operation.Operation.TheVariants.{Move}
use Rattle.vx_isa.specs.declared.operation.Source.TheVariants.{Number}
use Rattle.vx_isa.specs.declared.program.Word.{Word}
use Rattle.vx_target.specs.Target.{bytes, on_clusters, settled, stack_on}
use Rattle.vx_slots.specs.Seen.{seen}
use Rattle.vx_calls.proofs.call_words.push_set_stack.Goals as goal

abbrev at_once : List Operation → Word
at_once ops = record { ops = ops; idle = 0 }

abbrev Placed : ℤ → ℕ → Operation
Placed address k = Move k (stack_on k) (Number address)

pub returns : goal.returns
returns c =
    let T = seen c.args.whole.now in
    let old = c.args.words.now in
    let begin = c.in_ok-begin.begin in
    let fit : to_z w32 (of_z w32 begin) ≡ begin = search rules in
    IfOk-equal _ _ _ _ c.push_settled_word.ensures
    (ap (λ (ops : List Operation). old ++ settled T (at_once ops ∷ []))
    (c.in_ok-ops.ensures
    ∙ ap (λ (n : ℕ). on_clusters n (Placed (to_z w32 (of_z w32 begin)))) c.clusters.ensures
    ∙ ap (λ (z : ℤ). on_clusters T.machine.clusters (Placed z)) (fit ∙ c.in_ok-begin.ensures ∙ ap bytes c.in_ok-first_frame.ensures)))
