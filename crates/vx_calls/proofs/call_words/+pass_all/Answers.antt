use Rattle.std.proofs.Common.{◌≡◌, ◌++◌, ◌∷◌, [], ℕ, List, sym, ap, ◌∙◌}
use Rattle.std.proofs.lemmas.Result.{IfOk-equal}
use Rattle.vx_flow.specs.declared.graph.Operand.{Operand}
use Rattle.vx_isa.specs.declared.operation.Operation.{Operation}
use Rattle.vx_isa.specs.declared.operation.Operation.TheVariants.{Call}
use Rattle.vx_isa.specs.declared.program.Word.{Word}
use Rattle.vx_target.specs.Target.{Target, argument_words, passes}
use Rattle.vx_slots.specs.Seen.{seen}
use Rattle.vx_calls.proofs.CallSteps.{passed_more}
use Rattle.vx_calls.proofs.call_words.+pass_all.Goals as goal

-- the word of a store and a call, by its parts
word_is : (T : Target) (f g v : ℕ) (x : Operand) (store call : Operation) (word : Word) → store ≡ passes T f g v x → call ≡ Call (T.entry g) → word ≡ record { ops = store ∷ call ∷ []; idle = 0 } → word ≡ record { ops = passes T f g v x ∷ Call (T.entry g) ∷ []; idle = 0 }
word_is T f g v x store call word s k e = e ∙ ap (λ (o : Operation). record { ops = o ∷ call ∷ []; idle = 0 }) s ∙ ap (λ (o : Operation). record { ops = passes T f g v x ∷ o ∷ []; idle = 0 }) k

pub returns-in_ok-push_one-in-Some-split_first : goal.returns-in_ok-push_one-in-Some-split_first
returns-in_ok-push_one-in-Some-split_first t c =
    let T = seen c.args.whole.now in
    let f = c.args.function in
    let g = c.args.called in
    let old = c.args.words.now in
    let v = c.in-Some.parameter.now in
    let vs = c.in-Some.parameters.now in
    let x = c.in-Some-split_first.argument.now in
    let xs = c.in-Some-split_first.arguments.now in
    let word = c.in_ok-word-in-Some-split_first.word in
    let store = c.in_ok-store-in-Some-split_first.store in
    let is = word_is T f g v x store _ word c.in_ok-store-in-Some-split_first.ensures c.call_of-in-Some-split_first.ensures c.in_ok-word-in-Some-split_first.ensures in
    IfOk-equal _ _ _ _ c.pass_all.ensures
    (passed_more T f g v x vs xs old c.fetch.new.words word c.is_last.result c.in_ok-fetch-in-Some-split_first.ensures is c.is_last.ensures c.push_one-in-Some-split_first.new.words store c.in_ok-store-in-Some-split_first.ensures c.in_ok-push_one-in-Some-split_first.ensures c.if-is_last.false
    ∙ ap (λ (z : List ℕ). old ++ argument_words T f g z (x ∷ xs)) (sym c.in-Some.ensures.cases.0)
    ∙ ap (λ (z : List Operand). old ++ argument_words T f g c.args.parameters.now z) (sym c.in-Some-split_first.ensures.cases.0))
