use Rattle.std.proofs.Common.{◌≡◌, [], ◌∷◌, drop, refl, subst}
use Rattle.vx_ast.specs.declared.syntax.Simple.TheVariants as simples
use Rattle.vx_ast.specs.Phrases as phrases
use Rattle.vx_ast.specs.Phrases.{The, A, simple_rest}
use Rattle.vx_parse.specs.Choices.{FollowedBy}
use Rattle.vx_parse.specs.declared.choice.Following.TheVariants as following
use Rattle.vx_parse.specs.Reading.{next_kind}
use Rattle.vx_parse.proofs.Parts.{within_phrase}
use Rattle.vx_parse.proofs.Simples.{rest_passed, value_rest, step_behind, value_behind, nothing_behind}
use Rattle.vx_parse.proofs.simple.read_done_to.Goals as goal

pub read_expression-requires-clause-within : goal.read_expression-requires-clause-within
read_expression-requires-clause-within c =
    let w : FollowedBy following.Value c.kind_at-kind.result.now = subst (λ z. FollowedBy z c.kind_at-kind.result.now) c.in-Value.is c.what_follows.ensures in
    let s : simple_rest (next_kind (drop c.args.place c.args.tokens.now)) ≡ The (next_kind (drop c.args.place c.args.tokens.now)) ∷ A phrases.Expression ∷ [] = subst (λ z. FollowedBy following.Value z) c.kind_at-kind.ensures w in
    (rest_passed c.args.tokens.now c.args.place (A phrases.Expression ∷ []) c.requires.ended c.requires.within s).within

pub returns-in-Err-clause-stop : goal.returns-in-Err-clause-stop
returns-in-Err-clause-stop c =
    let w : FollowedBy following.Value c.kind_at-kind.result.now = subst (λ z. FollowedBy z c.kind_at-kind.result.now) c.in-Value.is c.what_follows.ensures in
    let s : simple_rest (next_kind (drop c.args.place c.args.tokens.now)) ≡ The (next_kind (drop c.args.place c.args.tokens.now)) ∷ A phrases.Expression ∷ [] = subst (λ z. FollowedBy following.Value z) c.kind_at-kind.ensures w in
    let p = rest_passed c.args.tokens.now c.args.place (A phrases.Expression ∷ []) c.requires.ended c.requires.within s in
    let b = value_rest c.args.tokens.now c.args.place c.args.depth p c.requires.within c.requires.depth s in
    within_phrase b c.in-Err.stop c.in-Err.ensures.stop

pub returns-in-Step-clause-ok : goal.returns-in-Step-clause-ok
returns-in-Step-clause-ok c =
    let w : FollowedBy following.Step c.kind_at-kind.result.now = subst (λ z. FollowedBy z c.kind_at-kind.result.now) c.in-Step.is c.what_follows.ensures in
    let s : simple_rest (next_kind (drop c.args.place c.args.tokens.now)) ≡ The (next_kind (drop c.args.place c.args.tokens.now)) ∷ [] = subst (λ z. FollowedBy following.Step z) c.kind_at-kind.ensures w in
    let p = rest_passed c.args.tokens.now c.args.place [] c.requires.ended c.requires.within s in
    step_behind c.args.tokens.now c.args.place c.args.depth _ _ _ p c.requires.within c.requires.depth s c.kind_at-kind.ensures c.step.ensures

pub returns-in-Ok-clause-ok : goal.returns-in-Ok-clause-ok
returns-in-Ok-clause-ok c =
    let w : FollowedBy following.Value c.kind_at-kind.result.now = subst (λ z. FollowedBy z c.kind_at-kind.result.now) c.in-Value.is c.what_follows.ensures in
    let s : simple_rest (next_kind (drop c.args.place c.args.tokens.now)) ≡ The (next_kind (drop c.args.place c.args.tokens.now)) ∷ A phrases.Expression ∷ [] = subst (λ z. FollowedBy following.Value z) c.kind_at-kind.ensures w in
    let p = rest_passed c.args.tokens.now c.args.place (A phrases.Expression ∷ []) c.requires.ended c.requires.within s in
    value_behind c.args.tokens.now c.args.place c.args.depth c.in-Ok.value _ _ _ p c.requires.within c.requires.depth s c.in-Ok.ensures.ok c.kind_at-kind.ensures c.assign.ensures

pub returns-in-Nothing-clause-ok : goal.returns-in-Nothing-clause-ok
returns-in-Nothing-clause-ok c =
    let w : FollowedBy following.Nothing c.kind_at-kind.result.now = subst (λ z. FollowedBy z c.kind_at-kind.result.now) c.in-Nothing.is c.what_follows.ensures in
    let s : simple_rest (next_kind (drop c.args.place c.args.tokens.now)) ≡ [] = subst (λ z. FollowedBy following.Nothing z) c.kind_at-kind.ensures w in
    nothing_behind c.args.tokens.now c.args.place c.args.depth _ (simples.Evaluate c.args.target.expression) c.requires.within c.requires.depth s refl

pub read_expression-requires-clause-depth : goal.read_expression-requires-clause-depth
read_expression-requires-clause-depth c = c.requires.depth

pub read_expression-requires-clause-ended : goal.read_expression-requires-clause-ended
read_expression-requires-clause-ended c = c.requires.ended
