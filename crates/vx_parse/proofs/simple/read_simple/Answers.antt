use Rattle.std.proofs.Common.{◌≡◌, [], ◌∷◌, drop, Some, subst}
use Rattle.vx_ast.specs.Phrases as phrases
use Rattle.vx_ast.specs.Phrases.{SimpleRest, A, parts_of}
use Rattle.vx_parse.specs.Reading.{next_kind}
use Rattle.vx_parse.proofs.HandedOn.{handed_on}
use Rattle.vx_parse.proofs.Expressions.{map_ok, map_err}
use Rattle.vx_parse.proofs.Parts.{past_phrase, within_phrase}
use Rattle.vx_parse.proofs.Simples.{operand_parted, simple_before, simple_is}
use Rattle.vx_parse.proofs.simple.read_simple.Goals as goal

pub returns-in_err-operand-clause-stop : goal.returns-in_err-operand-clause-stop
returns-in_err-operand-clause-stop c =
    let p : parts_of phrases.Simple (next_kind (drop c.args.place c.args.tokens.now)) ≡ Some (A phrases.Expression ∷ A SimpleRest ∷ []) = subst (λ z. parts_of phrases.Simple z ≡ Some (A phrases.Expression ∷ A SimpleRest ∷ [])) c.kind_at.ensures (c.is_step.ensures.no c.if-is_step.false) in
    let b = simple_before c.args.tokens.now c.args.place c.args.depth c.requires.within c.requires.depth p in
    handed_on _ _ _ c.from_residual.ensures.1 (within_phrase b c.in_err-operand.field-0.0 c.in_err-operand.ensures.stop)

pub returns-clause-ok : goal.returns-clause-ok
returns-clause-ok c =
    let p : parts_of phrases.Simple (next_kind (drop c.args.place c.args.tokens.now)) ≡ Some (A phrases.Expression ∷ A SimpleRest ∷ []) = subst (λ z. parts_of phrases.Simple z ≡ Some (A phrases.Expression ∷ A SimpleRest ∷ [])) c.kind_at.ensures (c.is_step.ensures.no c.if-is_step.false) in
    map_ok c.read_done_to.result (λ r w. simple_is c.args.tokens.now c.args.place c.args.depth r.next c.in_ok-operand.operand c.place_at.result r.simple c.requires.within c.requires.depth p c.in_ok-operand.ensures.ok c.place_at.ensures w) c.read_done_to.ensures.ok

pub returns-clause-stop : goal.returns-clause-stop
returns-clause-stop c =
    let p : parts_of phrases.Simple (next_kind (drop c.args.place c.args.tokens.now)) ≡ Some (A phrases.Expression ∷ A SimpleRest ∷ []) = subst (λ z. parts_of phrases.Simple z ≡ Some (A phrases.Expression ∷ A SimpleRest ∷ [])) c.kind_at.ensures (c.is_step.ensures.no c.if-is_step.false) in
    let b = past_phrase (simple_before c.args.tokens.now c.args.place c.args.depth c.requires.within c.requires.depth p) (operand_parted c.in_ok-operand.ensures.ok) in
    map_err c.read_done_to.result (λ s w. within_phrase b s w) c.read_done_to.ensures.stop

pub read_done_to-requires-clause-depth : goal.read_done_to-requires-clause-depth
read_done_to-requires-clause-depth c = c.requires.depth

pub read_done_to-requires-clause-ended : goal.read_done_to-requires-clause-ended
read_done_to-requires-clause-ended c = c.requires.ended

pub read_expression-requires-clause-depth : goal.read_expression-requires-clause-depth
read_expression-requires-clause-depth c = c.requires.depth

pub read_expression-requires-clause-ended : goal.read_expression-requires-clause-ended
read_expression-requires-clause-ended c = c.requires.ended

pub read_expression-requires-clause-within : goal.read_expression-requires-clause-within
read_expression-requires-clause-within c = c.requires.within

pub read_stepped-requires-clause-depth : goal.read_stepped-requires-clause-depth
read_stepped-requires-clause-depth c = c.requires.depth

pub read_stepped-requires-clause-ended : goal.read_stepped-requires-clause-ended
read_stepped-requires-clause-ended c = c.requires.ended

pub read_stepped-requires-clause-within : goal.read_stepped-requires-clause-within
read_stepped-requires-clause-within c = c.requires.within

pub place_at-requires : goal.place_at-requires
place_at-requires c = c.requires.within

pub read_done_to-requires-clause-within : goal.read_done_to-requires-clause-within
read_done_to-requires-clause-within c = c.in_ok-operand.ensures.ok.within
