use Rattle.std.proofs.Common.{◌≡◌, drop, ◌∙◌}
use Rattle.vx_ast.specs.declared.token.Mark.TheVariants as marks
use Rattle.vx_ast.specs.declared.token.TokenKind.TheVariants as kinds
use Rattle.vx_parse.specs.Reading.{next_kind}
use Rattle.vx_parse.proofs.Loops.{continues_end, gathers_next}
use Rattle.vx_parse.proofs.Definitions.{no_more_parameters}
use Rattle.vx_parse.proofs.definition.read_more_parameters.Goals as goal

pub returns-then-not-is_mark-clause-ok : goal.returns-then-not-is_mark-clause-ok
returns-then-not-is_mark-clause-ok c =
    let g = c.parameters.invariant in
    let n : next_kind (drop c.parameters.all.next c.args.tokens.now) ≡ kinds.Mark marks.Comma → ⊥ = λ e. c.is_mark.ensures.no c.if-not-is_mark.true (c.kind_at.ensures ∙ e) in
    let w = no_more_parameters c.args.tokens.now c.parameters.all.next g.continues.within n in
    record { more = g.more; joined = g.joined; phrase = continues_end g.continues w.derivation w.parted w.means }

pub parameters-preserved : goal.parameters-preserved
parameters-preserved c =
    gathers_next c.in_ok-parameter.parameter.parameter c.parameters.invariant c.in_ok-parameter.ensures.ok c.in_ok-push.ensures.ok

pub read_next_parameter-requires-clause-ended : goal.read_next_parameter-requires-clause-ended
read_next_parameter-requires-clause-ended c = c.requires.ended

pub read_next_parameter-requires-clause-within : goal.read_next_parameter-requires-clause-within
read_next_parameter-requires-clause-within c = c.parameters.invariant.continues.within
