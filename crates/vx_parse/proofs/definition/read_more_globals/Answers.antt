use Rattle.std.proofs.Common.{◌≡◌, drop, ◌∙◌}
use Rattle.vx_ast.specs.declared.token.Mark.TheVariants as marks
use Rattle.vx_ast.specs.declared.token.TokenKind.TheVariants as kinds
use Rattle.vx_parse.specs.Reading.{next_kind}
use Rattle.vx_parse.proofs.Loops.{continues_end, gathers_next}
use Rattle.vx_parse.proofs.Definitions.{no_more_globals}
use Rattle.vx_parse.proofs.definition.read_more_globals.Goals as goal

pub returns-then-not-is_mark-clause-ok : goal.returns-then-not-is_mark-clause-ok
returns-then-not-is_mark-clause-ok c =
    let g = c.globals.invariant in
    let n : next_kind (drop c.globals.all.next c.args.tokens.now) ≡ kinds.Mark marks.Comma → ⊥ = λ e. c.is_mark.ensures.no c.if-not-is_mark.true (c.kind_at.ensures ∙ e) in
    let w = no_more_globals c.args.tokens.now c.globals.all.next g.continues.within n in
    record { more = g.more; joined = g.joined; phrase = continues_end g.continues w.derivation w.parted w.means }

pub globals-preserved : goal.globals-preserved
globals-preserved c =
    gathers_next c.in_ok-global.global.definition c.globals.invariant c.in_ok-global.ensures.ok c.in_ok-append.ensures.ok

pub read_next_global-requires-clause-ended : goal.read_next_global-requires-clause-ended
read_next_global-requires-clause-ended c = c.requires.ended

pub read_next_global-requires-clause-within : goal.read_next_global-requires-clause-within
read_next_global-requires-clause-within c = c.globals.invariant.continues.within
