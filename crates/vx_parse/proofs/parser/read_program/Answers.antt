use Rattle.std.proofs.Common.{refl, sym, ◌∙◌}
use Rattle.vx_parse.proofs.Programs.{defined, parsed, undefined}
use Rattle.vx_parse.proofs.parser.read_program.Goals as goal

pub definitions-preserved-then-is_word : goal.definitions-preserved-then-is_word
definitions-preserved-then-is_word c = defined c.args.tokens.now c.definitions.all c.in_ok-all.all c.definitions.invariant c.in_ok-all.ensures.ok

pub definitions-preserved : goal.definitions-preserved
definitions-preserved c = defined c.args.tokens.now c.definitions.all c.in_ok-all-2.all c.definitions.invariant c.in_ok-all-2.ensures.ok

pub returns-then-is_end-clause-ok : goal.returns-then-is_end-clause-ok
returns-then-is_end-clause-ok c =
    parsed c.args.tokens.now c.definitions.all.next (record { definitions = c.definitions.all.definitions; end = c.place_at.result }) _ c.requires.ended c.definitions.invariant (sym c.kind_at-kind.ensures ∙ c.is_end.ensures.yes c.if-is_end.true) refl c.place_at.ensures

pub returns-else-is_end-clause-stop : goal.returns-else-is_end-clause-stop
returns-else-is_end-clause-stop c =
    undefined c.args.tokens.now c.definitions.all.next _ c.definitions.invariant (λ e. c.is_word.ensures.no c.if-is_word.false (c.kind_at-kind.ensures ∙ e)) (λ e. c.is_word-else-is_word.ensures.no c.if-is_word-2.false (c.kind_at-kind.ensures ∙ e))
    (λ e. c.is_end.ensures.no c.if-is_end.false (c.kind_at-kind.ensures ∙ e))
