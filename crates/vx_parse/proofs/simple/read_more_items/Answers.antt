use Rattle.std.proofs.Common.{◌≡◌, drop, ◌∙◌}
use Rattle.vx_ast.specs.declared.token.Mark.TheVariants as marks
use Rattle.vx_ast.specs.declared.token.TokenKind.TheVariants as kinds
use Rattle.vx_parse.specs.Reading.{next_kind}
use Rattle.vx_parse.proofs.Loops.{continues_end, gathers_next}
use Rattle.vx_parse.proofs.Simples.{no_more_items}
use Rattle.vx_parse.proofs.simple.read_more_items.Goals as goal

pub returns-then-not-is_mark-clause-ok : goal.returns-then-not-is_mark-clause-ok
returns-then-not-is_mark-clause-ok c =
    let g = c.items.invariant in
    let n : next_kind (drop c.items.all.next c.args.tokens.now) ≡ kinds.Mark marks.Comma → ⊥ = λ e. c.is_mark.ensures.no c.if-not-is_mark.true (c.kind_at.ensures ∙ e) in
    let w = no_more_items c.args.tokens.now c.items.all.next c.args.depth g.continues.within c.requires.depth n in
    record { more = g.more; joined = g.joined; phrase = continues_end g.continues w.derivation w.parted w.means }

pub items-preserved : goal.items-preserved
items-preserved c = gathers_next c.in_ok-item.item.item c.items.invariant c.in_ok-item.ensures.ok c.in_ok-append.ensures.ok

pub read_next_item-requires-clause-depth : goal.read_next_item-requires-clause-depth
read_next_item-requires-clause-depth c = c.requires.depth

pub read_next_item-requires-clause-ended : goal.read_next_item-requires-clause-ended
read_next_item-requires-clause-ended c = c.requires.ended

pub read_next_item-requires-clause-within : goal.read_next_item-requires-clause-within
read_next_item-requires-clause-within c = c.items.invariant.continues.within
