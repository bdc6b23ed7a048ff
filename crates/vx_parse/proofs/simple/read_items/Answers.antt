use Rattle.std.proofs.Common.{◌≡◌, [], ◌∷◌, ◌++◌, refl, ap, ◌∙◌}
use Rattle.vx_parse.proofs.HandedOn.{handed_on}
use Rattle.vx_parse.proofs.Expressions.{map_ok, map_err}
use Rattle.vx_parse.proofs.Parts.{past_phrase, within_phrase}
use Rattle.vx_parse.proofs.Simples.{items_start, items_are}
use Rattle.vx_parse.proofs.simple.read_items.Goals as goal

pub returns-in_err-first-clause-stop : goal.returns-in_err-first-clause-stop
returns-in_err-first-clause-stop c =
    let b = items_start c.args.tokens.now c.args.place c.args.depth c.requires.within c.requires.depth in
    handed_on _ _ _ c.from_residual.ensures.1 (within_phrase b c.in_err-first.field-0.0 c.in_err-first.ensures.stop)

pub returns-clause-ok : goal.returns-clause-ok
returns-clause-ok c =
    let items : c.append.new.items.items ≡ c.in_ok-first.first.item ∷ [] = c.in_ok-append.ensures.ok ∙ ap (λ l. l ++ (c.in_ok-first.first.item ∷ [])) c.new-items.ensures.items in
    map_ok c.read_more_items.result (λ r w. items_are c.args.tokens.now c.args.place c.args.depth c.in_ok-first.first _ r c.requires.within c.requires.depth c.in_ok-first.ensures.ok items refl w) c.read_more_items.ensures.ok

pub returns-clause-stop : goal.returns-clause-stop
returns-clause-stop c =
    let b = past_phrase (items_start c.args.tokens.now c.args.place c.args.depth c.requires.within c.requires.depth) c.in_ok-first.ensures.ok.parted in
    map_err c.read_more_items.result (λ s w. within_phrase b s w) c.read_more_items.ensures.stop

pub read_item-requires-clause-within : goal.read_item-requires-clause-within
read_item-requires-clause-within c = c.requires.within

pub read_more_items-requires-clause-depth : goal.read_more_items-requires-clause-depth
read_more_items-requires-clause-depth c = c.requires.depth

pub read_more_items-requires-clause-ended : goal.read_more_items-requires-clause-ended
read_more_items-requires-clause-ended c = c.requires.ended

pub read_more_items-requires-clause-within : goal.read_more_items-requires-clause-within
read_more_items-requires-clause-within c = c.in_ok-first.ensures.ok.parted.within
