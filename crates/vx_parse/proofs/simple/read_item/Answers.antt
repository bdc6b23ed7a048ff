use Rattle.std.proofs.Common.{sym, subst}
use Rattle.vx_ast.specs.Phrases.{ItemValue}
use Rattle.vx_parse.specs.Reading.{IsPhrase}
use Rattle.vx_parse.specs.Statements.{MeansValue}
use Rattle.vx_parse.proofs.HandedOn.{handed_on}
use Rattle.vx_parse.proofs.Parts.{past_token, within_phrase, misfit_name}
use Rattle.vx_parse.proofs.Simples.{item_before, item_is}
use Rattle.vx_parse.proofs.simple.read_item.Goals as goal

pub returns-in_err-name-clause-stop : goal.returns-in_err-name-clause-stop
returns-in_err-name-clause-stop c =
    let b = item_before c.args.tokens.now c.args.place c.args.depth c.requires.within c.requires.depth in
    handed_on _ _ _ c.from_residual.ensures.1 (misfit_name b c.in_err-name.field-0.0 c.in_err-name.ensures.stop)

pub returns-in_err-given-clause-stop : goal.returns-in_err-given-clause-stop
returns-in_err-given-clause-stop c =
    let b = past_token (item_before c.args.tokens.now c.args.place c.args.depth c.requires.within c.requires.depth) c.in_ok-name.ensures.ok.passed in
    handed_on _ _ _ c.from_residual-in_err-given.ensures.1 (within_phrase b c.in_err-given.field-0.0 c.in_err-given.ensures.stop)

pub returns-clause-ok : goal.returns-clause-ok
returns-clause-ok c =
    let n = c.in_ok-name.name in
    let g = c.in_ok-given.given in
    let w = subst (λ z. IsPhrase ItemValue c.args.tokens.now n.next n.next g.next c.args.depth (MeansValue n.name z)) (sym c.item_with.ensures) (c.in_ok-given.ensures.ok n.name) in
    item_is c.args.tokens.now c.args.place c.args.depth g.next n c.item_with.result c.requires.within c.requires.depth c.in_ok-name.ensures.ok w

pub read_given-requires-clause-depth : goal.read_given-requires-clause-depth
read_given-requires-clause-depth c = c.requires.depth

pub read_given-requires-clause-ended : goal.read_given-requires-clause-ended
read_given-requires-clause-ended c = c.requires.ended

pub read_given-requires-clause-within : goal.read_given-requires-clause-within
read_given-requires-clause-within c = c.in_ok-name.ensures.ok.passed.within

pub read_name-requires-clause-within : goal.read_name-requires-clause-within
read_name-requires-clause-within c = c.requires.within
