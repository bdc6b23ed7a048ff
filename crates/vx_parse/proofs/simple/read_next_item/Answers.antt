use Rattle.std.proofs.Common.{arith}
use Rattle.vx_ast.specs.declared.token.Mark.TheVariants as marks
use Rattle.vx_parse.proofs.Tokens.{passes_mark}
use Rattle.vx_parse.proofs.Expressions.{map_ok, map_err}
use Rattle.vx_parse.proofs.Parts.{within_phrase}
use Rattle.vx_parse.proofs.Simples.{comma_before, next_item}
use Rattle.vx_parse.proofs.simple.read_next_item.Goals as goal

pub read_item-requires-clause-within : goal.read_item-requires-clause-within
read_item-requires-clause-within c = (passes_mark c.args.tokens.now c.args.place marks.Comma c.requires.ended c.requires.within c.requires.comma).within

pub returns-clause-ok : goal.returns-clause-ok
returns-clause-ok c =
    let p = passes_mark c.args.tokens.now c.args.place marks.Comma c.requires.ended c.requires.within c.requires.comma in
    map_ok c.read_item.result (λ r w. next_item c.args.tokens.now c.args.place c.args.depth r.next r.item p c.requires.within c.requires.depth c.requires.comma w) c.read_item.ensures.ok

pub returns-clause-stop : goal.returns-clause-stop
returns-clause-stop c =
    let p = passes_mark c.args.tokens.now c.args.place marks.Comma c.requires.ended c.requires.within c.requires.comma in
    let b = comma_before c.args.tokens.now c.args.place c.args.depth p c.requires.within c.requires.depth c.requires.comma in
    map_err c.read_item.result (λ s w. within_phrase b s w) c.read_item.ensures.stop

pub returns-clause-further : goal.returns-clause-further
returns-clause-further c = map_ok c.read_item.result (λ r w. let f = w.further in omega arith) c.read_item.ensures.ok
