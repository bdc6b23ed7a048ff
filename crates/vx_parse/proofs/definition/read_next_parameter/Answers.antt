use Rattle.std.proofs.Common.{arith}
use Rattle.vx_ast.specs.declared.token.Mark.TheVariants as marks
use Rattle.vx_parse.proofs.Tokens.{passes_mark}
use Rattle.vx_parse.proofs.Expressions.{map_ok, map_err}
use Rattle.vx_parse.proofs.Parts.{within_phrase}
use Rattle.vx_parse.proofs.Definitions.{next_before, next_parameter}
use Rattle.vx_parse.proofs.definition.read_next_parameter.Goals as goal

pub read_parameter-requires-clause-within : goal.read_parameter-requires-clause-within
read_parameter-requires-clause-within c =
    (passes_mark c.args.tokens.now c.args.place marks.Comma c.requires.ended c.requires.within c.requires.comma).within

pub returns-clause-ok : goal.returns-clause-ok
returns-clause-ok c =
    let p = passes_mark c.args.tokens.now c.args.place marks.Comma c.requires.ended c.requires.within c.requires.comma in
    map_ok c.read_parameter.result (λ r w. next_parameter c.args.tokens.now c.args.place r.next r.parameter p c.requires.within c.requires.comma w) c.read_parameter.ensures.ok

pub returns-clause-stop : goal.returns-clause-stop
returns-clause-stop c =
    let p = passes_mark c.args.tokens.now c.args.place marks.Comma c.requires.ended c.requires.within c.requires.comma in
    let b = next_before c.args.tokens.now c.args.place p c.requires.within c.requires.comma in
    map_err c.read_parameter.result (λ s w. within_phrase b s w) c.read_parameter.ensures.stop

pub returns-clause-further : goal.returns-clause-further
returns-clause-further c =
    map_ok c.read_parameter.result (λ r w. let f = w.further in omega arith) c.read_parameter.ensures.ok
