use Rattle.std.proofs.Common.{arith}
use Rattle.vx_ast.specs.declared.token.Mark.TheVariants as marks
use Rattle.vx_parse.proofs.HandedOn.{handed_on}
use Rattle.vx_parse.proofs.Tokens.{passes_mark}
use Rattle.vx_parse.proofs.Expressions.{map_ok, map_err}
use Rattle.vx_parse.proofs.Parts.{past_token, within_phrase, misfit_name}
use Rattle.vx_parse.proofs.Definitions.{comma_before, next_global}
use Rattle.vx_parse.proofs.definition.read_next_global.Goals as goal

pub read_name-requires-clause-within : goal.read_name-requires-clause-within
read_name-requires-clause-within c =
    (passes_mark c.args.tokens.now c.args.place marks.Comma c.requires.ended c.requires.within c.requires.comma).within

pub returns-in_err-name-clause-stop : goal.returns-in_err-name-clause-stop
returns-in_err-name-clause-stop c =
    let p = passes_mark c.args.tokens.now c.args.place marks.Comma c.requires.ended c.requires.within c.requires.comma in
    let b = comma_before c.args.tokens.now c.args.place p c.requires.within c.requires.comma in
    handed_on _ _ _ c.from_residual.ensures.1 (misfit_name b c.in_err-name.field-0.0 c.in_err-name.ensures.stop)

pub returns-clause-ok : goal.returns-clause-ok
returns-clause-ok c =
    let p = passes_mark c.args.tokens.now c.args.place marks.Comma c.requires.ended c.requires.within c.requires.comma in
    map_ok c.read_global.result (λ r w. next_global c.args.tokens.now c.args.place r.next c.in_ok-name.name r.definition p c.requires.within c.requires.comma c.in_ok-name.ensures.ok w) c.read_global.ensures.ok

pub returns-clause-stop : goal.returns-clause-stop
returns-clause-stop c =
    let p = passes_mark c.args.tokens.now c.args.place marks.Comma c.requires.ended c.requires.within c.requires.comma in
    let b = comma_before c.args.tokens.now c.args.place p c.requires.within c.requires.comma in
    let b1 = past_token b c.in_ok-name.ensures.ok.passed in
    map_err c.read_global.result (λ s w. within_phrase b1 s w) c.read_global.ensures.stop

pub returns-clause-further : goal.returns-clause-further
returns-clause-further c =
    let g = c.in_ok-name.ensures.ok.passed.further in
    map_ok c.read_global.result (λ r w. let f = w.further in omega arith) c.read_global.ensures.ok

pub read_global-requires-clause-ended : goal.read_global-requires-clause-ended
read_global-requires-clause-ended c = c.requires.ended

pub read_global-requires-clause-within : goal.read_global-requires-clause-within
read_global-requires-clause-within c = c.in_ok-name.ensures.ok.passed.within
