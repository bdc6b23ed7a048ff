use Rattle.std.proofs.Common.{refl, ap, ◌∙◌, rules, w32, FitsSigned}
use Rattle.std.proofs.lemmas.Int.{to_z-of_z}
use Rattle.vx_ast.specs.Derivations.{words_of}
use Rattle.vx_parse.proofs.Tokens.{reads_size}
use Rattle.vx_parse.proofs.token.read_size.Goals as goal

pub returns-clause-ok : goal.returns-clause-ok
returns-clause-ok c =
    let f : FitsSigned w32 c.in_ok-number.number.value = search rules in
    reads_size c.args.tokens.now c.args.place c.in_ok-number.number _ c.in_ok-number.ensures.ok (c.words_of.ensures ∙ ap words_of (to_z-of_z w32 c.in_ok-number.number.value f)) c.place_at.ensures refl

pub read_number-requires-clause-within : goal.read_number-requires-clause-within
read_number-requires-clause-within c = c.requires.within
