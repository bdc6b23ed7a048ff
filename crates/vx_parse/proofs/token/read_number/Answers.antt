use Rattle.std.proofs.Common.{sym, ◌∙◌, refl, rules, w32, FitsSigned}
use Rattle.std.proofs.lemmas.Int.{to_z-of_z}
use Rattle.vx_parse.proofs.Tokens.{reads_number}
use Rattle.vx_parse.proofs.token.read_number.Goals as goal

pub returns-in-Number-clause-ok : goal.returns-in-Number-clause-ok
returns-in-Number-clause-ok c =
    let f : FitsSigned w32 c.in-Number.value = search rules in
    reads_number c.args.tokens.now c.args.place c.in-Number.value _ c.requires.ended c.requires.within (sym c.kind_at.ensures ∙ c.in-Number.is) (to_z-of_z w32 c.in-Number.value f) refl
