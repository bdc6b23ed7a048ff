use Rattle.std.proofs.Common.{sym, ◌∙◌, refl}
use Rattle.vx_parse.proofs.Tokens.{reads_name}
use Rattle.vx_parse.proofs.token.read_name.Goals as goal

pub returns-in_ok-copy_of-in-Name-clause-ok : goal.returns-in_ok-copy_of-in-Name-clause-ok
returns-in_ok-copy_of-in-Name-clause-ok c =
    reads_name c.args.tokens.now c.args.place c.in-Name.bytes _ c.requires.ended c.requires.within (sym c.kind_at.ensures ∙ c.in-Name.is) c.in_ok-copy_of-in-Name.ensures.ok c.place_at.ensures refl
