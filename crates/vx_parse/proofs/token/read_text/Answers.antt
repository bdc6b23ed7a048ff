use Rattle.std.proofs.Common.{sym, ◌∙◌, refl}
use Rattle.vx_parse.proofs.Tokens.{reads_text}
use Rattle.vx_parse.proofs.token.read_text.Goals as goal

pub returns-in_ok-copy_of-in-Text-clause-ok : goal.returns-in_ok-copy_of-in-Text-clause-ok
returns-in_ok-copy_of-in-Text-clause-ok c =
    reads_text c.args.tokens.now c.args.place c.in-Text.bytes _ c.requires.ended c.requires.within (sym c.kind_at.ensures ∙ c.in-Text.is) c.in_ok-copy_of-in-Text.ensures.ok refl
