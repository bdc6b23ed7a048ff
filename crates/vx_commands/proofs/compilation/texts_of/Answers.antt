-- Compiled words are sound, and so have a text.
use Rattle.std.proofs.lemmas.Result.{IfOk-weaker}
use Rattle.vx_commands.proofs.Answering.{both_ok}
use Rattle.vx_commands.proofs.compilation.texts_of.Goals as goal

pub texts_in-texts-requires : goal.texts_in-texts-requires
texts_in-texts-requires g c = c.in_ok-compiled.ensures.compiled.sound

pub returns : goal.returns
returns g c =
    IfOk-weaker c.texts_in-texts.result _ _
    (λ texts is. record { words = c.in_ok-compiled.compiled.words; plan = c.in_ok-compiled.compiled.plan; compiled = c.in_ok-compiled.ensures; spells = is.0; reports = is.1 })
    (both_ok c.texts_in-texts.result _ _ c.texts_in-texts.ensures.words c.texts_in-texts.ensures.report)
