use Rattle.std.proofs.Common.{◌∙◌, sym}
use Rattle.vx_sound.proofs.Agreeing.{shown_function}
use Rattle.vx_sound.proofs.sound.is_sound_with.Goals as goal

pub returns-then-is_shown : goal.returns-then-is_shown
returns-then-is_shown c = c.is_named.ensures ∙ shown_function c.args.origins.now c.args.taken.now c.args.flow.now c.args.graph.now (sym c.is_shown.ensures ∙ c.if-is_shown.true) c.requires
