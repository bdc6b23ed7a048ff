use Rattle.std.proofs.lemmas.Result.{IfOk-weaker}
use Rattle.vx_inline.specs.Finding.{seen}
use Rattle.vx_inline.proofs.KnownStays.{room_known}
use Rattle.vx_inline.proofs.choice.has_room_by.Goals as goal

pub returns : goal.returns
returns c =
    IfOk-weaker c.has_values.result _ _ (λ has h. room_known c.args.asked.now.flow.now c.args.site.now (seen c.args.found.now) c.args.asked.now.known.now c.args.live.now has c.requires.known c.requires.found c.requires.live h) c.has_values.ensures
