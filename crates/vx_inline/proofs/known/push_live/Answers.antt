use Rattle.vx_inline.proofs.KnownStays.{live_next}
use Rattle.vx_inline.proofs.known.push_live.Goals as goal

pub returns : goal.returns
returns c =
    live_next c.args.functions.now c.args.lives.now.items c.push.new.self.items c.args.place c.args.graph.now c.in_ok-live.live c.requires.low c.requires.graph c.requires.before c.in_ok-live.ensures c.in_ok-push.ensures.items
