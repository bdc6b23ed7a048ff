use Rattle.vx_inline.proofs.KnownStays.{anew_known}
use Rattle.vx_inline.proofs.known.anew_for.Goals as goal

pub returns : goal.returns
returns c = anew_known c.args.new.now c.args.known c.with_live.result c.args.function c.in_ok-live.live c.is_bare_in.result c.args.graph.now c.requires c.in_ok-live.ensures c.is_bare_in.ensures c.with_live.ensures.apart c.with_live.ensures.live c.with_live.ensures.bare
